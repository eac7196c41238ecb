-- A proof of each statement of specs/Statements.
use Rattle.surface.specs.SameCore.{row_count, declaration_count}
use Rattle.token.specs.declared.Class.{Class}
use Rattle.std.specs.Prelude.{Err}
use mathlib.Core.Path.{◌≡◌, refl, sym, ap, ◌∙◌, subst}
use mathlib.Core.Logic.{inl, inr}
use mathlib.Core.Bool.{Bool, true, false}
use mathlib.Core.List.{[]}
use Prim.Native.Nat.{ℕ, ◌<◌, min}
use native.Mathlib.Omega.{arith}
use lib.Dec.{leb}
use lib.ListN.{length, take, length-take}
use lib.Seq.{take_all, take-take, length-take-le}
use borrow.Author.Tests.{leb-true, leb-false}
use Rattle.std.specs.Prelude.{Ok, Err}
use Rattle.token.specs.Token.{next_token}
use Rattle.token.specs.declared.Token.{Token}
use Rattle.token.specs.declared.Refusal.{Refusal}
use Rattle.surface.specs.Answer.{loaded}
use Rattle.surface.specs.Reader.{Position, start, done, nowhere}
use Rattle.surface.specs.SameCore.{row_count, declaration_count}
use Rattle.surface.specs.Reading.{Head, head}
use Rattle.surface.proofs.CompleteModule.{head_reads, head_goes}
use Rattle.surface.proofs.Accepted.{accepts_exactly}
use Rattle.surface.proofs.Reports.{report_tells}
use Rattle.module_name.specs.Answer.{named_at}
use Rattle.module_name.specs.ModuleName.{module_name}
use Rattle.module_name.specs.Statements.{NameOfShortest, RefusalOfWhole, EndsThere, NothingBehind, OnlyThese, NameAsLoaded, NameOfBeginning, FirstBytes, NameTells, AmpleIsEnough, head_refusal}
use Rattle.module_name.proofs.Good.{good_closed, good_elsewhere, good_longer, good_derives, clean_good}
use Rattle.module_name.proofs.Search.{good_names, none_refused}
use Rattle.module_name.proofs.Refusals.{long_heading, heading_for, none_heading, none_names, none_by, none_good, GoodOrNone, good_or_none}
use Rattle.module_name.proofs.Meaning as meaning
use Rattle.module_name.proofs.Ample as ample

pub name_of_shortest : NameOfShortest
name_of_shortest = meaning.name_of_shortest

pub refusal_of_whole : RefusalOfWhole
refusal_of_whole = meaning.refusal_of_whole

-- Two numbers of a name are told as loading's two counts are.
pub name_tells : NameTells
name_tells (Ok m) (Ok n) e =
    let f = report_tells (loaded m.start m.length) (loaded n.start n.length) e in
    let i : m.start ≡ n.start = ap row_count f in
    let j : m.length ≡ n.length = ap declaration_count f in
    λ k. named_at (i k) (j k)
name_tells (Ok n) (Err r) e = absurd (let f = report_tells (loaded n.start n.length) (Err r) e in let z : ◌≡◌ {A = ℕ} 0 1 = cc in omega arith)
name_tells (Err r) (Ok n) e = absurd (let f = report_tells (Err r) (loaded n.start n.length) e in let z : ◌≡◌ {A = ℕ} 0 1 = cc in omega arith)
name_tells (Err r) (Err q) e =
    let f = report_tells (Err r) (Err q) e in
    let i : r ≡ q = cc in
    ap Err i

pub ample_is_enough : AmpleIsEnough
ample_is_enough = ample.ample_is_enough

pub ends_there : EndsThere
ends_there s n k =
    let g = meaning.shortest_good s n k in
    let d = good_derives s g.0 n g.1 in
    let c = good_closed s g.0 n g.1 in
    record {
      declarations = [];
      derives = d.0;
      none = refl;
      parenthesis = c.parenthesis;
      next = ap (λ (t : Token). next_token s t.end) d.1 ∙ c.next;
      closes = c.closes;
      last = c.last;
      byte = c.byte;
    }

pub nothing_behind : NothingBehind
nothing_behind s r n k e =
    let g = meaning.shortest_good s n k in
    let a : length (take n r) ≡ min n (length r) = length-take n r in
    let b : length (take n s) ≡ n = length-take-le n s k.within in
    let c : length (take n r) ≡ length (take n s) = ap length e in
    good_names r g.0 n (good_elsewhere s r g.0 n g.1 (omega arith) (sym e)) ∙ sym (good_names s g.0 n g.1)

pub only_these : OnlyThese
only_these s r e = go (good_or_none s)
  where
    go : GoodOrNone s → head_refusal r.class ≡ true
    go (inl (h, n, g)) = let f = sym (good_names s h n g) ∙ e in absurd (let z : ◌≡◌ {A = ℕ} 0 1 = cc in omega arith)
    go (inr f) =
        let c = none_heading s f in
        let i = sym (none_names s c.0 f c.1) ∙ e in
        let j : c.0 ≡ r = cc in
        subst (λ (x : Refusal). head_refusal x.class ≡ true) j (heading_for s c.0 c.1)

pub name_as_loaded : NameAsLoaded
name_as_loaded s z a =
    let c = (accepts_exactly s z).0.0 a in
    let r = c.1 in
    let d = r.derives in
    let b = head_goes d.head 0 d.lexed in
    let h : Head = record { edition = d.edition; name = d.name } in
    let p : Position = record { offset = b.end; rows = 0 } in
    let e : head s start ≡ done h p = head_reads b.derived start b.end b.run in
    (h, p, e, good_names s h b.end (clean_good s h p e r.short r.well_formed r.unmarked))

pub name_of_beginning : NameOfBeginning
name_of_beginning s n a l e = go (good_or_none (take n s))
  where
    go : GoodOrNone (take n s) → module_name s ≡ named_at a l
    go (inl (h, m, g)) = good_names s h m (good_longer s n h m g).1 ∙ sym (good_names (take n s) h m g) ∙ e
    go (inr f) = let w = sym (none_refused (take n s) f).answers ∙ e in absurd (let z : ◌≡◌ {A = ℕ} 0 1 = cc in omega arith)

pub first_bytes : FirstBytes
first_bytes s n h = by_length (leb (length s) n) refl
  where
    beyond : n < length s → GoodOrNone (take n s) → module_name (take n s) ≡ module_name s
    beyond l (inl (x, m, g)) = good_names (take n s) x m g ∙ sym (good_names s x m (good_longer s n x m g).1)
    beyond l (inr f) =
        let k : length (take n s) ≡ n = length-take-le n s (omega arith) in
        let none = none_by s (λ x m g. none_good (take n s) f x m (good_elsewhere s (take n s) x m g (omega (arith, g.short, k)) (sym (take-take m n s (omega (arith, g.short)))))) in
        none_names (take n s) (nowhere Class.LongSource) f (long_heading (take n s) (omega arith)) ∙ sym (none_names s (nowhere Class.LongSource) none (long_heading s (omega arith)))

    by_length : (b : Bool) → leb (length s) n ≡ b → module_name (take n s) ≡ module_name s
    by_length true e = ap module_name (take_all n s (leb-true (length s) n e))
    by_length false e = beyond (leb-false (length s) n e) (good_or_none (take n s))
