-- The shortest beginning that is accepted is a good head, and the other way round.
use Rattle.std.specs.Prelude.{Err}
use mathlib.Core.Path.{◌≡◌, sym, ap, ◌∙◌, subst}
use mathlib.Core.Logic.{inl, inr}
use mathlib.Core.List.{List, []}
use Prim.Native.Nat.{ℕ, ◌-◌}
use native.Mathlib.Omega.{arith}
use lib.ListN.{take}
use Rattle.std.specs.Prelude.{Ok, Err}
use Rattle.token.specs.declared.Token.{Token}
use Rattle.surface.specs.Reader.{start}
use Rattle.surface.specs.Reading.{Head}
use Rattle.surface.proofs.Steps.{done_inj}
use Rattle.surface.proofs.CompleteModule.{head_reads, head_goes}
use Rattle.surface.specs.Tables.{ample}
use Rattle.module_name.specs.declared.Span.{Span}
use Rattle.module_name.specs.Answer.{ModuleName, named_at}
use Rattle.module_name.specs.ModuleName.{module_name}
use Rattle.module_name.specs.Statements.{NoBeginning, WholeRefused, Shortest, NameIn, NameOfShortest, RefusalOfWhole}
use Rattle.module_name.proofs.Good.{Good, good_head, good_closed, good_unique, good_itself, good_derives, good_would, accepted_good}
use Rattle.module_name.proofs.Search.{good_names, none_refused}
use Rattle.module_name.proofs.Refusals.{heading_answers, none_heading, none_names, GoodOrNone, good_or_none}

pub good_shortest : (s : List ℕ) (h : Head) (n : ℕ) → Good s h n → Shortest s n
good_shortest s h n g = record {
  within = (good_closed s h n g).within;
  accepted = good_would s h n g;
  least = λ m a. let b = accepted_good s m a in omega (arith, b.within, (good_unique s h b.head_read n b.end g b.good).1);
}

pub shortest_good : (s : List ℕ) (n : ℕ) → Shortest s n → (h : Head) × Good s h n
shortest_good s n k =
    let b = accepted_good s n k.accepted in
    let i : b.end ≡ n = omega (arith, b.within, k.least b.end (good_would s b.head_read b.end b.good)) in
    (b.head_read, subst (Good s b.head_read) i b.good)

-- The name in it is the head's, by whatever derivation.
pub derived_name : (s : List ℕ) (h : Head) (n : ℕ) → Good s h n → (a l : ℕ) → NameIn (take n s) a l → (a ≡ h.name.start) × (l ≡ h.name.end - h.name.start)
derived_name s h n g a l k =
    let d = k.derives in
    let r = head_goes d.head 0 d.lexed in
    let e = (done_inj (sym (head_reads r.derived start r.end r.run) ∙ good_head (take n s) h n (good_itself s h n g))).0 in
    (k.starts ∙ ap (λ (j : Head). j.name.start) e, k.long ∙ ap (λ (j : Head). j.name.end - j.name.start) e)

good_name_in : (s : List ℕ) (h : Head) (n : ℕ) → Good s h n → NameIn (take n s) h.name.start (h.name.end - h.name.start)
good_name_in s h n g =
    let d = good_derives s h n g in
    record {
      declarations = [];
      derives = d.0;
      starts = ap (λ (t : Token). t.start) (sym d.1);
      long = ap (λ (t : Token). t.end - t.start) (sym d.1);
    }

ok_inj : {m n : Span} → ◌≡◌ {A = ModuleName} (Ok m) (Ok n) → m ≡ n
ok_inj e = cc

pub name_of_shortest : NameOfShortest
name_of_shortest s a l = (forth (good_or_none s), back)
  where
    forth : GoodOrNone s → module_name s ≡ named_at a l → (n : ℕ) × Shortest s n × NameIn (take n s) a l
    forth (inl (h, n, g)) e =
        let f = ok_inj (sym (good_names s h n g) ∙ e) in
        let x : h.name.start ≡ a = ap (λ (n : Span). n.start) f in
        let y : h.name.end - h.name.start ≡ l = ap (λ (n : Span). n.length) f in
        (n, good_shortest s h n g, subst (NameIn (take n s) a) y (subst (λ (b : ℕ). NameIn (take n s) b (h.name.end - h.name.start)) x (good_name_in s h n g)))
    forth (inr f) e = let w = sym (none_refused s f).answers ∙ e in absurd (let z : ◌≡◌ {A = ℕ} 0 1 = cc in omega arith)

    back : (n : ℕ) × Shortest s n × NameIn (take n s) a l → module_name s ≡ named_at a l
    back (n, k, i) =
        let g = shortest_good s n k in
        let e = derived_name s g.0 n g.1 a l i in
        good_names s g.0 n g.1 ∙ (λ j. named_at (sym e.0 j) (sym e.1 j))

pub refusal_of_whole : RefusalOfWhole
refusal_of_whole s r = (forth (good_or_none s), back)
  where
    forth : GoodOrNone s → module_name s ≡ Err r → NoBeginning s × WholeRefused s r
    forth (inl (h, n, g)) e = let f = sym (good_names s h n g) ∙ e in absurd (let z : ◌≡◌ {A = ℕ} 0 1 = cc in omega arith)
    forth (inr f) e =
        let c = none_heading s f in
        let i = sym (none_names s c.0 f c.1) ∙ e in
        let j : c.0 ≡ r = cc in
        (f, λ z w. heading_answers s z c.0 w c.1 ∙ ap Err j)

    back : NoBeginning s × WholeRefused s r → module_name s ≡ Err r
    back (f, g) =
        let c = none_heading s f in
        let i = sym (heading_answers s (ample s 16384) c.0 (omega arith) c.1) ∙ g (ample s 16384) (omega arith) in
        let j : c.0 ≡ r = cc in
        none_names s c.0 f c.1 ∙ ap Err j
