-- Good heads: a beginning that is nothing but a head, and is accepted by itself.
use mathlib.Core.Path.{◌≡◌, refl, sym, ap, ◌∙◌, subst}
use mathlib.Core.List.{List, [], ◌++◌}
use mathlib.Core.Option.{none}
use mathlib.Core.Bool.{false}
use Prim.Native.Nat.{ℕ, suc, ◌-◌, ◌≤◌, min}
use native.Mathlib.Omega.{arith}
use lib.ListN.{length, take, length-take}
use lib.Seq.{take-take, length-take-le}
use Rattle.token.specs.Token.{next_token, token}
use Rattle.token.specs.declared.TokenKind.{TokenKind}
use Rattle.token.specs.declared.Token.{Token}
use Rattle.token.proofs.Runs.{next_at, layout_over, here_end}
use Rattle.token.proofs.Local.{agree_of}
use Rattle.utf8.specs.Utf8.{byte_order_mark, WellFormed}
use Rattle.utf8.proofs.Beginnings.{whole_beginning, unmarked_beginning}
use Rattle.terms.specs.Label.{Declaration}
use Rattle.terms.specs.Resolution.{first_refused}
use Rattle.surface.specs.Grammar.{the_end, Head, Derives, no_declaration}
use Rattle.surface.specs.Reader.{Position, start, Result, done}
use Rattle.surface.specs.Reading.{Head as HeadRead, head}
use Rattle.surface.specs.Tables.{Lengths, ample}
use Rattle.surface.specs.SameCore.{Accepts}
use Rattle.surface.specs.Loading.{loading, outcome, load}
use Rattle.surface.specs.Statements.{Readable}
use Rattle.surface.proofs.Steps.{done_inj}
use Rattle.surface.proofs.Runs.{Run, run_tokens}
use Rattle.surface.proofs.SoundModule.{head_done, head_before}
use Rattle.surface.proofs.CompleteModule.{head_reads, head_goes}
use Rattle.surface.proofs.Acceptance.{loads_exactly}
use Rattle.surface.proofs.Accepted.{accepts_exactly}
use Rattle.module_name.specs.Statements.{WouldBeAccepted}
use Rattle.module_name.proofs.HeadLocal.{Closed, head_local, head_closed}

abbrev at_end : ℕ → Position
at_end n = record { offset = n; rows = 0 }

-- The beginning of n bytes is a head, and would pass the tests of a whole source.
pub record Good (s : List ℕ) (h : HeadRead) (n : ℕ) : Type 0 where
  pub tokens : List Token
  pub run : Run (next_token s) 0 tokens n
  pub derived : Head s tokens h.edition h.name []
  pub short : n ≤ 65535
  pub well_formed : WellFormed (take n s)
  pub unmarked : byte_order_mark (take n s) ≡ false

pub good_closed : (s : List ℕ) (h : HeadRead) (n : ℕ) → Good s h n → Closed s h.name n
good_closed s h n g = head_closed g.derived n g.run

pub good_head : (s : List ℕ) (h : HeadRead) (n : ℕ) → Good s h n → head s start ≡ done h (at_end n)
good_head s h n g = head_reads g.derived start n g.run

-- There is one at most.
pub good_unique : (s : List ℕ) (h k : HeadRead) (n m : ℕ) → Good s h n → Good s k m → (h ≡ k) × (n ≡ m)
good_unique s h k n m g i = let e = done_inj (sym (good_head s h n g) ∙ good_head s k m i) in (e.0, ap (λ (p : Position). p.offset) e.1)

-- Another source that begins so has it too.
pub good_elsewhere : (s r : List ℕ) (h : HeadRead) (n : ℕ) → Good s h n → n ≤ length r → take n s ≡ take n r → Good r h n
good_elsewhere s r h n g i e =
    let k = head_local s r n (agree_of n s r (good_closed s h n g).within i e) g.derived g.run in
    record {
      tokens = g.tokens;
      run = k.0;
      derived = k.1;
      short = g.short;
      well_formed = subst WellFormed e g.well_formed;
      unmarked = subst (λ (l : List ℕ). byte_order_mark l ≡ false) e g.unmarked;
    }

-- So the beginning has it by itself.
pub good_itself : (s : List ℕ) (h : HeadRead) (n : ℕ) → Good s h n → Good (take n s) h n
good_itself s h n g =
    let i = (good_closed s h n g).within in
    good_elsewhere s (take n s) h n g (omega (arith, length-take-le n s i)) (sym (take-take n n s (omega arith)))

-- A head of a longer beginning is one of the source.
pub good_longer : (s : List ℕ) (m : ℕ) (h : HeadRead) (n : ℕ) → Good (take m s) h n → (n ≤ m) × Good s h n
good_longer s m h n g =
    let l : length (take m s) ≡ min m (length s) = length-take m s in
    let i = (good_closed (take m s) h n g).within in
    (omega arith, good_elsewhere (take m s) s h n g (omega arith) (take-take n m s (omega arith)))

-- What is read as a head is good, if its end is not too far and the beginning is UTF-8 without the mark.
pub read_good : (s : List ℕ) (h : HeadRead) (p : Position) → head s start ≡ done h p → p.offset ≤ 65535 → WellFormed (take p.offset s) → byte_order_mark (take p.offset s) ≡ false → Good s h p.offset
read_good s h p e i w u =
    let d = head_done s start p h e in
    record { tokens = d.nine; run = d.run; derived = d.derived; short = i; well_formed = w; unmarked = u }

-- It is if the whole source is so: a beginning that ends with an ASCII byte is UTF-8 with the whole.
pub clean_good : (s : List ℕ) (h : HeadRead) (p : Position) → head s start ≡ done h p → length s ≤ 65535 → WellFormed s → byte_order_mark s ≡ false → Good s h p.offset
clean_good s h p e i w u =
    let n = p.offset in
    let d = head_done s start p h e in
    let c = head_closed d.derived n d.run in
    let j : suc (n - 1) ≡ n = omega (arith, c.some) in
    read_good s h p e (omega (arith, c.within))
    (subst (λ (m : ℕ). WellFormed (take m s)) j (whole_beginning s [] (n - 1) refl (omega (arith, c.some, c.within)) (omega (arith, c.byte)) w)) (unmarked_beginning s n u)

-- A good head is accepted by itself, with any tables and a work area.
end_token : (t : List ℕ) (n : ℕ) → length t ≡ n → next_token t n ≡ token TokenKind.Eof n n
end_token t n e = next_at t n n (sym (layout_over t n false (omega arith))) ∙ here_end t n (omega arith)

no_names : (s : List ℕ) → first_refused s [] [] ≡ none
unfolding first_refused
no_names s = refl

pub good_derives : (s : List ℕ) (h : HeadRead) (n : ℕ) → Good s h n → (d : Derives (take n s) []) × (d.name ≡ h.name)
good_derives s h n g =
    let k = good_itself s h n g in (
      record {
        tokens = k.tokens ++ [];
        lexed = run_tokens k.run (the_end (end_token (take n s) n (length-take-le n s (good_closed s h n g).within)) refl);
        edition = h.edition;
        name = h.name;
        rest = [];
        head = head_before k.derived [];
        declarations = no_declaration;
      },
      refl,
    )

pub good_accepted : (s : List ℕ) (h : HeadRead) (n : ℕ) → Good s h n → (z : Lengths) → 16384 ≤ z.work → (q : Position) × (loading (take n s) z start ≡ done [] q)
good_accepted s h n g z w =
    let t = take n s in
    let l : length t ≡ n = length-take-le n s (good_closed s h n g).within in
    (loads_exactly t z []).1 (
      record {
        short = omega (arith, l, g.short);
        well_formed = g.well_formed;
        unmarked = g.unmarked;
        derives = (good_derives s h n g).0;
        shallow = omega arith;
      },
      record { surface = omega arith; core = omega arith; declarations = omega arith; work = w },
      no_names t,
    )

pub good_would : (s : List ℕ) (h : HeadRead) (n : ℕ) → Good s h n → WouldBeAccepted (take n s)
unfolding load
good_would s h n g =
    let t = take n s in
    let z = ample t 16384 in
    let a = good_accepted s h n g z (omega arith) in
    (z, subst (λ (x : Result (List Declaration)). Accepts (outcome t z x)) (sym a.1) (a.0.rows, 0, refl))

-- What is accepted has a good head, with the name that the grammar gives.
pub record Heads (s : List ℕ) (m : ℕ) (ds : List Declaration) (d : Derives (take m s) ds) : Type 0 where
  pub end : ℕ
  pub within : end ≤ m
  pub good : Good s (record { edition = d.edition; name = d.name }) end

pub readable_good : (s : List ℕ) (m : ℕ) (ds : List Declaration) (r : Readable (take m s) ds) → Heads s m ds r.derives
readable_good s m ds r =
    let d = r.derives in
    let a = head_goes d.head 0 d.lexed in
    let g = clean_good (take m s) _ (at_end a.end) (head_reads a.derived start a.end a.run) r.short r.well_formed r.unmarked in
    let c = good_longer s m _ a.end g in
    record { end = a.end; within = c.0; good = c.1 }

pub record Begins (s : List ℕ) (m : ℕ) : Type 0 where
  pub head_read : HeadRead
  pub end : ℕ
  pub within : end ≤ m
  pub good : Good s head_read end

pub accepted_good : (s : List ℕ) (m : ℕ) → WouldBeAccepted (take m s) → Begins s m
accepted_good s m (z, a) =
    let c = (accepts_exactly (take m s) z).0.0 a in
    let b = readable_good s m c.0 c.1 in
    record { head_read = _; end = b.end; within = b.within; good = b.good }
