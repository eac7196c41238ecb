-- What is found in a head, and what that makes of the answer.
use Rattle.std.specs.Prelude.{Ok, Err}
use Rattle.expects.specs.Answers.{HeadRead}
use Rattle.token.specs.declared.Class.{Class}
use mathlib.Core.Path.{◌≡◌, refl, sym, ap, ◌∙◌}
use mathlib.Core.List.{List}
use mathlib.Core.Bool.{Bool, true, false, not, cond}
use Prim.Native.Nat.{ℕ, ◌-◌, ◌≤◌, ◌<◌}
use native.Mathlib.Omega.{arith}
use lib.Dec.{leb, eqb}
use lib.ListN.{length, take}
use lib.Seq.{take-take, length-take-le}
use borrow.Author.Tests.{le-leb, eqb-true, eq-eqb, ne_eqb}
use Rattle.std.specs.Prelude.{Ok, Err, MatchResult, IsErrAnd}
use Rattle.token.specs.declared.Token.{Token}
use Rattle.token.specs.declared.Refusal.{Refusal}
use Rattle.utf8.specs.Utf8.{valid_length, byte_order_mark}
use Rattle.utf8.proofs.Beginnings.{unmarked_beginning}
use Rattle.surface.specs.Reader.{Position, start, Result, done, refused, after, require, nowhere, at_offset}
use Rattle.surface.specs.Reading.{Head, head}
use Rattle.surface.proofs.Takes.{require_go, require_stops}
use Rattle.surface.proofs.SoundModule.{head_done}
use Rattle.surface.proofs.Acceptance.{whole_valid}
use Rattle.module_name.specs.Answer.{ModuleName, named_at}
use Rattle.module_name.specs.ModuleName.{module_name}
use Rattle.module_name.specs.Statements.{NoBeginning}
use Rattle.module_name.proofs.HeadLocal.{Closed, head_closed}
use Rattle.module_name.proofs.Good.{Good, good_closed, good_head, good_elsewhere, read_good, clean_good}
use Rattle.module_name.proofs.Marked.{marked_head, head_unmarked}
use Rattle.module_name.proofs.Search.{named, good_names}
use Rattle.module_name.proofs.Refusals.{heading, long_heading, none_by, none_good, none_names}
use Rattle.module_name.proofs.Statements.{name_of_beginning}
use Rattle.expects.specs.declared.Format.{Format}
use Rattle.expects.specs.Formats.{edition}
use Rattle.expects.specs.Expects.{position_at, head_read, Heads}
use Rattle.head.specs.inner.InHead.{in_head}

apart : {P : Type 0} → ◌≡◌ {A = ℕ} 0 1 → P
apart z = absurd (omega arith)

pub head_ends : (s : List ℕ) (h : Head) (p : Position) → head s start ≡ done h p → Closed s h.name p.offset
head_ends s h p e = let d = head_done s start p h e in head_closed d.derived p.offset d.run

abbrev found : List ℕ → ModuleName
found s = in_head s (head s start)

-- A good head is found.
good_found : (s : List ℕ) (h : Head) (n : ℕ) → Good s h n → found s ≡ named h
good_found s h n g =
    let l : length (take n s) ≡ n = length-take-le n s (good_closed s h n g).within in
    let v : valid_length (take n s) ≡ n = (whole_valid (take n s)).1 g.well_formed ∙ l in
    ap (in_head s) (good_head s h n g) ∙ ap (λ (b : Bool). cond b (named h) (Err (at_offset Class.Malformed (valid_length (take n s))))) (eq-eqb _ n v)

pub found_none : (s : List ℕ) (r : Refusal) → found s ≡ Err r → NoBeginning s
found_none s r e = none_by s (λ h n g. let f = sym (good_found s h n g) ∙ e in apart cc)

-- What is found is good, in a source that is not too long.
read_found : (s : List ℕ) (h : Head) (p : Position) → head s start ≡ done h p → length s ≤ 65535 → valid_length (take p.offset s) ≡ p.offset → Good s h p.offset
read_found s h p e i v =
    let c = head_ends s h p e in
    let l : length (take p.offset s) ≡ p.offset = length-take-le p.offset s c.within in
    read_good s h p e (omega (arith, c.within)) ((whole_valid _).0 (v ∙ sym l)) (unmarked_beginning s p.offset (head_unmarked s h p e))

pub found_names : (s : List ℕ) (a l : ℕ) → length s ≤ 65535 → found s ≡ named_at a l → module_name s ≡ named_at a l
found_names s a l i e = by_head (head s start) refl e
  where
    by_test : (h : Head) (p : Position) → head s start ≡ done h p → (b : Bool) → eqb (valid_length (take p.offset s)) p.offset ≡ b
        → cond b (named h) (Err (at_offset Class.Malformed (valid_length (take p.offset s)))) ≡ named_at a l → module_name s ≡ named_at a l
    by_test h p f true g k = good_names s h p.offset (read_found s h p f i (eqb-true _ _ g)) ∙ k
    by_test h p f false g k = apart cc

    by_head : (x : Result Head) → head s start ≡ x → in_head s x ≡ named_at a l → module_name s ≡ named_at a l
    by_head (done h p) f g = by_test h p f (eqb (valid_length (take p.offset s)) p.offset) refl g
    by_head (refused r) f g = apart cc

-- Without a good head the whole source decides.
module _ (s : List ℕ) (r : Refusal) (e : found s ≡ Err r) (short : length s ≤ 65535) where
  pub broken_whole : (valid_length s ≡ length s → ⊥) → module_name s ≡ Err (at_offset Class.Malformed (valid_length s))
  unfolding heading
  broken_whole n =
      none_names s _ (found_none s r e)
      (require_go (leb (length s) 65535) _ start _ _ (le-leb (length s) 65535 short)
      (require_stops (eqb (valid_length s) (length s)) _ start _ (ne_eqb _ _ n)))

  -- UTF-8 in the whole, so in the beginning too: what was found is what the head was refused for.
  own_fault : valid_length s ≡ length s → head s start ≡ refused r
  own_fault v = by_head (head s start) refl e
    where
      by_head : (x : Result Head) → head s start ≡ x → in_head s x ≡ Err r → x ≡ refused r
      by_head (refused c) f g = ap {B = Result Head} refused (let i : c ≡ r = cc in i)
      by_head (done h p) f g = absurd (none_good s (found_none s r e) h p.offset (clean_good s h p f short ((whole_valid s).0 v) (head_unmarked s h p f)))

  pub own_whole : valid_length s ≡ length s → module_name s ≡ Err r
  unfolding heading
  own_whole v =
      none_names s r (found_none s r e)
      (require_go (leb (length s) 65535) _ start _ _ (le-leb (length s) 65535 short)
      (require_go (eqb (valid_length s) (length s)) _ start _ _ (eq-eqb _ _ v) (by_mark (byte_order_mark s) refl)))
    where
      by_mark : (b : Bool) → byte_order_mark s ≡ b → ◌≡◌ {A = Result Head} (after (require (not b) (at_offset Class.Malformed 0) start) (λ _. head s)) (refused r)
      by_mark true f = sym (marked_head s f) ∙ own_fault v
      by_mark false f = own_fault v

-- A source over 65,535 bytes, by its first ones.
module _ (s : List ℕ) (long : 65535 < length s) where
  pub first_long : length (take 65535 s) ≡ 65535
  first_long = length-take-le 65535 s (omega arith)

  pub long_named : (a l : ℕ) → found (take 65535 s) ≡ named_at a l → module_name s ≡ named_at a l
  long_named a l e = name_of_beginning s 65535 a l (found_names (take 65535 s) a l (omega (arith, first_long)) e)

  pub long_refused : (r : Refusal) → found (take 65535 s) ≡ Err r → module_name s ≡ Err (nowhere Class.LongSource)
  long_refused r e =
      none_names s (nowhere Class.LongSource)
      (none_by s (λ h n g. none_good (take 65535 s) (found_none (take 65535 s) r e) h n
      (good_elsewhere s (take 65535 s) h n g (omega (arith, g.short, first_long)) (sym (take-take n 65535 s g.short)))))
      (long_heading s long)

  -- The name that its first ones give, or 6 for any refusal.
  pub long_answer : (x : ModuleName) → found (take 65535 s) ≡ x → (y : ModuleName) (P : Refusal → Refusal → Type 0)
      → MatchResult x (λ n. y ≡ Ok n) (λ e. IsErrAnd y (P e)) → ((e r : Refusal) → P e r → r ≡ nowhere Class.LongSource) → y ≡ module_name s
  long_answer (Ok n) e y P h k = h ∙ sym (long_named n.start n.length e)
  long_answer (Err q) e (Ok n) P h k = elim h [ ]
  long_answer (Err q) e (Err r) P h k = ap Err (k q r h) ∙ sym (long_refused q e)

-- The head as the code reads it.
module _ (s : List ℕ) (r : HeadRead) (reads : Heads s r) where
  pub read_refused : (q : Refusal) → r ≡ Err q → Err q ≡ found s
  read_refused q e = sym (ap (in_head s) (reads 0 ∙ ap (head_read 0) e))

  module _ (f : Format) (x : Token) (n : ℕ) (e : r ≡ Ok (record { format = f; name = x; next = n })) where
    read_head_done : head s start ≡ done (record { edition = edition f; name = x }) (position_at n 0)
    read_head_done = reads 0 ∙ ap (head_read 0) e

    pub read_within : n ≤ length s
    read_within = (head_ends s _ _ read_head_done).within

    pub read_span : (x.start ≤ x.end) × (x.end ≤ n)
    read_span = let c = head_ends s _ _ read_head_done in (omega (arith, c.named), omega (arith, c.behind))

    module _ (valid : ℕ) (v : valid ≡ valid_length (take n s)) where
      abbrev tested : Bool → ModuleName
      tested b = cond b (named_at x.start (x.end - x.start)) (Err (at_offset Class.Malformed (valid_length (take n s))))

      pub read_named : valid ≡ n → named_at x.start (x.end - x.start) ≡ found s
      read_named h = sym (ap (in_head s) read_head_done ∙ ap tested (eq-eqb _ n (sym v ∙ h)))

      pub read_broken : (q : Refusal) → q ≡ at_offset Class.Malformed valid → (valid ≡ n → ⊥) → Err q ≡ found s
      read_broken q m h = ap Err (m ∙ ap (at_offset Class.Malformed) v) ∙ sym (ap (in_head s) read_head_done ∙ ap tested (ne_eqb _ n (λ k. h (v ∙ k))))
