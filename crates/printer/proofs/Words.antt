-- What is written for a kind: the table of words against the forms of core text, by computed tests over all kinds.
use mathlib.Core.Path.{◌≡◌, refl, sym, ap, ◌∙◌}
use mathlib.Core.List.{List, [], ◌∷◌, ◌++◌}
use mathlib.Core.Option.{Option, none, some}
use mathlib.Core.Bool.{Bool, true, false, ◌&&◌, cond, and-eq-true_iff}
use Prim.Native.Nat.{ℕ, ◌≤◌, ◌<◌}
use native.Mathlib.Omega.{arith}
use native.Mathlib.Decide.{dec_lt}
use lib.Dec.{eqb, ltb, leb}
use lib.ListN.{replicate, get_or-replicate}
use borrow.Author.Tests.{eqb-true, eq-eqb, ne_eqb, ltb-true, leb-true, le-leb}
use Rattle.terms.specs.Forms.{Shape, alone, with_name, with_numeral, binding, plain, Form, arrow, forms, forms_0_2, form_of_kind, arity_of, holds_span_in}
use Rattle.terms.specs.Label.{Name, part}
use Rattle.rows.proofs.Arities.{values, value_at, same_value, no_arity}
use Rattle.kind_words.specs.KindWords.{word_of_kind}
use Rattle.terms.specs.TextForms.{text_forms}
use Rattle.printing.specs.Decimal.{decimal}
use Rattle.printing.specs.Printing.{print_shape, print_form}
use Rattle.printer.specs.inner.Machine.{holds_numeral, text_word, opening, leaf, numeral_of, spelled_row}

-- A test that every kind below n passes.
tested : (p : ℕ → Bool) (n k : ℕ) → replicate n true ≡ values p 0 n → k < n → p k ≡ true
tested p n k e h = sym (value_at p (replicate n true) true n k e h) ∙ get_or-replicate n k true true h

-- No form of core text has a kind from 24 on.
abbrev every : (Form → Bool) → List Form → Bool
every p [] = true
every p (f ∷ l) = p f && every p l

no_form : (n k : ℕ) (l : List Form) → every (λ f. ltb f.kind n) l ≡ true → n ≤ k → form_of_kind k l ≡ none
unfolding form_of_kind
no_form n k [] e h = refl
no_form n k (f ∷ l) e h =
    let b = (and-eq-true_iff (ltb f.kind n) (every (λ g. ltb g.kind n) l)).0 e in
    rw (ne_eqb k f.kind (λ q. omega (arith, ltb-true f.kind n b.0)), form_of_kind) (no_form n k l b.1 h)

pub no_text_form : (k : ℕ) → 24 ≤ k → form_of_kind k text_forms ≡ none
unfolding text_forms forms
no_text_form k h = no_form 24 k text_forms refl h

-- Its word.
pub word_behind : (k : ℕ) → 24 ≤ k → text_word k ≡ []
unfolding text_word
word_behind k h = rw (no_text_form k h, text_word)

pub word_below : (k : ℕ) → k < 24 → text_word k ≡ word_of_kind k
unfolding text_word word_of_kind form_of_kind text_forms forms
word_below k h = same_value word_of_kind text_word [] 24 k refl h

-- How it is written: the shape of its form, as a number.
shape_number : Shape → ℕ
shape_number alone = 1
shape_number with_name = 4
shape_number with_numeral = 2
shape_number binding = 4
shape_number plain = 3

written_as : Option Form → ℕ
written_as none = 0
written_as (some f) = shape_number f.shape

abbrev word : Option Form → List ℕ
word o = elim o as (λ _. List ℕ) [ none ↦ [] | some f ↦ f.word ]

as_plain : (o : Option Form) (n : Name) (args : List ℕ) → written_as o ≡ 3 → print_form o n args ≡ 40 ∷ (word o ++ (args ++ (41 ∷ [])))
unfolding written_as shape_number print_form print_shape
as_plain none n args e = absurd (omega arith)
as_plain (some f) n args e = go f.shape e
  where
    go : (c : Shape) → shape_number c ≡ 3 → print_shape f c n args ≡ 40 ∷ (f.word ++ (args ++ (41 ∷ [])))
    go alone e = absurd (omega arith)
    go with_name e = absurd (omega arith)
    go with_numeral e = absurd (omega arith)
    go binding e = absurd (omega arith)
    go plain e = refl

as_alone : (o : Option Form) (n : Name) → written_as o ≤ 1 → print_form o n [] ≡ word o
unfolding written_as shape_number print_form print_shape
as_alone none n e = refl
as_alone (some f) n e = go f.shape e
  where
    go : (c : Shape) → shape_number c ≤ 1 → print_shape f c n [] ≡ f.word
    go alone e = refl
    go with_name e = absurd (omega arith)
    go with_numeral e = absurd (omega arith)
    go binding e = absurd (omega arith)
    go plain e = absurd (omega arith)

as_numeral : (o : Option Form) (n : Name) → written_as o ≡ 2 → print_form o n [] ≡ 40 ∷ (word o ++ (32 ∷ (n ++ (41 ∷ []))))
unfolding written_as shape_number print_form print_shape
as_numeral none n e = absurd (omega arith)
as_numeral (some f) n e = go f.shape e
  where
    go : (c : Shape) → shape_number c ≡ 2 → print_shape f c n [] ≡ 40 ∷ (f.word ++ (32 ∷ (n ++ (41 ∷ []))))
    go alone e = absurd (omega arith)
    go with_name e = absurd (omega arith)
    go with_numeral e = refl
    go binding e = absurd (omega arith)
    go plain e = absurd (omega arith)

-- A kind that has arguments is written with them; var, global and universe with a numeral; every other kind is its word alone.
abbrev small : ℕ → Bool
small k = leb 1 k && leb k 3

is_small : (k : ℕ) → 1 ≤ k → k ≤ 3 → small k ≡ true
is_small k a b = (and-eq-true_iff (leb 1 k) (leb k 3)).1 (le-leb 1 k a, le-leb k 3 b)

not_small : (k : ℕ) → ¬ ((1 ≤ k) × (k ≤ 3)) → small k ≡ false
not_small k h = go (small k) refl
  where
    go : (b : Bool) → small k ≡ b → b ≡ false
    go false e = refl
    go true e = let w = (and-eq-true_iff (leb 1 k) (leb k 3)).0 e in absurd (h (leb-true 1 k w.0, leb-true k 3 w.1))

abbrev right : ℕ → Bool
right k =
    let w = written_as (form_of_kind k text_forms) in
    cond (small k) (eqb w 2) (cond (eqb (arity_of k) 0) (leb w 1) (eqb w 3))

all_right : (k : ℕ) → k < 25 → right k ≡ true
unfolding written_as shape_number arity_of form_of_kind text_forms forms forms_0_2
all_right k h = tested right 25 k refl h

small_leaf : (k : ℕ) → k < 25 → cond (small k) (eqb (arity_of k) 0) true ≡ true
unfolding arity_of form_of_kind forms forms_0_2
small_leaf k h = tested (λ k. cond (small k) (eqb (arity_of k) 0) true) 25 k refl h

module _ (k : ℕ) (n : Name) where
  pub print_plain : (args : List ℕ) → ¬ (k ≡ arrow) → ¬ (arity_of k ≡ 0) → print_form (form_of_kind k text_forms) n args ≡ 40 ∷ (text_word k ++ (args ++ (41 ∷ [])))
  unfolding text_word
  print_plain args u h = go (dec_lt k 25)
    where
      go : Dec (k < 25) → print_form (form_of_kind k text_forms) n args ≡ 40 ∷ (text_word k ++ (args ++ (41 ∷ [])))
      go (yes l) =
          let s = not_small k (λ w. h (eqb-true _ _ (rw (is_small k w.0 w.1) at (small_leaf k l)))) in
          as_plain (form_of_kind k text_forms) n args (eqb-true _ _ (rw (s, ne_eqb (arity_of k) 0 h) at (all_right k l)))
      go (no l) = absurd (h (no_arity k (omega arith)))

  pub print_numeral : 1 ≤ k → k ≤ 3 → print_form (form_of_kind k text_forms) n [] ≡ 40 ∷ (text_word k ++ (32 ∷ (n ++ (41 ∷ []))))
  unfolding text_word
  print_numeral a b = as_numeral (form_of_kind k text_forms) n (eqb-true _ _ (rw (is_small k a b) at (all_right k (omega arith))))

  pub print_alone : arity_of k ≡ 0 → ¬ ((1 ≤ k) × (k ≤ 3)) → print_form (form_of_kind k text_forms) n [] ≡ text_word k
  unfolding text_word written_as
  print_alone e h = go (dec_lt k 25)
    where
      go : Dec (k < 25) → print_form (form_of_kind k text_forms) n [] ≡ text_word k
      go (yes l) = as_alone (form_of_kind k text_forms) n (leb-true _ _ (rw (not_small k h, eq-eqb (arity_of k) 0 e) at (all_right k l)))
      go (no l) = as_alone (form_of_kind k text_forms) n (rw (no_text_form k (omega arith), written_as) (omega arith))

-- No kind from 26 on has arguments.
pub frame_kind : (k n : ℕ) → n ≡ arity_of k → ¬ (n ≡ 0) → k < 26
frame_kind k n e h = go (dec_lt k 26)
  where
    go : Dec (k < 26) → k < 26
    go (yes l) = l
    go (no l) = absurd (h (e ∙ no_arity k (omega arith)))

-- The kinds with a numeral.
pub with_numerals : (k : ℕ) → 1 ≤ k → k ≤ 3 → holds_numeral k ≡ true
unfolding holds_span_in form_of_kind text_forms forms
with_numerals k a b = same_value small holds_numeral false 24 k refl (omega arith) ∙ is_small k a b

pub without_numerals : (k : ℕ) → 4 ≤ k → holds_numeral k ≡ false
unfolding holds_span_in form_of_kind text_forms forms
without_numerals k h = go (dec_lt k 24)
  where
    go : Dec (k < 24) → holds_numeral k ≡ false
    go (yes l) = same_value small holds_numeral false 24 k refl l ∙ not_small k (λ w. omega (arith, w.1))
    go (no l) = rw (no_text_form k (omega arith), holds_span_in)

-- A term without arguments, by the words of its row.
module _ (s : List ℕ) (k a b : ℕ) where
  pub leaf_numeral : 1 ≤ k → k ≤ 3 → leaf (spelled_row s k a b) ≡ opening k ++ (32 ∷ (numeral_of s k a b ++ (41 ∷ [])))
  unfolding leaf opening
  leaf_numeral l h =
      ap {B = List ℕ} (λ x. 32 ∷ x) (print_numeral k (cond (holds_numeral k) (numeral_of s k a b) []) l h)
      ∙ ap (λ (c : Bool). 32 ∷ 40 ∷ (text_word k ++ (32 ∷ (cond c (numeral_of s k a b) [] ++ (41 ∷ []))))) (with_numerals k l h)

  pub leaf_alone : arity_of k ≡ 0 → ¬ ((1 ≤ k) × (k ≤ 3)) → leaf (spelled_row s k a b) ≡ 32 ∷ text_word k
  unfolding leaf
  leaf_alone e h = ap {B = List ℕ} (λ x. 32 ∷ x) (print_alone k (cond (holds_numeral k) (numeral_of s k a b) []) e h)

  pub numeral_universe : k ≡ 3 → numeral_of s k a b ≡ part s a b
  unfolding numeral_of
  numeral_universe e = ap (λ (c : Bool). cond c (part s a b) (decimal a)) (eq-eqb k 3 e)

  pub numeral_number : ¬ (k ≡ 3) → numeral_of s k a b ≡ decimal a
  unfolding numeral_of
  numeral_number e = ap (λ (c : Bool). cond c (part s a b) (decimal a)) (ne_eqb k 3 e)
