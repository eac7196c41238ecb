-- The arity of every kind and whether it has a span: those of a table, by one computed test each, and the kinds behind them.
use Prim.Native.Nat.{ℕ, zero, suc, ◌+◌, ◌*◌, ◌-◌, ◌/◌, ◌%◌, ◌^◌, ◌≤◌, ◌<◌}
use mathlib.Core.Path.{◌≡◌, refl, sym, ap, ◌∙◌}
use mathlib.Core.Bool.{Bool, true, false, not, ◌&&◌, and-eq-true_iff}
use mathlib.Core.List.{List, [], ◌∷◌}
use mathlib.Core.Option.{none}
use native.Mathlib.Decide.{dec_lt, ℕ_discrete}
use native.Mathlib.Omega.{arith}
use native.Mathlib.Nat.{add-zero, zero-add, not-suc-le-zero}
use lib.Dec.{eqb, ltb, leb}
use lib.ListN.{get_or, replicate, get_or-replicate}
use borrow.Author.Tests.{ne_eqb, ltb-true, leb-true, lt-leb}
use Rattle.terms.specs.TextForms.{text_forms}
use Rattle.terms.proofs.Arrow.{counts_never, arity_counts}
use Rattle.terms.specs.Forms.{Form, arrow, counts_as, forms, forms_0_2, form_of_kind, arity_of, holds_span, holds_span_in}

-- The values of f at i, i + 1, .. , n of them.
module _ {A : Type 0} (f : ℕ → A) where
  abbrev pub values : ℕ → ℕ → List A
  values i zero = []
  values i (suc n) = f i ∷ values (suc i) n

  value_from : (d : A) (i n k : ℕ) → k < n → get_or (values i n) k d ≡ f (i + k)
  value_from d i zero k h = absurd (not-suc-le-zero h)
  value_from d i (suc n) zero h = ap f (sym (add-zero i))
  value_from d i (suc n) (suc k) h = value_from d (suc i) n k (omega arith) ∙ ap f (let q : suc i + k ≡ i + suc k = omega arith in q)

  -- A list that computes to the values has each at its place.
  pub value_at : (l : List A) (d : A) (n k : ℕ) → l ≡ values 0 n → k < n → get_or l k d ≡ f k
  value_at l d n k e h = ap (λ (l : List A). get_or l k d) e ∙ value_from d 0 n k h ∙ ap f (zero-add k)

-- Two functions with equal values at each number below n.
pub same_value : {A : Type 0} (f g : ℕ → A) (d : A) (n k : ℕ) → values g 0 n ≡ values f 0 n → k < n → g k ≡ f k
same_value f g d n k e h = sym (value_at g (values g 0 n) d n k refl h) ∙ value_at f (values g 0 n) d n k e h

-- The arities as octal digits of a number, from kind 3 on, and the spans as its bits.
pub arity_digit : (n k : ℕ) → values (λ j. n / 2 ^ (3 * (j - 3)) % 8) 0 25 ≡ values arity_of 0 25 → k < 25 → n / 2 ^ (3 * (k - 3)) % 8 ≡ arity_of k
arity_digit n k e h = same_value arity_of (λ j. n / 2 ^ (3 * (j - 3)) % 8) 0 25 k e h

pub span_bit : (n k : ℕ) → values (λ j. eqb (n / 2 ^ j % 2) 1) 0 25 ≡ values holds_span 0 25 → k < 25 → eqb (n / 2 ^ k % 2) 1 ≡ holds_span k
span_bit n k e h = same_value holds_span (λ j. eqb (n / 2 ^ j % 2) 1) false 25 k e h

-- A test that every form passes.
abbrev every : (Form → Bool) → List Form → Bool
every p [] = true
every p (f ∷ l) = p f && every p l

no_form : (n k : ℕ) (l : List Form) → every (λ f. ltb f.kind n) l ≡ true → n ≤ k → form_of_kind k l ≡ none
unfolding form_of_kind
no_form n k [] e h = refl
no_form n k (f ∷ l) e h =
    let b = (and-eq-true_iff (ltb f.kind n) (every (λ g. ltb g.kind n) l)).0 e in
    rw (ne_eqb k f.kind (λ q. omega (arith, ltb-true f.kind n b.0)), form_of_kind) (no_form n k l b.1 h)

-- No form has a kind from 26 on.
no_kind : (k : ℕ) → 26 ≤ k → form_of_kind k forms_0_2 ≡ none
unfolding forms forms_0_2
no_kind k h = no_form 26 k forms_0_2 refl h

span_arrow : holds_span arrow ≡ false
unfolding holds_span_in form_of_kind forms_0_2
span_arrow = refl

pub no_arity : (k : ℕ) → 26 ≤ k → arity_of k ≡ 0
unfolding arity_of
no_arity k h = rw (no_kind k h, arity_of)

-- The arity by what a kind counts as.
module _ (j k : ℕ) (e : j ≡ counts_as k) where
  pub arity_by : arity_of j ≡ arity_of k
  arity_by = ap arity_of e ∙ arity_counts k

  pub no_arity_by : 25 ≤ j → 0 ≡ arity_of k
  no_arity_by h =
      let n : ¬ (j ≡ arrow) = λ q. counts_never k (sym e ∙ q) in
      sym (no_arity j (omega arith)) ∙ arity_by

pub no_span : (k : ℕ) → 25 ≤ k → holds_span k ≡ false
unfolding holds_span_in
no_span k h = elim (ℕ_discrete k arrow) [
  | yes e ↦ ap holds_span e ∙ span_arrow
  | no n ↦ rw (no_kind k (omega arith), holds_span_in)
]

-- In core text the kinds 1 to 3 hold a numeral.
pub holds_numeral : (k : ℕ) → holds_span_in text_forms k ≡ not (eqb k 0) && leb k 3
unfolding forms form_of_kind holds_span_in text_forms
holds_numeral k = elim (dec_lt k 25) [
  | yes h ↦ same_value (λ j. not (eqb j 0) && leb j 3) (holds_span_in text_forms) false 25 k refl h
  | no h ↦ rw (no_form 25 k text_forms refl (omega arith), holds_span_in, ne_eqb k 0 (λ q. omega arith), lt-leb k 3 (omega arith))
]

-- No term has more than six arguments.
pub arity_at_most_six : (k : ℕ) → arity_of k ≤ 6
unfolding forms forms_0_2 form_of_kind arity_of
arity_at_most_six k = elim (dec_lt k 26) [
  | yes h ↦ leb-true (arity_of k) 6 (sym (value_at (λ j. leb (arity_of j) 6) (replicate 26 true) true 26 k refl h) ∙ get_or-replicate 26 k true true h)
  | no h ↦ omega (arith, no_arity k (omega arith))
]
