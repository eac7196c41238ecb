-- Document 02, Req 10: an arrow counts as a pi, whatever is asked of its kind.
use mathlib.Core.Path.{◌≡◌, refl, sym, ap, ◌∙◌}
use mathlib.Core.Logic.{by_cases}
use mathlib.Core.Bool.{Bool, cond}
use Prim.Native.Nat.{ℕ, ◌≤◌}
use native.Mathlib.Omega.{arith}
use native.Mathlib.Decide.{ℕ_discrete}
use lib.Dec.{leb, eqb}
use borrow.Author.Tests.{eqb-true, eq-eqb, ne_eqb, leb-true, le-leb}
use Rattle.terms.specs.Forms.{pi, arrow, counts_as, forms, forms_0_2, form_of_kind, arity_of, holds_span_in}

-- What is the same of a pi and an arrow is the same of a kind and of what it counts as.
pub counts_same : {A : Type 0} (f : ℕ → A) → f pi ≡ f arrow → (k : ℕ) → f (counts_as k) ≡ f k
counts_same f h k = by_cases (ℕ_discrete k arrow)
    (λ e. ap (λ (b : Bool). f (cond b pi k)) (eq-eqb k arrow e) ∙ h ∙ ap f (sym e))
    (λ e. ap (λ (b : Bool). f (cond b pi k)) (ne_eqb k arrow e))

pub kinds_same : {A : Type 0} (f : ℕ → A) → f pi ≡ f arrow → (j k : ℕ) → counts_as j ≡ counts_as k → f j ≡ f k
kinds_same f h j k e = sym (counts_same f h j) ∙ ap f e ∙ counts_same f h k

-- Two kinds that count as the same are both n or both not, if n is neither pi nor arrow.
pub kind_is : (n j k : ℕ) → eqb pi n ≡ eqb arrow n → counts_as j ≡ counts_as k → j ≡ n → k ≡ n
kind_is n j k h e f = eqb-true k n (sym (kinds_same (λ i. eqb i n) h j k e) ∙ eq-eqb j n f)

-- No kind counts as an arrow.
pub counts_never : (k : ℕ) → ¬ (counts_as k ≡ arrow)
counts_never k e = by_cases (ℕ_discrete k arrow)
    (λ q. omega (arith, ap (λ (b : Bool). cond b pi k) (eq-eqb k arrow q), e))
    (λ q. q (sym (ap (λ (b : Bool). cond b pi k) (ne_eqb k arrow q)) ∙ e))

pub arity_counts : (k : ℕ) → arity_of (counts_as k) ≡ arity_of k
unfolding arity_of form_of_kind forms forms_0_2
arity_counts = counts_same arity_of refl

pub low_counts : (k : ℕ) → 3 ≤ k → 3 ≤ counts_as k
low_counts k h = leb-true 3 (counts_as k) (counts_same (leb 3) refl k ∙ le-leb 3 k h)

-- A row of an arrow holds no span, and every other kind has one form in both editions.
pub holds_same : (k : ℕ) → holds_span_in forms k ≡ holds_span_in forms_0_2 k
unfolding holds_span_in form_of_kind forms forms_0_2
holds_same k = by_cases (ℕ_discrete k arrow) (λ e. rw e refl) (λ e. rw (ne_eqb k arrow e, holds_span_in, form_of_kind))
