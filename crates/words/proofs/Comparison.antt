-- Names are equal if they are equally long and the search finds no place where they differ.
use Prim.Native.Nat.{ℕ, suc}
use mathlib.Core.Path.{◌≡◌, refl, sym, ◌∙◌, ap}
use mathlib.Core.Bool.{Bool, true, false, cond, ◌&&◌, and-false}
use mathlib.Core.List.{[], ◌∷◌}
use native.Mathlib.Omega.{arith}
use native.Mathlib.Decide.{ℕ_discrete}
use lib.Dec.{eqb}
use lib.ListN.{length}
use borrow.Author.Tests.{eq-eqb, ne_eqb}
use Rattle.differences.specs.Differences.{first_difference}
use Rattle.words.specs.Words.{same_bytes}
use Rattle.words.specs.Comparison.{ComparedBySearch}

eqb_suc : (x y : ℕ) → eqb (suc x) (suc y) ≡ eqb x y
eqb_suc x y =
    elim (ℕ_discrete x y) [
      | yes q ↦ eq-eqb (suc x) (suc y) (ap suc q) ∙ sym (eq-eqb x y q)
      | no n ↦ ne_eqb (suc x) (suc y) (λ q. n (let r : x ≡ y = omega arith in r)) ∙ sym (ne_eqb x y n)
    ]

pub compared_by_search : ComparedBySearch
unfolding first_difference same_bytes
compared_by_search [] [] = refl
compared_by_search [] (y ∷ b) = rw (ne_eqb 0 (suc (length b)) (λ q. omega arith))
compared_by_search (x ∷ a) [] = rw (ne_eqb (suc (length a)) 0 (λ q. omega arith))
compared_by_search (x ∷ a) (y ∷ b) = by (eqb x y) (compared_by_search a b)
  where
    by : (t : Bool) → same_bytes a b ≡ (eqb (length a) (length b) && eqb (first_difference a b) (length a))
        → elim t as (λ _. Bool) [ true ↦ same_bytes a b | false ↦ false ] ≡ (eqb (suc (length a)) (suc (length b)) && eqb (cond t (suc (first_difference a b)) 0) (suc (length a)))
    by true e = e ∙ sym (rw (eqb_suc (length a) (length b), eqb_suc (first_difference a b) (length a)) refl)
    by false e = sym (rw (ne_eqb 0 (suc (length a)) (λ q. omega arith)) (and-false (eqb (suc (length a)) (suc (length b)))))
