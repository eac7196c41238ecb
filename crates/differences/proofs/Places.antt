-- The first difference is the first place where two equally long names differ, or their length, and no other place is.
use Prim.Native.Nat.{ℕ, zero, suc, ◌<◌}
use mathlib.Core.Path.{◌≡◌, refl}
use mathlib.Core.Logic.{inl, inr, ⊎_elim}
use mathlib.Core.List.{List, [], ◌∷◌}
use native.Mathlib.Omega.{arith}
use native.Mathlib.Decide.{ℕ_discrete}
use lib.ListN.{length, get_or}
use borrow.Author.Tests.{eq-eqb, ne_eqb}
use Rattle.differences.specs.Differences.{first_difference, FirstPlace, DifferenceIsFirst}

first_place : (a b : List ℕ) → length a ≡ length b → FirstPlace a b (first_difference a b)
unfolding first_difference
first_place [] [] h = record { before = λ i k. absurd (omega arith); there = inr refl }
first_place [] (y ∷ b) h = absurd (omega arith)
first_place (x ∷ a) [] h = absurd (omega arith)
first_place (x ∷ a) (y ∷ b) h =
    elim (ℕ_discrete x y) [
      | yes q ↦ rw (eq-eqb x y q, first_difference) (later q (first_place a b (omega arith)))
      | no n ↦ rw (ne_eqb x y n, first_difference) (record { before = λ i k. absurd (omega arith); there = inl (omega arith, n) })
    ]
  where
    later : x ≡ y → FirstPlace a b (first_difference a b) → FirstPlace (x ∷ a) (y ∷ b) (suc (first_difference a b))
    later q p = record { before = before; there = ⊎_elim (λ d. inl (omega (arith, d.0), d.1)) (λ e. inr (omega arith)) p.there }
      where
        before : (i : ℕ) → i < suc (first_difference a b) → get_or (x ∷ a) i 0 ≡ get_or (y ∷ b) i 0
        before zero k = q
        before (suc i) k = p.before i (omega arith)

-- No later place is it too.
none_later : (a b : List ℕ) (j k : ℕ) → FirstPlace a b j → FirstPlace a b k → j < k → ⊥
none_later a b j k p q h = ⊎_elim (λ d. d.1 (q.before j h)) (λ e. ⊎_elim (λ d. omega (arith, d.0)) (λ f. omega arith) q.there) p.there

pub difference_is_first : DifferenceIsFirst
difference_is_first a b h k = (λ e. rw e (first_place a b h), only)
  where
    only : FirstPlace a b k → k ≡ first_difference a b
    only p =
        let q = first_place a b h in
        omega (arith, none_later a b k (first_difference a b) p q, none_later a b (first_difference a b) k q p)
