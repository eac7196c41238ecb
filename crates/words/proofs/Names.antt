-- `same_bytes` is equality.
use Prim.Native.Nat.{ℕ}
use mathlib.Core.Path.{◌≡◌, refl, sym, ◌∙◌, ap}
use mathlib.Core.Bool.{Bool, true, false, true≢false, false≢true}
use mathlib.Core.List.{List, [], ◌∷◌}
use native.Mathlib.Decide.{ℕ_discrete}
use borrow.Author.Tests.{eq-eqb, ne_eqb}
use Rattle.words.specs.Words.{same_bytes}

same_self : (a : List ℕ) → same_bytes a a ≡ true
unfolding same_bytes
same_self [] = refl
same_self (x ∷ a) = rw (eq-eqb x x refl, same_bytes) (same_self a)

pub eq_same : (a b : List ℕ) → a ≡ b → same_bytes a b ≡ true
eq_same a b q = ap (same_bytes a) (sym q) ∙ same_self a

pub same_eq : (a b : List ℕ) → same_bytes a b ≡ true → a ≡ b
unfolding same_bytes
same_eq [] [] e = refl
same_eq [] (y ∷ b) e = cc
same_eq (x ∷ a) [] e = cc
same_eq (x ∷ a) (y ∷ b) e =
    elim (ℕ_discrete x y) [
      | yes q ↦ let r : a ≡ b = same_eq a b (rw (eq-eqb x y q, same_bytes) at e) in cc
      | no n ↦ absurd (false≢true (rw (ne_eqb x y n, same_bytes) at e))
    ]

pub same_ne : (a b : List ℕ) → same_bytes a b ≡ false → a ≡ b → ⊥
same_ne a b e q = true≢false (sym (eq_same a b q) ∙ e)

pub ne_same : (a b : List ℕ) → (a ≡ b → ⊥) → same_bytes a b ≡ false
ne_same a b n = by (same_bytes a b) refl
  where
    by : (t : Bool) → same_bytes a b ≡ t → t ≡ false
    by true e = absurd (n (same_eq a b e))
    by false e = refl
