-- Numbers stored one by one.
use mathlib.Core.Path.{◌≡◌, refl}
use mathlib.Core.List.{List, [], ◌∷◌, ◌++◌}
use Prim.Native.Nat.{ℕ, ◌≤◌}
use native.Mathlib.Omega.{arith}
use lib.ListN.{length, set, take, drop}

module _ (a b c d : ℕ) where
  abbrev four : List ℕ
  four = a ∷ b ∷ c ∷ d ∷ []

  pub three_stored : (l : List ℕ) → 3 ≤ length l → set (set (set l 0 a) 1 b) 2 c ≡ take 3 four ++ drop 3 l
  three_stored [] h = absurd (omega arith)
  three_stored (x ∷ []) h = absurd (omega arith)
  three_stored (x ∷ y ∷ []) h = absurd (omega arith)
  three_stored (x ∷ y ∷ z ∷ l) h = refl

  pub four_stored : (l : List ℕ) → 4 ≤ length l → set (set (set (set l 0 a) 1 b) 2 c) 3 d ≡ take 4 four ++ drop 4 l
  four_stored [] h = absurd (omega arith)
  four_stored (x ∷ []) h = absurd (omega arith)
  four_stored (x ∷ y ∷ []) h = absurd (omega arith)
  four_stored (x ∷ y ∷ z ∷ []) h = absurd (omega arith)
  four_stored (x ∷ y ∷ z ∷ u ∷ l) h = refl
