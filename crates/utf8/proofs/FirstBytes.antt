-- What table 3-7 says of all the bytes from one to another: antt computes the line of each.
use Prim.Native.Nat.{ℕ, zero, suc, ◌+◌, ◌-◌, ◌≤◌, ◌<◌}
use mathlib.Core.Path.{◌≡◌}
use mathlib.Core.List.{List, [], ◌∷◌}
use mathlib.Core.Option.{Option}
use native.Mathlib.Omega.{arith}
use native.Mathlib.Decide.{ℕ_discrete}
use Rattle.utf8.specs.Utf8.{Range, table_3_7, following}

-- What a function gives for each of n bytes from `low` on.
abbrev pub each : (ℕ → Option (List Range)) → ℕ → ℕ → List (Option (List Range))
each f low zero = []
each f low (suc n) = f low ∷ each f (suc low) n

abbrev pub line : ℕ → Option (List Range)
line b = following b table_3_7

at_each : (f : ℕ → Option (List Range)) (low n : ℕ) → each f low n ≡ each line low n → (b : ℕ) → low ≤ b → b < low + n → f b ≡ line b
at_each f low zero e b l h = absurd (omega arith)
at_each f low (suc n) e b l h = elim (ℕ_discrete b low) [ yes q ↦ cc | no q ↦ at_each f (suc low) n (cc) b (omega arith) (omega arith) ]

pub line_of : (f : ℕ → Option (List Range)) (low high : ℕ) → each f low (suc high - low) ≡ each line low (suc high - low)
    → (b : ℕ) → low ≤ b → b ≤ high → f b ≡ line b
line_of f low high e b l h = at_each f low (suc high - low) e b l (omega arith)
