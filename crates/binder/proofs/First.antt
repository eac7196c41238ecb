-- The first number that a test takes.
use Prim.Native.Nat.{ℕ, zero, suc, ◌+◌, ◌-◌, ◌≤◌, ◌<◌}
use mathlib.Core.Path.{◌≡◌, ◌∙◌, ap}
use mathlib.Core.Bool.{Bool, true, false}
use native.Mathlib.Omega.{arith}
use native.Mathlib.Decide.{ℕ_discrete}
use Rattle.binder.specs.inner.Walk.{first_from}

-- The first that a test takes is the one before which it takes none.
pub first_is : (test : ℕ → Bool) (n i j : ℕ) → i ≤ j → j < i + n → test j ≡ true → ((m : ℕ) → i ≤ m → m < j → test m ≡ false) → first_from test n i ≡ j
unfolding first_from
first_is test zero i j a b c d = absurd (omega arith)
first_is test (suc n) i j a b c d = elim (ℕ_discrete i j) [
  | yes e ↦ ap (λ (x : Bool). elim x as (λ _. ℕ) [ true ↦ i | false ↦ first_from test n (i + 1) ]) (ap test e ∙ c) ∙ e
  | no e ↦
      ap (λ (x : Bool). elim x as (λ _. ℕ) [ true ↦ i | false ↦ first_from test n (i + 1) ]) (d i (omega arith) (omega arith))
      ∙ first_is test n (i + 1) j (omega arith) (omega arith) c (λ m x y. d m (omega arith) y)
]

-- One number more, of those below n.
module _ (test : ℕ → Bool) (n i : ℕ) where
  step : (b : Bool) → test i ≡ b → i < n → first_from test (n - i) i ≡ elim b [ true ↦ i | false ↦ first_from test (n - (i + 1)) (i + 1) ]
  unfolding first_from
  step b e h =
      let m : n - i ≡ suc (n - (i + 1)) = omega arith in
      ap (λ (x : ℕ). first_from test x i) m ∙ ap (λ (b : Bool). elim b as (λ _. ℕ) [ true ↦ i | false ↦ first_from test (n - (i + 1)) (i + 1) ]) e

  pub passed : test i ≡ false → i < n → first_from test (n - i) i ≡ first_from test (n - (i + 1)) (i + 1)
  passed e h = step false e h
