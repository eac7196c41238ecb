-- A test that every number below a bound passes, computed once for all of them.
use Prim.Native.Nat.{ℕ, zero, suc, ◌<◌}
use mathlib.Core.Path.{◌≡◌, refl, ◌∙◌, ap}
use mathlib.Core.Bool.{Bool, true, false, ◌&&◌}
use mathlib.Core.Logic.{⊎_elim}
use native.Mathlib.Nat.{le_of_suc-le-suc, not-suc-le-zero, eq-or-lt_of_le}

abbrev pub every : (ℕ → Bool) → ℕ → Bool
every p zero = true
every p (suc n) = p n && every p n

pub record Every (p : ℕ → Bool) (n : ℕ) : Type 0 where
  pub computed : every p n ≡ true

left : (a b : Bool) → (a && b) ≡ true → a ≡ true
left true b e = refl
left false b e = e

right : (a b : Bool) → (a && b) ≡ true → b ≡ true
right true b e = e
right false b e = cc

from : (p : ℕ → Bool) (n k : ℕ) → k < n → every p n ≡ true → p k ≡ true
from p zero k h t = absurd (not-suc-le-zero h)
from p (suc n) k h t =
    ⊎_elim (λ e. ap p e ∙ left (p n) (every p n) t) (λ l. from p n k l (right (p n) (every p n) t)) (eq-or-lt_of_le (le_of_suc-le-suc h))

pub at : {p : ℕ → Bool} {n : ℕ} → Every p n → (k : ℕ) → k < n → p k ≡ true
at {p} {n} t k h = from p n k h t.computed
