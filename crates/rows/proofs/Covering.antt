-- Which arguments a binder covers, by kind.
use Prim.Native.Nat.{ℕ}
use mathlib.Core.Path.{◌≡◌}
use mathlib.Core.Bool.{false}
use borrow.Author.Tests.{ne_eqb}
use Rattle.terms.specs.Forms.{pi, lam, sigma, arrow}
use Rattle.terms.specs.Resolution.{covers}

module _ (k i : ℕ) where
  pub covers_none : (k ≡ pi → ⊥) → (k ≡ sigma → ⊥) → (k ≡ lam → ⊥) → (k ≡ arrow → ⊥) → covers k i ≡ false
  covers_none p q r u = rw (ne_eqb k pi p, ne_eqb k sigma q, ne_eqb k lam r, ne_eqb k arrow u)
