-- Laws of how many frames are open at once while terms are read.
use mathlib.Core.Path.{◌≡◌, refl}
use Prim.Native.Nat.{ℕ, zero, suc, ◌≤◌}
use native.Mathlib.Omega.{arith}
use Rattle.terms.specs.Tree.{Forest, nil, node}
use Rattle.terms.specs.Label.{Label}
pub use Rattle.surface.specs.Sizes.{opens, frames_of, deepest}

pub opens_at_most : (a : Forest Label) (n : ℕ) → opens a n ≤ n
opens_at_most nil n = omega arith
opens_at_most (node m a r) n = omega arith

-- No more than l, as a condition that can be taken apart.
abbrev pub Within : ℕ → Forest Label → Type 0
Within l nil = Unit {0}
Within zero (node m a r) = (a ≡ nil) × Within zero r
Within (suc l) (node m a r) = Within l a × Within (suc l) r

pub within : (l : ℕ) (f : Forest Label) → frames_of f ≤ l → Within l f
within l nil h = tt
within zero (node m nil r) h = (refl, within zero r (omega arith))
within zero (node m (node n a b) r) h = absurd (omega arith)
within (suc l) (node m nil r) h = (tt, within (suc l) r (omega arith))
within (suc l) (node m (node n a b) r) h = (within l (node n a b) (omega arith), within (suc l) r (omega arith))

pub within_rest : (l : ℕ) (m : Label) (a r : Forest Label) → Within l (node m a r) → Within l r
within_rest zero m a r w = w.1
within_rest (suc l) m a r w = w.1
