-- `argument_with` meets its contract.
use Prim.Native.Nat.{◌+◌, ◌-◌, ◌*◌, ◌≤◌}
use mathlib.Core.Path.{◌≡◌}
use lib.Dec.{leb}
use lib.ListN.{get_or}
use Rattle.binder.specs.inner.Walk.{first_from, argument_with}
use Rattle.binder.proofs.argument_with.Given as goal

abbrev pub invariant-loop-i : goal.invariant-loop-i
invariant-loop-i l = (argument_with l.surface l.k l.id ≡ first_from (λ j. leb l.k (get_or l.surface (l.first + j) 0)) (l.n - l.i) l.i) × (l.n ≤ 6) × (l.first ≤ l.id * 8 + 3)
