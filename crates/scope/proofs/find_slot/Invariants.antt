-- `find_slot` meets its contract: what has the name lies ahead of the slot where the walk is, and slots rise on the way.
use Prim.Native.Nat.{◌+◌, ◌-◌, ◌*◌, ◌≤◌, ◌<◌}
use lib.ListN.{length}
use Rattle.scope.specs.Index.{heads}
use Rattle.scope.proofs.Index.{Walked}
use Rattle.scope.proofs.find_slot.Given as goal

abbrev pub invariant-loop-d : goal.invariant-loop-d
invariant-loop-d l = (l.i ≤ l.slot) × (l.slot < heads + 2 * l.d) × Walked l.s l.declarations l.x l.d l.index l.i l.slot

abbrev pub decreases-loop-d : goal.decreases-loop-d
decreases-loop-d l = length l.index - l.slot
