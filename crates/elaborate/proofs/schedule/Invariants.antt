-- `schedule` meets its contract: the arguments from i on are pushed.
use Prim.Native.Nat.{◌+◌, ◌*◌, ◌≤◌}
use mathlib.Core.Path.{◌≡◌}
use lib.ListN.{length, drop, take}
use Rattle.stacks.specs.Stacks.{works_in, WorkPushed}
use Rattle.elaborate.specs.Machine.{scheduled}
use Rattle.elaborate.proofs.schedule.Given as goal

abbrev pub invariant-loop-i : goal.invariant-loop-i
invariant-loop-i l =
    (l.top + 3 * l.i ≤ l.t + 18) × (length l.work ≡ length l.initial.work)
    × WorkPushed l.initial.work l.work l.top (scheduled l.kind l.form l.left l.i (drop l.i (take l.n l.children)) (works_in l.initial.work l.t))
