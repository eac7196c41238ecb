-- `printer::put_rows` meets its contract.
use mathlib.Core.Path.{◌≡◌}
use Prim.Native.Nat.{◌-◌}
use lib.ListN.{length}
use Rattle.printer.specs.inner.Machine.{step_row, down}
use Rattle.printer.proofs.Turning.{Onward}
use Rattle.printer.proofs.put_rows.Given as goal

abbrev pub invariant-loop-k : goal.invariant-loop-k
invariant-loop-k l =
    (length l.work ≡ length l.initial.work) × (length l.out ≡ length l.initial.out)
    × Onward l.initial.work l.initial.out l.initial.here.at l.initial.here.top (down (step_row l.s l.core (length l.initial.work)) l.from (l.to - l.from)) l.work l.out l.here.at l.here.top (down (step_row l.s l.core (length l.initial.work)) l.from (l.k - l.from))
