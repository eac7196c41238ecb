-- `printer::open_frames` meets its contract.
use mathlib.Core.Path.{◌≡◌}
use lib.ListN.{length}
use Rattle.printer.specs.inner.Machine.{settle}
use Rattle.printer.proofs.Turning.{Onward}
use Rattle.printer.proofs.open_frames.Given as goal

abbrev pub invariant-loop-top : goal.invariant-loop-top
invariant-loop-top l = (length l.work ≡ length l.initial.work) × (length l.out ≡ length l.initial.out) × Onward l.initial.work l.initial.out l.initial.at l.initial.top settle l.work l.out l.at l.top settle

abbrev pub decreases-loop-top : goal.decreases-loop-top
decreases-loop-top l = l.top
