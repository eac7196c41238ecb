-- `printer::put_declarations` meets its contract.
use mathlib.Core.Path.{◌≡◌}
use lib.ListN.{length}
use Rattle.printer.specs.inner.Machine.{step_declaration, down}
use Rattle.printer.proofs.Turning.{Onward}
use Rattle.printer.proofs.put_declarations.Given as goal

abbrev pub invariant-loop-i : goal.invariant-loop-i
invariant-loop-i l =
    (length l.work ≡ length l.initial.work) × (length l.out ≡ length l.initial.out)
    × Onward l.initial.work l.initial.out l.initial.here.at l.initial.here.top (down (step_declaration l.s l.core l.declarations (length l.initial.work)) 0 l.count) l.work l.out l.here.at l.here.top (down (step_declaration l.s l.core l.declarations (length l.initial.work)) 0 l.i)
