-- `printer::move_front` meets its contract.
use Rattle.printer.proofs.Buffer.{Moved}
use Rattle.printer.proofs.move_front.Given as goal

abbrev pub invariant-loop-i : goal.invariant-loop-i
invariant-loop-i l = Moved l.initial.out l.from l.out l.i
