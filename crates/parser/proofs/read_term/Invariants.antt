-- `parser::read_term` meets its contract. The loop's invariant is `Reading`, its measure the weight of the state.
use Rattle.parser.specs.Machine.{weight}
use Rattle.parser.proofs.Loop.{Reading}
use Rattle.parser.proofs.read_term.Given as goal

abbrev pub invariant-loop-st : goal.invariant-loop-st
invariant-loop-st l = Reading l.input.format l.input.bytes.now l.limit l.initial.table l.initial.work l.at l.rows l.table l.work l.st

abbrev pub decreases-loop-st : goal.decreases-loop-st
decreases-loop-st l = weight l.input.bytes.now l.st
