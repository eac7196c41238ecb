-- `lines::put_rows` meets its contract.
use Rattle.text.proofs.Writing.{Put}
use Rattle.lines.specs.Listing.{row_lines}
use Rattle.lines.proofs.put_rows.Given as goal

abbrev pub invariant-loop-k : goal.invariant-loop-k
invariant-loop-k l = Put l.initial.out l.at (row_lines l.s l.core l.k 0) l.out l.pos
