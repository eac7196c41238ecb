-- `lines::put_declarations` meets its contract.
use Rattle.text.proofs.Writing.{Put}
use Rattle.lines.specs.Listing.{declaration_lines}
use Rattle.lines.proofs.put_declarations.Given as goal

abbrev pub invariant-loop-k : goal.invariant-loop-k
invariant-loop-k l = Put l.initial.out l.at (declaration_lines l.s l.declarations l.k 0) l.out l.pos
