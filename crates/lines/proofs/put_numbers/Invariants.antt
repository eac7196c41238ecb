-- `lines::put_numbers` meets its contract.
use Rattle.text.proofs.Writing.{Put}
use Rattle.lines.specs.Listing.{numbers}
use Rattle.lines.proofs.put_numbers.Given as goal

abbrev pub invariant-loop-j : goal.invariant-loop-j
invariant-loop-j l = Put l.initial.out l.at (numbers l.j l.t l.i) l.out l.pos
