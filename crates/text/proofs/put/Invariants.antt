-- `text::put` meets its contract.
use Rattle.text.proofs.Putting.{Putting}
use Rattle.text.proofs.put.Given as goal

abbrev pub invariant-loop-byte : goal.invariant-loop-byte
invariant-loop-byte l = Putting l.initial.out l.at l.bytes l.out l.behind l.byte-index
