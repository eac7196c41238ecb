-- `same::same_rows` meets its contract: the rows before i are the same.
use Rattle.same.specs.inner.Contents.{SameRows}
use Rattle.same.proofs.same_rows.Given as goal

abbrev pub invariant-loop-i : goal.invariant-loop-i
invariant-loop-i l = SameRows l.s l.core1 l.t l.core2 l.from l.i
