-- `first_difference` meets its contract: the bytes before i are equal.
use Rattle.differences.specs.inner.Shared.{Shared}
use Rattle.differences.proofs.first_difference.Given as goal

abbrev pub invariant-loop-i : goal.invariant-loop-i
invariant-loop-i l = Shared l.a l.b l.i
