-- `same::first_difference` meets its contract: the declarations before k are the same.
use Rattle.same.specs.inner.Contents.{SameBefore}
use Rattle.same.proofs.first_difference.Given as goal

abbrev pub invariant-loop-k : goal.invariant-loop-k
invariant-loop-k l = SameBefore l.s l.core1 l.declarations1 l.t l.core2 l.declarations2 l.k
