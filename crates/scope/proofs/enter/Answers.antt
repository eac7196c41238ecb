-- `enter` meets its contract.
use native.Mathlib.Omega.{arith}
use Rattle.scope.proofs.Index.{indexed_more}
use Rattle.scope.proofs.enter.Goals as goal

pub returns-then-k-lt-PLACES : goal.returns-then-k-lt-PLACES
returns-then-k-lt-PLACES c = λ s t l p q. indexed_more s t _ _ p l _ q (omega arith)
