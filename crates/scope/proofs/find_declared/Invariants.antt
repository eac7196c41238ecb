-- `find_declared` meets its contract: the declarations before k do not have the name.
use Prim.Native.Nat.{◌-◌}
use Rattle.scope.specs.Scope.{declared_names}
use Rattle.scope.proofs.Search.{Passed}
use Rattle.scope.proofs.find_declared.Given as goal

abbrev pub invariant-loop-k : goal.invariant-loop-k
invariant-loop-k l = Passed l.x (declared_names l.s l.declarations 0 l.d) l.k (declared_names l.s l.declarations l.k (l.d - l.k))
