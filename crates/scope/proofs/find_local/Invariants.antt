-- `find_local` meets its contract: the names passed are other names.
use Prim.Native.Nat.{◌-◌}
use Rattle.scope.specs.Scope.{in_scope}
use Rattle.scope.proofs.Locals.{Passed}
use Rattle.scope.proofs.find_local.Given as goal

abbrev pub invariant-loop-count : goal.invariant-loop-count
invariant-loop-count l = Passed l.x (in_scope l.s l.work l.depth) l.count (in_scope l.s l.work (l.depth - l.count))
