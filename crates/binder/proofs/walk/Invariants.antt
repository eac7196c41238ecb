-- `walk` meets its contract.
use Prim.Native.Nat.{◌<◌}
use Rattle.binder.proofs.Going.{OnWay}
use Rattle.binder.proofs.walk.Given as goal

abbrev pub invariant-loop : goal.invariant-loop
invariant-loop l = OnWay l.surface l.k l.root l.work l.way l.counter × (l.way.row < 4294967296)
