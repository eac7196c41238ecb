-- `mix` meets its contract: the bytes before index `b` are taken in.
use Prim.Native.Nat.{◌<◌}
use mathlib.Core.Path.{◌≡◌}
use lib.ListN.{drop}
use Rattle.scope.specs.Index.{mixed}
use Rattle.scope.proofs.mix.Given as goal

abbrev pub invariant-loop-b : goal.invariant-loop-b
invariant-loop-b l = (l.mixed < 4294967296) × (mixed 0 l.x ≡ mixed l.mixed (drop l.b-index l.x))
