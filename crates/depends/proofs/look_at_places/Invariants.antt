-- `depends::look_at_places` meets its contract.
use mathlib.Core.Path.{◌≡◌}
use Prim.Native.Nat.{◌-◌}
use Rattle.depends.specs.inner.Search.{places_looked_at}
use Rattle.depends.proofs.look_at_places.Given as goal

abbrev pub invariant-loop-k : goal.invariant-loop-k
invariant-loop-k l = places_looked_at l.core l.declarations l.j (l.to - l.j) l.j l.initial.work ≡ places_looked_at l.core l.declarations l.j (l.to - l.k) l.k l.work
