-- `depends::first_marked` meets its contract.
use mathlib.Core.Path.{◌≡◌}
use Prim.Native.Nat.{◌-◌, ◌≤◌, max}
use Rattle.depends.specs.inner.Search.{first_marked}
use Rattle.depends.proofs.first_marked.Given as goal

abbrev pub invariant-loop-k : goal.invariant-loop-k
invariant-loop-k l = record {
  same : first_marked l.core l.work (l.to - l.from) l.from ≡ first_marked l.core l.work (l.to - l.k) l.k;
  high : l.k ≤ max l.from l.to;
}
