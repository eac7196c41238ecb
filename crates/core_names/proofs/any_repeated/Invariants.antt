-- `any_repeated` meets its contract: whether a name is used twice is whether one is from here on.
use Prim.Native.Nat.{◌-◌}
use mathlib.Core.Path.{◌≡◌}
use lib.ListN.{length}
use Rattle.scope.specs.Index.{Indexed}
use Rattle.core_names.specs.inner.Repeats.{repeats}
use Rattle.core_names.proofs.any_repeated.Given as goal

abbrev pub invariant-loop-d : goal.invariant-loop-d
invariant-loop-d l =
    (length l.index ≡ length l.initial.index) × Indexed l.s l.declarations l.d l.index × (repeats l.s l.declarations 0 l.count ≡ repeats l.s l.declarations l.d (l.count - l.d))
