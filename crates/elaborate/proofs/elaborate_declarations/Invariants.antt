-- `elaborate_declarations` meets its contract: what all declarations come to is what the rest comes to.
use mathlib.Core.Path.{◌≡◌}
use mathlib.Core.List.{List}
use lib.ListN.{length}
use Rattle.terms.specs.Label.{Declaration}
use Rattle.scope.specs.Index.{Indexed}
use Rattle.elaborate.specs.Loadable.{Loadable}
use Rattle.elaborate.proofs.ModuleLoop.{Remaining}
use Rattle.elaborate.proofs.elaborate_declarations.Given as goal

abbrev pub invariant-loop-d : goal.invariant-loop-d
invariant-loop-d l =
    (length l.core ≡ length l.initial.core) × (length l.work ≡ length l.initial.work) × (length l.index ≡ length l.initial.index) × Indexed l.m.source.now l.m.declarations.now l.d l.index
    × ((ds : List Declaration) → Loadable l.m.surface.now l.m.declarations.now l.initial.core l.initial.work l.m.rows l.count ds → Remaining l.m.source.now l.m.surface.now l.m.declarations.now l.m.rows l.count l.initial.core ds l.d l.core)
