-- `elaborate_term` meets its contract: the whole outcome is what the state and the tables come to.
use mathlib.Core.Path.{◌≡◌}
use lib.ListN.{length}
use Rattle.stacks.specs.Stacks.{works_in}
use Rattle.elaborate.specs.Machine.{weight}
use Rattle.elaborate.proofs.TermLoop.{Elaborating}
use Rattle.elaborate.proofs.elaborate_term.Given as goal

abbrev pub invariant-loop-st : goal.invariant-loop-st
invariant-loop-st l =
    Elaborating l.m.source.now l.m.surface.now l.m.declarations.now l.index l.m.rows l.d l.root l.initial.core l.core l.work l.st × (length l.core ≡ length l.initial.core) × (length l.work ≡ length l.initial.work)

abbrev pub decreases-loop-st : goal.decreases-loop-st
decreases-loop-st l = weight (works_in l.work l.st.works)
