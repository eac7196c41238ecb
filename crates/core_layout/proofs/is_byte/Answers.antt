-- `core_layout::is_byte` meets its contract: one byte, and it is the one.
use mathlib.Core.Path.{◌∙◌}
use borrow.Author.Tests.{ne_eqb}
use Rattle.core_layout.proofs.Gaps.{not_one, one_byte}
use Rattle.core_layout.proofs.is_byte.Goals as goal

pub returns-then-to-from-eq1 : goal.returns-then-to-from-eq1
returns-then-to-from-eq1 c = one_byte _ _ _ c.requires.0 c.requires.1 _ c.if-to-from-eq1.true

pub returns-else-to-from-eq1 : goal.returns-else-to-from-eq1
returns-else-to-from-eq1 c = ne_eqb _ _ c.if-to-from-eq1.false ∙ not_one _ _ _ c.requires.0 c.requires.1 _ c.if-to-from-eq1.false
