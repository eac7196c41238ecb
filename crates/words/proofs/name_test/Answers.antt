-- `words::name_test` meets its contract.
use mathlib.Core.Path.{sym, ◌∙◌}
use Rattle.words.specs.Words.{name_test}
use Rattle.words.proofs.name_test.Goals as goal

pub returns-then-is_reserved : goal.returns-then-is_reserved
unfolding name_test
returns-then-is_reserved c = rw (sym c.is_reserved.ensures ∙ c.if-is_reserved.true)

pub returns-then-is_identifier : goal.returns-then-is_identifier
unfolding name_test
returns-then-is_identifier c = rw (sym c.is_reserved.ensures ∙ c.if-is_reserved.false, sym c.is_identifier.ensures ∙ c.if-is_identifier.true)

pub returns-else-is_identifier : goal.returns-else-is_identifier
unfolding name_test
returns-else-is_identifier c = rw (sym c.is_reserved.ensures ∙ c.if-is_reserved.false, sym c.is_identifier.ensures ∙ c.if-is_identifier.false)
