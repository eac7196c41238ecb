-- `expects::name_test` meets its contract.
use mathlib.Core.Path.{sym, ◌∙◌}
use Rattle.expects.proofs.Format.name_test.Goals as goal

pub returns-then-is_reserved : goal.returns-then-is_reserved
returns-then-is_reserved c = rw (sym c.is_reserved.ensures ∙ c.if-is_reserved.true)

pub returns-then-is_identifier : goal.returns-then-is_identifier
returns-then-is_identifier c = rw (sym c.is_reserved.ensures ∙ c.if-is_reserved.false, sym c.is_identifier.ensures ∙ c.if-is_identifier.true)

pub returns : goal.returns
returns c = rw (sym c.is_reserved.ensures ∙ c.if-is_reserved.false, sym c.is_identifier.ensures ∙ c.if-is_identifier.false)
