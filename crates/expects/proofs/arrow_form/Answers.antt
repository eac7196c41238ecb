-- `expects::arrow_form` meets its contract.
use mathlib.Core.Path.{sym, ◌∙◌}
use Rattle.expects.proofs.CoreForms.{arrow_form, no_arrow}
use Rattle.expects.proofs.arrow_form.Goals as goal

pub returns-then-same_bytes : goal.returns-then-same_bytes
returns-then-same_bytes c = sym (arrow_form _ (sym c.same_bytes.ensures ∙ c.if-same_bytes.true))

pub returns : goal.returns
returns c = c.requires ∙ sym (no_arrow _ (sym c.same_bytes.ensures ∙ c.if-same_bytes.false))
