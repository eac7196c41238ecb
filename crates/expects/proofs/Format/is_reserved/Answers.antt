-- `Format::is_reserved` meets its contract.
use mathlib.Core.Path.{refl, sym, ◌∙◌}
use Rattle.terms.specs.Forms.{edition_0_1, edition_0_2}
use Rattle.core_text.specs.TextReading.{text_edition}
use Rattle.expects.specs.declared.Format.{Format}
use Rattle.expects.proofs.Formats.{reserved_by, reserved_there, reserved_besides}
use Rattle.expects.proofs.Format.is_reserved.Goals as goal

pub returns-in-Surface01 : goal.returns-in-Surface01
unfolding edition_0_1
returns-in-Surface01 c = reserved_by _ Format.Surface01 c.in-Surface01.is _ _ c.is_reserved.ensures

pub returns-then-is_reserved : goal.returns-then-is_reserved
unfolding edition_0_2
returns-then-is_reserved c = c.if-is_reserved.true ∙ reserved_by _ Format.Surface02 c.in-Surface02.is _ _ (reserved_there _ (sym c.is_reserved-in-Surface02.ensures ∙ c.if-is_reserved.true))

pub returns-else-is_reserved : goal.returns-else-is_reserved
unfolding edition_0_2
returns-else-is_reserved c = reserved_by _ Format.Surface02 c.in-Surface02.is _ _ (reserved_besides _ (sym c.is_reserved-in-Surface02.ensures ∙ c.if-is_reserved.false) _ c.same_bytes.ensures)

pub returns-in-Core01 : goal.returns-in-Core01
unfolding text_edition
returns-in-Core01 c = reserved_by _ Format.Core01 c.in-Core01.is _ _ refl
