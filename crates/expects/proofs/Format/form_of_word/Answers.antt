-- `expects::form_of_word` meets its contract.
use Rattle.terms.specs.Forms.{edition_0_1, edition_0_2}
use Rattle.core_text.specs.TextReading.{text_edition}
use Rattle.expects.specs.declared.Format.{Format}
use Rattle.expects.proofs.Formats.{forms_by}
use Rattle.expects.proofs.Format.form_of_word.Goals as goal

pub arrow_form-requires : goal.arrow_form-requires
arrow_form-requires c = c.surface_form-form.ensures

pub core_form-requires : goal.core_form-requires
core_form-requires c = c.surface_form-form.ensures

pub returns-in-Surface01 : goal.returns-in-Surface01
unfolding edition_0_1
returns-in-Surface01 c = forms_by _ Format.Surface01 c.in-Surface01.is _ _ c.surface_form-form.ensures

pub returns-in-Surface02 : goal.returns-in-Surface02
unfolding edition_0_2
returns-in-Surface02 c = forms_by _ Format.Surface02 c.in-Surface02.is _ _ c.arrow_form.ensures

pub returns-in-Core01 : goal.returns-in-Core01
unfolding text_edition
returns-in-Core01 c = forms_by _ Format.Core01 c.in-Core01.is _ _ c.core_form.ensures
