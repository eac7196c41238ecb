-- `expects::surface_form` meets its contract.
use mathlib.Core.Path.{◌∙◌}
use Rattle.expects.proofs.Indices.{index_low, form_by_index}
use Rattle.expects.proofs.surface_form.Goals as goal

pub form_at-requires : goal.form_at-requires
form_at-requires c = index_low _ _ c.word_index.ensures

pub returns : goal.returns
returns c = c.form_at.ensures ∙ form_by_index _ _ c.word_index.ensures
