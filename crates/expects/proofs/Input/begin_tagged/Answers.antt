-- `Input::begin_tagged` meets its contract.
use mathlib.Core.Path.{◌≡◌, refl, ap, ◌∙◌}
use Rattle.std.proofs.lemmas.Result.{err_from_is_err_and}
use Rattle.std.specs.Prelude.{Some, Ok, Err}
use Rattle.terms.specs.Forms.{form_of_word}
use Rattle.surface.specs.Text.{text}
use Rattle.expects.specs.FormOfWord.{told_form}
use Rattle.expects.specs.Formats.{edition}
use Rattle.expects.proofs.Formats.{bounded}
use Rattle.expects.proofs.Ahead.{inside_got, natural_inside, name_inside}
use Rattle.expects.proofs.Arities.{fitting}
use Rattle.expects.proofs.Terms.{name_leaf, numeral_leaf, binder_refused, binder_frame, plain_frame, alone_refused, unknown_refused, leaf_refused}
use Rattle.expects.proofs.Input.begin_tagged.Goals.{In-Some}
use Rattle.expects.proofs.Input.begin_tagged.Goals as goal

-- The form of the word.
told : (c : In-Some) → Some c.in-Some.field-0 ≡ told_form (form_of_word (text c.args.self.now.bytes.now c.args.word) (edition c.args.self.now.format).forms)
told c = c.in-Some.ensures ∙ ap (λ w. told_form (form_of_word w (edition c.args.self.now.format).forms)) c.text.ensures

pub close_leaf-requires : goal.close_leaf-requires
close_leaf-requires c = name_inside c.args.self.now.format _ _ _ c.parse_identifier.ensures

pub close_leaf-requires-in-WithNumeral : goal.close_leaf-requires-in-WithNumeral
close_leaf-requires-in-WithNumeral c = natural_inside c.args.self.now.format _ _ _ c.parse_natural.ensures

pub label_with-requires : goal.label_with-requires
label_with-requires c = (inside_got _ _ _ (name_inside c.args.self.now.format _ _ _ c.parse_identifier-in-Binding.ensures) c.in_ok-binder-in-Binding.was).order

pub returns-in_default : goal.returns-in_default
returns-in_default c = unknown_refused _ _ _ _ (c.in_default.ensures ∙ ap (λ w. told_form (form_of_word w (edition c.args.self.now.format).forms)) c.text.ensures) _ c.at-unknown.ensures

pub returns-in-Alone : goal.returns-in-Alone
returns-in-Alone c = alone_refused _ _ _ _ _ (told (goal.at.returns-in-Alone c).In-Some) c.in-Alone.is _ c.at-unknown.ensures

pub returns-in-WithName : goal.returns-in-WithName
returns-in-WithName c =
    name_leaf _ _ _ _ _ (told (goal.at.returns-in-WithName c).In-Some) _ c.in-WithName.is c.parse_identifier.ensures _
    c.close_leaf.ensures

pub returns-in-WithNumeral : goal.returns-in-WithNumeral
returns-in-WithNumeral c =
    numeral_leaf _ _ _ _ _ (told (goal.at.returns-in-WithNumeral c).In-Some) _ c.in-WithNumeral.is c.parse_natural.ensures _
    c.close_leaf-in-WithNumeral.ensures

pub returns-in_err-binder-in-Binding : goal.returns-in_err-binder-in-Binding
returns-in_err-binder-in-Binding c =
    let p = err_from_is_err_and c.from_residual.result c.from_residual.ensures.1 in
    rw (p.1, p.2)
    (binder_refused _ _ _ _ _ (told (goal.at.returns-in_err-binder-in-Binding c).In-Some) _ c.in-Binding.is c.parse_identifier-in-Binding.ensures _ c.in_err-binder-in-Binding.was)

pub returns-in_ok-binder-in-Binding : goal.returns-in_ok-binder-in-Binding
returns-in_ok-binder-in-Binding c =
    binder_frame _ _ _ _ _ (told (goal.at.returns-in_ok-binder-in-Binding c).In-Some) _ c.in-Binding.is c.parse_identifier-in-Binding.ensures (bounded c.args.self.now.format)
    (fitting c.args.self.now.format) _ c.in_ok-binder-in-Binding.was _ c.label_with.ensures

pub returns-in-Plain : goal.returns-in-Plain
returns-in-Plain c = plain_frame _ _ _ _ _ (told (goal.at.returns-in-Plain c).In-Some) (fitting c.args.self.now.format) c.in-Plain.is _ c.label_alone.ensures
