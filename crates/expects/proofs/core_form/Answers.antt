-- `expects::core_form` meets its contract.
use Rattle.std.specs.Prelude.{option_and_then}
use mathlib.Core.Path.{sym, ◌∙◌, ap}
use Rattle.expects.specs.FormOfWord.{unnamed}
use Rattle.expects.proofs.CoreForms.{var_form, global_form, other_form}
use Rattle.expects.proofs.core_form.Goals as goal

pub returns-then-same_bytes : goal.returns-then-same_bytes
returns-then-same_bytes c = sym (var_form _ (sym c.same_bytes.ensures ∙ c.if-same_bytes.true))

pub returns-then-same_bytes-2 : goal.returns-then-same_bytes-2
returns-then-same_bytes-2 c = sym (global_form _ (sym c.same_bytes.ensures ∙ c.if-same_bytes.false) (sym c.same_bytes-2.ensures ∙ c.if-same_bytes-2.true))

pub returns-in_err-form : goal.returns-in_err-form
returns-in_err-form c =
    c.from_residual.ensures ∙ ap (option_and_then unnamed) (sym c.in_err-form.was ∙ c.requires)
    ∙ sym (other_form _ (sym c.same_bytes.ensures ∙ c.if-same_bytes.false) (sym c.same_bytes-2.ensures ∙ c.if-same_bytes-2.false))

pub returns : goal.returns
returns c =
    c.unnamed.ensures ∙ ap (option_and_then unnamed) (sym c.in_ok-form.was ∙ c.requires)
    ∙ sym (other_form _ (sym c.same_bytes.ensures ∙ c.if-same_bytes.false) (sym c.same_bytes-2.ensures ∙ c.if-same_bytes-2.false))
