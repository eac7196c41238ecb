-- `expects::begin_bare` meets its contract.
use mathlib.Core.Path.{◌≡◌, sym, ap, ◌∙◌}
use Rattle.std.proofs.lemmas.Option.{none-some, same_Some}
use Rattle.surface.specs.Text.{text}
use Rattle.terms.specs.Forms.{forms, form_of_word}
use Rattle.expects.specs.declared.FormOfWord.{FormOfWord}
use Rattle.expects.specs.FormOfWord.{told_form}
use Rattle.expects.proofs.Formats.{alone_in}
use Rattle.expects.proofs.Terms.{bare_leaf, bare_refused}
use Rattle.expects.proofs.begin_bare.Goals.{After-surface_form}
use Rattle.expects.proofs.begin_bare.Goals as goal

-- The form of the word in a source of surface 0 1.
told : (c : After-surface_form) → c.surface_form.result ≡ told_form (form_of_word (text c.args.s.now c.args.t) forms)
told c = c.surface_form.ensures

pub returns-in_default : goal.returns-in_default
returns-in_default c = λ f.
    let e = sym c.in_default.is ∙ told (goal.at.returns-in_default c).After-surface_form in
    bare_refused _ _ _ (λ x i q. absurd (none-some x (e ∙ (alone_in f _).back x i q ∙ i))) _ c.at-unknown.ensures

pub returns-in-Alone : goal.returns-in-Alone
returns-in-Alone c = λ f.
    let e = sym c.in-Some.is ∙ told (goal.at.returns-in-Alone c).After-surface_form in
    bare_leaf _ _ _ _ (e ∙ sym ((alone_in f _).there _ (sym e) c.in-Alone.is)) c.in-Alone.is _ c.label_alone.ensures

pub returns-in_default-shape : goal.returns-in_default-shape
returns-in_default-shape c = λ f.
    let e = sym c.in-Some.is ∙ told (goal.at.returns-in_default-shape c).After-surface_form in
    bare_refused _ _ _ (λ x i q. c.in_default-shape.not-Alone (ap (λ (y : FormOfWord). y.shape) (same_Some _ x (e ∙ (alone_in f _).back x i q ∙ i)) ∙ q)) _ c.at-unknown.ensures
