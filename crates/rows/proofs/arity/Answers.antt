-- `rows::arity` meets its contract: its digits are the arities of the kinds below 25, and an arrow has that of a pi.
use mathlib.Core.Path.{refl, ◌∙◌}
use native.Mathlib.Omega.{arith}
use Rattle.terms.specs.Forms.{forms, forms_0_2, form_of_kind, arity_of}
use Rattle.rows.proofs.Arities.{same_value, arity_digit, arity_by, no_arity_by}
use Rattle.rows.proofs.arity.Goals as goal

pub returns-in-3-to-24 : goal.returns-in-3-to-24
unfolding forms forms_0_2 form_of_kind arity_of
returns-in-3-to-24 c =
    let k = c.core_kind in
    rw c.from.ensures (arity_digit _ k.result refl (omega arith) ∙ arity_by k.result c.args.kind k.ensures)

pub returns-in_default : goal.returns-in_default
unfolding forms forms_0_2 form_of_kind arity_of
returns-in_default c =
    let k = c.core_kind in
    same_value arity_of (λ k. 0) 0 3 k.result refl (omega arith) ∙ arity_by k.result c.args.kind k.ensures

pub returns-in_default-2 : goal.returns-in_default-2
returns-in_default-2 c = let k = c.core_kind in no_arity_by k.result c.args.kind k.ensures (omega arith)
