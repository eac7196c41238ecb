-- `eval_reference` meets its contract.
use mathlib.Core.Path.{refl, sym, ap, ◌∙◌}
use Rattle.terms.specs.Resolution.{is_unknown}
use Rattle.scope.specs.Scope.{in_scope, declared_names}
use Rattle.scope.proofs.Locals.{referred}
use Rattle.elaborate.proofs.Finishing.{found_core, found_known, reference_done}
use Rattle.elaborate.proofs.eval_reference.Goals as goal

pub returns-in_default : goal.returns-in_default
returns-in_default c =
    let a = c.args in
    let s = a.m.source.now in
    (ap is_unknown (sym (referred s (in_scope s a.work.now a.st.locals) (declared_names s a.m.declarations.now 0 a.d) a.label _ c.requires.kind_value c.in_default.ensures)), refl, refl)

pub returns : goal.returns
returns c =
    let a = c.args in
    let s = a.m.source.now in
    let r = c.in-Some.referent in
    reference_done a.label a.st _ _ _
    (found_core r ∙ referred s (in_scope s a.work.now a.st.locals) (declared_names s a.m.declarations.now 0 a.d) a.label _ c.requires.kind_value c.in-Some.ensures)
    (found_known r) c.found_row.ensures c.finish.ensures
