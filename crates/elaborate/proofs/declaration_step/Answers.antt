-- `declaration_step` meets its contract.
use Rattle.std.proofs.lemmas.Result.{err_from_is_err_and}
use Rattle.elaborate.proofs.Answers.{duplicate, declared, undeclared}
use Rattle.elaborate.proofs.declaration_step.Goals as goal

pub returns-in_err-elaborate_parts-in-Free-clause-declared : goal.returns-in_err-elaborate_parts-in-Free-clause-declared
returns-in_err-elaborate_parts-in-Free-clause-declared c =
    let a = c.args in
    let p = err_from_is_err_and c.from_residual.result c.from_residual.ensures.1 in
    rw (p.1, p.2) (undeclared a.m.source.now a.m.surface.now a.m.declarations.now a.m.rows a.d a.core.now _ _ c.in-Free.ensures.0 c.in_err-elaborate_parts-in-Free.ensures)

pub returns-in-Held-clause-declared : goal.returns-in-Held-clause-declared
returns-in-Held-clause-declared c =
    let a = c.args in
    duplicate a.m.source.now a.m.surface.now a.m.declarations.now a.m.rows a.d a.core.now _ _ c.in-Held.ensures

pub returns-in_ok-elaborate_parts-in-Free-clause-declared : goal.returns-in_ok-elaborate_parts-in-Free-clause-declared
returns-in_ok-elaborate_parts-in-Free-clause-declared c =
    let a = c.args in
    declared a.m.source.now a.m.surface.now a.m.declarations.now a.m.rows a.d a.core.now _ c.in-Free.ensures.0 c.in_ok-elaborate_parts-in-Free.ensures
