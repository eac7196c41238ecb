-- `elaborate_parts` meets its contract.
use Prim.Native.Nat.{◌+◌, ◌*◌}
use lib.ListN.{get_or}
use Rattle.std.proofs.lemmas.Result.{err_from_is_err_and}
use Rattle.elaborate.proofs.Answers.{postulated, type_unknown, body_answered}
use Rattle.elaborate.proofs.elaborate_parts.Goals as goal

pub returns-in_err-elaborate_term : goal.returns-in_err-elaborate_term
returns-in_err-elaborate_term c =
    let a = c.args in
    let p = err_from_is_err_and c.from_residual.result c.from_residual.ensures.1 in
    rw (p.1, p.2) (type_unknown a.m.source.now a.m.surface.now a.m.declarations.now a.m.rows a.d (get_or a.m.declarations.now (a.d * 5) 0) (get_or a.m.declarations.now (a.d * 5 + 3) 0) (get_or a.m.declarations.now (a.d * 5 + 4) 0) a.core.now _ _ c.in_err-elaborate_term.ensures)

pub returns-then-kind-eq-POSTULATE : goal.returns-then-kind-eq-POSTULATE
returns-then-kind-eq-POSTULATE c =
    let a = c.args in
    postulated a.m.source.now a.m.surface.now a.m.declarations.now a.m.rows a.d (get_or a.m.declarations.now (a.d * 5) 0) (get_or a.m.declarations.now (a.d * 5 + 3) 0) (get_or a.m.declarations.now (a.d * 5 + 4) 0) a.core.now _ c.if-kind-eq-POSTULATE.true c.in_ok-elaborate_term.ensures

pub returns : goal.returns
returns c =
    let a = c.args in
    body_answered a.m.source.now a.m.surface.now a.m.declarations.now a.m.rows a.d (get_or a.m.declarations.now (a.d * 5) 0) (get_or a.m.declarations.now (a.d * 5 + 3) 0) (get_or a.m.declarations.now (a.d * 5 + 4) 0) a.core.now _ _ _ c.if-kind-eq-POSTULATE.false c.in_ok-elaborate_term.ensures c.elaborate_term-2.ensures
