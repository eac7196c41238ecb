-- `work_step` meets its contract.
use Rattle.std.specs.Prelude.{Ok}
use native.Mathlib.Omega.{arith}
use Rattle.elaborate.proofs.Steps.{as_state, below, top_item, top_room, top_stepped, build_bounds, push_bound, pop_bound, build_stepped, push_stepped, pop_stepped}
use Rattle.elaborate.proofs.work_step.Goals as goal

pub pop_work-requires : goal.pop_work-requires
pop_work-requires c = (omega arith, c.requires.rows_inside.area)

pub eval-requires : goal.eval-requires
eval-requires c =
    let a = c.args in
    let e = top_item a.work.now a.st _ c.requires.works_nonzero.0 c.in-Eval.ensures in
    let r = top_room a.m.source.now a.m.surface.now a.m.declarations.now a.m.rows a.d a.core.now a.work.now a.st _ e c.requires.room in
    record { rows_inside = c.requires.rows_inside; room = r }

pub enter_binder-requires : goal.enter_binder-requires
enter_binder-requires c =
    let a = c.args in
    let e = top_item a.work.now a.st _ c.requires.works_nonzero.0 c.in-PushLocal.ensures in
    let r = top_room a.m.source.now a.m.surface.now a.m.declarations.now a.m.rows a.d a.core.now a.work.now a.st _ e c.requires.room in
    (push_bound _ _ _ _ r, c.requires.rows_inside.area)

pub overflow_sub-result : goal.overflow_sub-result
overflow_sub-result c =
    let a = c.args in
    let e = top_item a.work.now a.st _ c.requires.works_nonzero.0 c.in-PopLocal.ensures in
    let r = top_room a.m.source.now a.m.surface.now a.m.declarations.now a.m.rows a.d a.core.now a.work.now a.st _ e c.requires.room in
    omega (arith, pop_bound _ _ _ r)

pub build_term-requires : goal.build_term-requires
build_term-requires c =
    let a = c.args in
    let e = top_item a.work.now a.st _ c.requires.works_nonzero.0 c.in-Build.ensures in
    let r = top_room a.m.source.now a.m.surface.now a.m.declarations.now a.m.rows a.d a.core.now a.work.now a.st _ e c.requires.room in
    let b = build_bounds _ _ _ _ _ r in
    (b.0, b.1, c.requires.rows_inside.area)

pub returns-in-Eval : goal.returns-in-Eval
returns-in-Eval c =
    let a = c.args in
    let k = c.eval in
    let e = top_item a.work.now a.st _ c.requires.works_nonzero.0 c.in-Eval.ensures in
    top_stepped a.m.source.now a.m.surface.now a.m.declarations.now a.m.rows a.d a.core.now a.work.now a.st _ e k.result k.new.core k.new.work k.ensures

pub returns-in-PushLocal : goal.returns-in-PushLocal
returns-in-PushLocal c =
    let a = c.args in
    let k = c.enter_binder in
    let e = top_item a.work.now a.st _ c.requires.works_nonzero.0 c.in-PushLocal.ensures in
    let r = top_room a.m.source.now a.m.surface.now a.m.declarations.now a.m.rows a.d a.core.now a.work.now a.st _ e c.requires.room in
    top_stepped a.m.source.now a.m.surface.now a.m.declarations.now a.m.rows a.d a.core.now a.work.now a.st _ e (Ok _) a.core.now k.new.work
    (as_state a.m.source.now a.m.surface.now a.m.declarations.now a.m.rows a.d a.core.now a.work.now (below a.st) k.ensures.0
    (push_stepped a.m.source.now a.m.surface.now a.m.declarations.now a.m.rows a.d a.core.now a.work.now (below a.st) _ k.new.work (omega arith) r k.ensures.1))

pub returns-in-PopLocal : goal.returns-in-PopLocal
returns-in-PopLocal c =
    let a = c.args in
    let e = top_item a.work.now a.st _ c.requires.works_nonzero.0 c.in-PopLocal.ensures in
    let r = top_room a.m.source.now a.m.surface.now a.m.declarations.now a.m.rows a.d a.core.now a.work.now a.st _ e c.requires.room in
    top_stepped a.m.source.now a.m.surface.now a.m.declarations.now a.m.rows a.d a.core.now a.work.now a.st _ e (Ok _) a.core.now a.work.now (pop_stepped a.m.source.now a.m.surface.now a.m.declarations.now a.m.rows a.d a.core.now a.work.now (below a.st) (omega arith) r)

pub returns-in-Build : goal.returns-in-Build
returns-in-Build c =
    let a = c.args in
    let k = c.build_term in
    let e = top_item a.work.now a.st _ c.requires.works_nonzero.0 c.in-Build.ensures in
    let r = top_room a.m.source.now a.m.surface.now a.m.declarations.now a.m.rows a.d a.core.now a.work.now a.st _ e c.requires.room in
    top_stepped a.m.source.now a.m.surface.now a.m.declarations.now a.m.rows a.d a.core.now a.work.now a.st _ e (Ok k.result) k.new.core k.new.work (build_stepped a.m.source.now a.m.surface.now a.m.declarations.now a.m.rows a.d a.core.now a.work.now (below a.st) _ _ k.result k.new.core k.new.work (omega arith) r k.ensures)
