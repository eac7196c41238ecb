-- `reader::read_declarations` meets its contract. The loop ends since each declaration that is read takes a record.
use mathlib.Core.Path.{◌∙◌, ap}
use native.Mathlib.Omega.{arith}
use Rattle.std.proofs.lemmas.Result.{err_from_is_err_and}
use Rattle.std.specs.Prelude.{Ok}
use Rattle.reader.proofs.Loop.{start, roomy, next, ended, stopped}
use Rattle.reader.proofs.read_declarations.Goals as goal

pub loop-next-init : goal.loop-next-init
loop-next-init g c =
    let a = c.args in
    start a.input.now.format a.limits a.input.now.bytes.now a.table.now a.list.now a.work.now a.from

pub returns-in_err-next : goal.returns-in_err-next
returns-in_err-next g c =
    let d = c.next_declaration in
    let l = c.loop-next in
    let a = c.args in
    let p = err_from_is_err_and c.from_residual.result c.from_residual.ensures.1 in
    rw (p.1, p.2) (stopped a.input.now.format a.limits a.input.now.bytes.now a.table.now a.list.now a.work.now a.from l.table l.list l.work l.at l.rows l.k l.frames l.invariant
    d.result d.new.table d.new.list d.new.work d.ensures.steps _ c.in_err-next.was)

pub returns-in-End : goal.returns-in-End
returns-in-End g c =
    let d = c.next_declaration in
    let l = c.loop-next in
    let a = c.args in
    ended a.input.now.format a.limits a.input.now.bytes.now a.table.now a.list.now a.work.now a.from l.table l.list l.work l.at l.rows l.k l.frames l.invariant
    d.result d.new.table d.new.list d.new.work d.ensures.steps _ (c.in_ok-next.was ∙ ap Ok c.in-End.is)

pub overflow_add-k : goal.overflow_add-k
overflow_add-k g c =
    let d = c.next_declaration in
    let l = c.loop-next in
    let a = c.args in
    let h = roomy a.input.now.format a.limits a.input.now.bytes.now a.table.now a.list.now a.work.now a.from l.table l.list l.work l.at l.rows l.k l.frames l.invariant
    d.result d.new.table d.new.list d.new.work d.ensures.steps d.ensures.has_room c.in-Declared.declaration.rows c.in-Declared.declaration.next c.in-Declared.declaration.frames (c.in_ok-next.was ∙ ap Ok c.in-Declared.is) in
    omega (arith, l.invariant.list_long, c.well_formed)

pub loop-next-smaller : goal.loop-next-smaller
loop-next-smaller g c =
    let d = c.next_declaration in
    let l = c.loop-next in
    let a = c.args in
    let h = roomy a.input.now.format a.limits a.input.now.bytes.now a.table.now a.list.now a.work.now a.from l.table l.list l.work l.at l.rows l.k l.frames l.invariant
    d.result d.new.table d.new.list d.new.work d.ensures.steps d.ensures.has_room c.in-Declared.declaration.rows c.in-Declared.declaration.next c.in-Declared.declaration.frames (c.in_ok-next.was ∙ ap Ok c.in-Declared.is) in
    omega (arith, l.invariant.list_long)

pub loop-next-preserved : goal.loop-next-preserved
loop-next-preserved g c =
    let d = c.next_declaration in
    let l = c.loop-next in
    let a = c.args in
    next a.input.now.format a.limits a.input.now.bytes.now a.table.now a.list.now a.work.now a.from l.table l.list l.work l.at l.rows l.k l.frames l.invariant
    d.result d.new.table d.new.list d.new.work d.ensures.steps d.ensures.has_room d.auto.table d.auto.list d.auto.work
    c.in-Declared.declaration.rows c.in-Declared.declaration.next c.in-Declared.declaration.frames _ (c.in_ok-next.was ∙ ap Ok c.in-Declared.is) c.max-frames.ensures
