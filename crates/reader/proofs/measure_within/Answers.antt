-- `reader::measure_within` meets its contract.
use Rattle.std.proofs.lemmas.Result.{err_from_is_err_and}
use Rattle.reader.proofs.Modules.{head_refused, module_refused, module_done}
use Rattle.reader.proofs.measure_within.Goals as goal

pub returns-in_err-format : goal.returns-in_err-format
returns-in_err-format g c =
    let a = c.args in
    let p = err_from_is_err_and c.from_residual.result c.from_residual.ensures.1 in
    rw (p.1, p.2) (λ short wide. head_refused a.limits a.s.now a.table.now a.list.now c.read_head.result c.read_head.ensures _ c.in_err-format.was _ _)

pub returns-in_err-all : goal.returns-in_err-all
returns-in_err-all g c =
    let a = c.args in
    let p = err_from_is_err_and c.from_residual-in_err-all.result c.from_residual-in_err-all.ensures.1 in
    rw (p.1, p.2) (λ short wide. module_refused a.limits a.s.now a.table.now a.list.now c.read_head.result c.read_head.ensures _ _ _ c.in_ok-format.was a.work.now short wide
    c.read_declarations.result c.read_declarations.new.table c.read_declarations.new.list c.read_declarations.ensures _ c.in_err-all.was)

pub returns : goal.returns
returns g c =
    let a = c.args in
    λ short wide.
    module_done a.limits a.s.now a.table.now a.list.now c.read_head.result c.read_head.ensures _ _ _ c.in_ok-format.was a.work.now short wide
    c.read_declarations.result c.read_declarations.new.table c.read_declarations.new.list c.read_declarations.ensures
    c.in_ok-all.all.rows c.in_ok-all.all.declarations c.in_ok-all.all.next c.in_ok-all.all.frames c.in_ok-all.was
