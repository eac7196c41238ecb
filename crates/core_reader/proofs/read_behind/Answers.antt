-- `core_reader::read_behind` meets its contract.
use Rattle.std.proofs.lemmas.Result.{err_from_is_err_and}
use Rattle.core_reader.proofs.Texts.{core_declarations, declarations_refused, end_refused, text_done}
use Rattle.core_reader.proofs.read_behind.Goals as goal

pub returns-in_err-all : goal.returns-in_err-all
returns-in_err-all c =
    let d = c.read_declarations in
    let a = c.args in
    let p = err_from_is_err_and c.from_residual.result c.from_residual.ensures.1 in rw (p.1, p.2) (declarations_refused a.input.now.bytes.now a.table.now a.list.now a.work.now a.at d.result d.new.table d.new.list (core_declarations _ _ _ _ _ _ _ _ _ _ c.requires d.ensures) _ c.in_err-all.was)

pub returns-in_err-read_end : goal.returns-in_err-read_end
returns-in_err-read_end c =
    let d = c.read_declarations in
    let a = c.args in
    let p = err_from_is_err_and c.from_residual-in_err-read_end.result c.from_residual-in_err-read_end.ensures.1 in rw (p.1, p.2) (end_refused a.input.now.bytes.now a.table.now a.list.now a.work.now a.at d.result d.new.table d.new.list (core_declarations _ _ _ _ _ _ _ _ _ _ c.requires d.ensures) c.in_ok-all.all.rows c.in_ok-all.all.declarations c.in_ok-all.all.next c.in_ok-all.all.frames c.in_ok-all.was c.read_end.result c.read_end.ensures _ c.in_err-read_end.was)

pub returns : goal.returns
returns c =
    let d = c.read_declarations in
    let a = c.args in
    text_done a.input.now.bytes.now a.table.now a.list.now a.work.now a.at d.result d.new.table d.new.list (core_declarations _ _ _ _ _ _ _ _ _ _ c.requires d.ensures) c.in_ok-all.all.rows c.in_ok-all.all.declarations c.in_ok-all.all.next c.in_ok-all.all.frames c.in_ok-all.was c.read_end.result c.read_end.ensures _ c.in_ok-read_end.was
