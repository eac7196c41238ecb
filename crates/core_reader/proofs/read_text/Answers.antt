-- `core_reader::read_text` meets its contract.
use Rattle.std.proofs.lemmas.Result.{err_from_is_err_and}
use Rattle.core_text.specs.TextReading.{text_edition}
use Rattle.core_reader.proofs.Texts.{head_stops, tag_stops, tag_goes}
use Rattle.core_reader.proofs.read_text.Goals as goal

pub returns-in_err-next : goal.returns-in_err-next
unfolding text_edition
returns-in_err-next c =
    let a = c.args in
    let p = err_from_is_err_and c.from_residual.result c.from_residual.ensures.1 in rw (p.1, p.2) (head_stops a.s.now a.table.now a.list.now a.work.now c.read_head.result c.read_head.ensures _ c.in_err-next.was _ _)

pub returns-in_err-w : goal.returns-in_err-w
unfolding text_edition
returns-in_err-w c =
    let a = c.args in
    let p = err_from_is_err_and c.from_residual-in_err-w.result c.from_residual-in_err-w.ensures.1 in rw (p.1, p.2) (tag_stops a.s.now a.table.now a.list.now a.work.now c.read_head.result c.read_head.ensures _ c.in_ok-next.was _ c.expect_tag.ensures _ c.in_err-w.was _ _)

pub returns : goal.returns
unfolding text_edition
returns c =
    let a = c.args in
    tag_goes a.s.now a.table.now a.list.now a.work.now c.read_head.result c.read_head.ensures _ c.in_ok-next.was _ c.expect_tag.ensures _ c.in_ok-w.was
    c.read_behind.result c.read_behind.new.table c.read_behind.new.list c.read_behind.ensures
