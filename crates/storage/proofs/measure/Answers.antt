-- `storage::measure` meets its contract.
use lib.ListN.{length}
use Rattle.std.proofs.lemmas.Result.{err_from_is_err_and}
use Rattle.storage.proofs.Answers.{tested_refused, measured_refused, measured_done}
use Rattle.storage.proofs.measure.Goals as goal

pub returns-in_err-test_source : goal.returns-in_err-test_source
returns-in_err-test_source c =
    let a = c.args in
    let p = err_from_is_err_and c.from_residual.result c.from_residual.ensures.1 in
    rw (p.1, p.2) (tested_refused a.s.now (length a.work.now) _ c.in_err-test_source.ensures)

pub returns-in_err-size : goal.returns-in_err-size
returns-in_err-size c =
    let a = c.args in
    let m = c.measure_within in
    let p = err_from_is_err_and c.from_residual-in_err-size.result c.from_residual-in_err-size.ensures.1 in
    rw (p.1, p.2) (measured_refused a.s.now (length a.work.now) c.in_ok-test_source.ensures _ _ m.result m.new.table m.new.list m.ensures _ c.in_err-size.was)

pub returns : goal.returns
returns c =
    let a = c.args in
    let m = c.measure_within in
    measured_done a.s.now (length a.work.now) c.in_ok-test_source.ensures _ _ m.result m.new.table m.new.list m.ensures _ _ _ c.in_ok-size.was
