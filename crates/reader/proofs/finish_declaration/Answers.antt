-- `reader::finish_declaration` meets its contract.
use Rattle.std.proofs.lemmas.Result.{err_from_is_err_and}
use Rattle.reader.proofs.Declarations.{end_refused, end_got}
use Rattle.reader.proofs.finish_declaration.Goals as goal

pub returns-in_err-close : goal.returns-in_err-close
returns-in_err-close c =
    let p = err_from_is_err_and c.from_residual.result c.from_residual.ensures.1 in
    rw (p.1, p.2) (end_refused c.args.input.now.format c.args.input.now.bytes.now c.args.at _ _ _ _ _ _ c.expect_rparen.ensures _ c.in_err-close.was)

pub returns : goal.returns
returns c = end_got c.args.input.now.format c.args.input.now.bytes.now c.args.at _ _ _ _ _ _ c.expect_rparen.ensures _ c.in_ok-close.was _ c.store_record.ensures.table_after
