-- `core_reader::read_end` meets its contract.
use Rattle.std.proofs.lemmas.Result.{err_from_is_err_and}
use Rattle.core_reader.proofs.Lines.{closing_core, end_core, end_unclosed, no_end, ended}
use Rattle.core_reader.proofs.read_end.Goals as goal

pub returns-in_err-close : goal.returns-in_err-close
returns-in_err-close c = let p = err_from_is_err_and c.from_residual.result c.from_residual.ensures.1 in rw (p.1, p.2) (end_unclosed _ _ _ (closing_core _ _ _ _ c.requires c.expect_rparen.ensures) _ c.in_err-close.was)

pub returns-in_err-end : goal.returns-in_err-end
returns-in_err-end c = let p = err_from_is_err_and c.from_residual-in_err-end.result c.from_residual-in_err-end.ensures.1 in rw (p.1, p.2) (no_end _ _ _ (closing_core _ _ _ _ c.requires c.expect_rparen.ensures) _ c.in_ok-close.was _ (end_core _ _ _ _ c.requires c.expect_end.ensures) _ c.in_err-end.was)

pub returns : goal.returns
returns c = ended _ _ _ (closing_core _ _ _ _ c.requires c.expect_rparen.ensures) _ c.in_ok-close.was _ (end_core _ _ _ _ c.requires c.expect_end.ensures) _ c.in_ok-end.was
