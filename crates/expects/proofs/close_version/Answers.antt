-- `close_version` meets its contract.
use mathlib.Core.Path.{sym}
use Rattle.std.proofs.lemmas.Result.{err_from_is_err_and}
use Rattle.expects.proofs.Identifiers.{closing_own}
use Rattle.expects.proofs.Lines.{version_first, version_second, version_other, version_refused}
use Rattle.expects.proofs.close_version.Goals as goal

pub returns-in_err-close : goal.returns-in_err-close
returns-in_err-close c = let p = err_from_is_err_and c.from_residual.result c.from_residual.ensures.1 in rw (p.1, p.2) (λ q. version_refused _ c.args.major c.args.minor _ (closing_own c.args.input.now.format _ _ q _ c.expect_rparen.ensures) _ c.in_err-close.was)

pub returns-then-is_version : goal.returns-then-is_version
returns-then-is_version c = λ q. version_first _ c.args.major c.args.minor _ (closing_own c.args.input.now.format _ _ q _ c.expect_rparen.ensures) _ c.in_ok-close.was (sym c.if-is_version.ensures)

pub returns-then-is_version-2 : goal.returns-then-is_version-2
returns-then-is_version-2 c = λ q. version_second _ c.args.major c.args.minor _ (closing_own c.args.input.now.format _ _ q _ c.expect_rparen.ensures) _ c.in_ok-close.was (sym c.if-is_version.ensures) (sym c.if-is_version-2.ensures)

pub returns : goal.returns
returns c = λ q. version_other _ c.args.major c.args.minor _ (closing_own c.args.input.now.format _ _ q _ c.expect_rparen.ensures) _ c.in_ok-close.was (sym c.if-is_version.ensures) (sym c.if-is_version-2.ensures) _ c.nowhere.ensures
