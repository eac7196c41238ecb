-- `module_line` meets its contract.
use Rattle.std.proofs.lemmas.Result.{err_from_is_err_and}
use Rattle.expects.proofs.Identifiers.{tag_own, closing_own}
use Rattle.expects.proofs.Lines.{module_refused, name_refused, close_refused, module_got}
use Rattle.expects.proofs.module_line.Goals as goal

pub returns-in_err-w : goal.returns-in_err-w
returns-in_err-w c = let p = err_from_is_err_and c.from_residual.result c.from_residual.ensures.1 in rw (p.1, p.2) (λ q. module_refused _ c.args.input.now.format _ _ (tag_own c.args.input.now.format _ _ _ q _ c.expect_tag.ensures) _ c.in_err-w.was)

pub returns-in_err-name : goal.returns-in_err-name
returns-in_err-name c = let p = err_from_is_err_and c.from_residual-in_err-name.result c.from_residual-in_err-name.ensures.1 in rw (p.1, p.2) (λ q. name_refused _ c.args.input.now.format _ _ (tag_own c.args.input.now.format _ _ _ q _ c.expect_tag.ensures) _ c.in_ok-w.was _ c.parse_identifier.ensures _ c.in_err-name.was)

pub returns-in_err-close : goal.returns-in_err-close
returns-in_err-close c = let p = err_from_is_err_and c.from_residual-in_err-close.result c.from_residual-in_err-close.ensures.1 in rw (p.1, p.2) (λ q. close_refused _ c.args.input.now.format _ _ (tag_own c.args.input.now.format _ _ _ q _ c.expect_tag.ensures) _ c.in_ok-w.was _ c.parse_identifier.ensures _ c.in_ok-name.was _ (closing_own c.args.input.now.format _ _ q _ c.expect_rparen.ensures) _ c.in_err-close.was)

pub returns : goal.returns
returns c = λ q. module_got _ c.args.input.now.format _ _ (tag_own c.args.input.now.format _ _ _ q _ c.expect_tag.ensures) _ c.in_ok-w.was _ c.parse_identifier.ensures _ c.in_ok-name.was _ (closing_own c.args.input.now.format _ _ q _ c.expect_rparen.ensures) _ c.in_ok-close.was
