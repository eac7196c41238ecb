-- `Input::expect_tag` meets its contract.
use Rattle.std.proofs.lemmas.Result.{err_from_is_err_and}
use Rattle.expects.proofs.Lines.{tag_refused, tag_got}
use Rattle.expects.proofs.Input.expect_tag.Goals as goal

pub returns-in_err-lparen : goal.returns-in_err-lparen
returns-in_err-lparen c = let p = err_from_is_err_and c.from_residual.result c.from_residual.ensures.1 in rw (p.1, p.2) (tag_refused _ _ _ _ _ c.expect_lparen.ensures _ c.in_err-lparen.was)

pub returns : goal.returns
returns c = tag_got _ _ _ _ _ c.expect_lparen.ensures _ c.in_ok-lparen.was c.expect_atom.result c.expect_atom.ensures
