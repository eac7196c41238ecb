-- `Input::close_leaf` meets its contract.
use mathlib.Core.Path.{refl}
use Rattle.std.proofs.lemmas.Result.{err_from_is_err_and}
use Rattle.expects.specs.Formats.{edition}
use Rattle.expects.proofs.Ahead.{inside_got}
use Rattle.expects.proofs.Terms.{leaf_refused, leaf_unclosed, leaf_got}
use Rattle.expects.proofs.Input.close_leaf.Goals as goal

pub label_with-requires : goal.label_with-requires
label_with-requires c = (inside_got _ _ _ c.requires c.in_ok-t.was).order

pub returns-in_err-t : goal.returns-in_err-t
returns-in_err-t c =
    let p = err_from_is_err_and c.from_residual.result c.from_residual.ensures.1 in
    rw (p.1, p.2) (leaf_refused (edition c.args.self.now.format) _ _ _ _ _ c.in_err-t.was)

pub returns-in_err-close : goal.returns-in_err-close
returns-in_err-close c =
    let p = err_from_is_err_and c.from_residual-in_err-close.result c.from_residual-in_err-close.ensures.1 in
    rw (p.1, p.2) (leaf_unclosed (edition c.args.self.now.format) _ _ _ _ _ c.in_ok-t.was _ c.expect_rparen.ensures _ c.in_err-close.was)

pub returns : goal.returns
returns c =
    leaf_got (edition c.args.self.now.format) _ _ _ _ _ c.in_ok-t.was _ c.expect_rparen.ensures _ c.in_ok-close.was
    (inside_got _ _ _ c.requires c.in_ok-t.was) _ c.label_with.ensures
