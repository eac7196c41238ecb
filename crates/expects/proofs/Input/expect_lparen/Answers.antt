-- `Input::expect_lparen` meets its contract.
use mathlib.Core.Path.{sym, ◌∙◌}
use Rattle.std.proofs.lemmas.Result.{err_from_is_err_and}
use Rattle.expects.specs.Formats.{edition}
use Rattle.expects.proofs.Tokens.{opening_kind, kind_refused}
use Rattle.expects.proofs.Input.expect_lparen.Goals as goal

pub returns-in_err-open_at : goal.returns-in_err-open_at
returns-in_err-open_at c = let p = err_from_is_err_and c.from_residual.result c.from_residual.ensures.1 in rw (p.1, p.2) (λ n. opening_kind ((edition c.args.self.now.format).tokens c.args.self.now.bytes.now) _ ∙ kind_refused ((edition c.args.self.now.format).tokens c.args.self.now.bytes.now) _ c.args.at _ c.open_at.ensures _ c.in_err-open_at.was n)

pub returns : goal.returns
returns c = λ n. opening_kind ((edition c.args.self.now.format).tokens c.args.self.now.bytes.now) _ ∙ c.expect_kind.ensures ((edition c.args.self.now.format).tokens c.args.self.now.bytes.now) c.args.at (sym c.in_ok-open_at.was ∙ c.open_at.ensures) n
