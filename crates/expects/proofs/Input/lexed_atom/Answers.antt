-- `Input::lexed_atom` meets its contract.
use mathlib.Core.Path.{sym, ◌∙◌}
use Rattle.std.proofs.lemmas.Result.{err_from_is_err_and}
use Rattle.expects.specs.Formats.{edition}
use Rattle.expects.proofs.Tokens.{atom_kind, kind_refused}
use Rattle.expects.proofs.Input.lexed_atom.Goals as goal

pub returns-in_err-lex : goal.returns-in_err-lex
returns-in_err-lex c = let p = err_from_is_err_and c.from_residual.result c.from_residual.ensures.1 in rw (p.1, p.2) (λ n. atom_kind ((edition c.args.self.now.format).tokens c.args.self.now.bytes.now) _ ∙ kind_refused ((edition c.args.self.now.format).tokens c.args.self.now.bytes.now) _ c.args.at _ c.lex.ensures _ c.in_err-lex.was n)

pub returns : goal.returns
returns c = λ n. atom_kind ((edition c.args.self.now.format).tokens c.args.self.now.bytes.now) _ ∙ c.expect_kind.ensures ((edition c.args.self.now.format).tokens c.args.self.now.bytes.now) c.args.at (sym c.in_ok-lex.was ∙ c.lex.ensures) n
