-- `Input::parse_name` meets its contract.
use Rattle.std.proofs.lemmas.Result.{err_from_is_err_and}
use Rattle.std.specs.Prelude.{Ok}
use Rattle.expects.specs.declared.Format.{Format}
use Rattle.expects.proofs.Formats.{names_by, source_name}
use Rattle.expects.proofs.Input.parse_name.Goals as goal

pub returns-in-Core01 : goal.returns-in-Core01
returns-in-Core01 c = names_by _ Format.Core01 _ _ c.string_name.result c.in-Core01.is c.string_name.ensures

pub returns-in_err-t-in_default : goal.returns-in_err-t-in_default
returns-in_err-t-in_default c = let p = err_from_is_err_and c.from_residual.result c.from_residual.ensures.1 in source_name c.args.self.now.format c.in_default.not-Core01 _ _ _ (rw (p.1, p.2) (λ n. c.in_err-t-in_default.ensures n))

pub returns-in_ok-t-in_default : goal.returns-in_ok-t-in_default
returns-in_ok-t-in_default c = source_name c.args.self.now.format c.in_default.not-Core01 _ _ (Ok (c.in_ok-t-in_default.t, c.in_ok-t-in_default.t.end)) (λ n. c.in_ok-t-in_default.ensures n)
