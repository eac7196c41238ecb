-- `core_reader::format_line` meets its contract.
use Rattle.std.proofs.lemmas.Result.{err_from_is_err_and}
use Rattle.core_reader.proofs.Lines.{tag_core, format_refused, format_got}
use Rattle.core_reader.proofs.format_line.Goals as goal

pub returns-in_err-w : goal.returns-in_err-w
returns-in_err-w c = let p = err_from_is_err_and c.from_residual.result c.from_residual.ensures.1 in rw (p.1, p.2) (format_refused _ _ _ (tag_core _ _ _ _ _ c.requires c.expect_tag.ensures) _ c.in_err-w.was)

pub returns : goal.returns
returns c = format_got _ _ _ (tag_core _ _ _ _ _ c.requires c.expect_tag.ensures) _ c.in_ok-w.was c.read_version.result c.read_version.ensures
