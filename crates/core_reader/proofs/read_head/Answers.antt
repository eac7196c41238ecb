-- `core_reader::read_head` meets its contract.
use Rattle.std.proofs.lemmas.Result.{err_from_is_err_and}
use Rattle.core_reader.proofs.Lines.{tag_core, head_refused, no_format, no_theory, supported, unsupported}
use Rattle.core_reader.proofs.read_head.Goals.{else-format-via-then-format+else-theory, else-format-via-else-format}
use Rattle.core_reader.proofs.read_head.Goals as goal

pub returns-in_err-w : goal.returns-in_err-w
returns-in_err-w c = let p = err_from_is_err_and c.from_residual.result c.from_residual.ensures.1 in rw (p.1, p.2) (head_refused _ _ _ (tag_core _ _ _ _ _ c.requires c.expect_tag.ensures) _ c.in_err-w.was)

pub returns-in_err-format : goal.returns-in_err-format
returns-in_err-format c = let p = err_from_is_err_and c.from_residual-in_err-format.result c.from_residual-in_err-format.ensures.1 in rw (p.1, p.2) (no_format _ _ _ (tag_core _ _ _ _ _ c.requires c.expect_tag.ensures) _ c.in_ok-w.was c.format_line.result c.format_line.ensures _ c.in_err-format.was)

pub returns-in_err-theory : goal.returns-in_err-theory
returns-in_err-theory c = let p = err_from_is_err_and c.from_residual-in_err-theory.result c.from_residual-in_err-theory.ensures.1 in rw (p.1, p.2) (no_theory _ _ _ (tag_core _ _ _ _ _ c.requires c.expect_tag.ensures) _ c.in_ok-w.was c.format_line.result c.format_line.ensures _ _ c.in_ok-format.was c.theory_line.result c.theory_line.ensures _ c.in_err-theory.was)

pub returns-then-theory : goal.returns-then-theory
returns-then-theory c =
    supported _ _ _ (tag_core _ _ _ _ _ c.requires c.expect_tag.ensures) _ c.in_ok-w.was c.format_line.result c.format_line.ensures _ _ c.in_ok-format.was c.theory_line.result c.theory_line.ensures _ _ c.in_ok-theory.was (rw (c.if-format.true, c.if-theory.true))

pub returns : goal.returns
returns c =
    unsupported _ _ _ (tag_core _ _ _ _ _ c.requires c.expect_tag.ensures) _ c.in_ok-w.was c.format_line.result c.format_line.ensures _ _ c.in_ok-format.was c.theory_line.result c.theory_line.ensures _ _ c.in_ok-theory.was
    (elim c.else-format.branch [
      | else-format-via-then-format+else-theory w ↦ rw (w.if-format.true, w.if-theory.false)
      | else-format-via-else-format w ↦ rw w.if-format.false
    ]) _ c.nowhere.ensures
