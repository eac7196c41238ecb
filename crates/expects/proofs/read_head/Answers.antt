-- `read_head` meets its contract.
use mathlib.Core.Path.{refl}
use Rattle.std.proofs.lemmas.Result.{err_from_is_err_and}
use Rattle.terms.specs.Forms.{edition_0_1}
use Rattle.expects.proofs.Heads.{known_source}
use Rattle.expects.proofs.Lines.{head_refused, head_got}
use Rattle.expects.proofs.read_head.Goals as goal

pub returns-in_err-format : goal.returns-in_err-format
unfolding edition_0_1
returns-in_err-format c = let p = err_from_is_err_and c.from_residual.result c.from_residual.ensures.1 in rw (p.1, p.2) (head_refused _ _ (c.surface_line.ensures refl) _ c.in_err-format.was)

pub returns : goal.returns
unfolding edition_0_1
returns c = head_got _ _ (c.surface_line.ensures refl) _ _ c.in_ok-format.was _ (c.module_line.ensures (known_source _ _ (c.surface_line.ensures refl) _ _ c.in_ok-format.was))
