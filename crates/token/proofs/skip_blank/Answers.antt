-- `token::skip_blank` meets its contract: what is left of the layout ends where the whole does.
use mathlib.Core.Path.{sym, ◌∙◌}
use native.Mathlib.Omega.{arith}
use borrow.Author.Rules.{rules}
use Rattle.token.proofs.ClassNumbers.{layout_class}
use Rattle.token.proofs.Runs.{layout_blank}
use Rattle.token.proofs.skip_blank.Goals as goal

pub loop-pos-preserved : goal.loop-pos-preserved
loop-pos-preserved c =
    let v = c.loop-pos.invariant in
    (v.0 ∙ layout_blank _ _ (search rules) (layout_class _ (sym c.of.ensures ∙ c.if-of-ne-LAYOUT.false)), omega (arith, v.1))
