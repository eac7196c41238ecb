-- `token::skip_layout` meets its contract: what is left of the layout ends where the whole does.
use mathlib.Core.Path.{refl, sym, ◌∙◌}
use native.Mathlib.Omega.{arith}
use borrow.Author.Rules.{rules}
use Rattle.token.proofs.ClassNumbers.{layout_class, comment_class, layout_number, comment_number}
use Rattle.token.proofs.Runs.{layout_blank, layout_comment, layout_stop, layout_over}
use Rattle.token.proofs.Comments.{comment_from, layout_goes_on}
use Rattle.token.proofs.skip_layout.Goals as goal

pub loop-pos-preserved-in-0 : goal.loop-pos-preserved-in-0
loop-pos-preserved-in-0 c =
    c.loop-pos.invariant
    ∙ layout_blank _ _ (search rules) (layout_class _ (sym c.of.ensures ∙ c.in-0.is))
    ∙ c.skip_spaces-behind.ensures.same
    ∙ c.skip_blank-pos.ensures.same_layout

pub loop-pos-smaller : goal.loop-pos-smaller
loop-pos-smaller c = let low = comment_from _ _ _ c.comment_end-pos.ensures in omega arith

-- the layout goes on behind a comment
pub loop-pos-preserved : goal.loop-pos-preserved
loop-pos-preserved c =
    c.loop-pos.invariant
    ∙ layout_comment _ _ (search rules) (comment_class _ (sym c.of.ensures ∙ c.in-1.is))
    ∙ layout_goes_on _ _ _ c.comment_end-pos.ensures

pub returns-in_default : goal.returns-in_default
returns-in_default c =
    let e = c.of.ensures in
    sym (c.loop-pos.invariant
    ∙ layout_stop _ _ (search rules) _ refl (λ q. omega (arith, e, layout_number _ q)) (λ q. omega (arith, e, comment_number _ q)))

pub returns : goal.returns
returns c = sym (c.loop-pos.invariant ∙ layout_over _ _ _ (search rules))
