-- `token::comment_end` meets its contract.
use Rattle.std.proofs.Common.{length, sym, ◌∙◌, arith, rules, ◌≡◌}
use Rattle.token.specs.Comments.{no_end}
use Rattle.token.proofs.Comments.{comment_stop, comment_over}
use Rattle.token.proofs.CommentBlocks.{same_blocks, same_byte, same_on}
use Rattle.token.proofs.comment_end.Goals as goal

pub skip_blocks-pos-requires-clause-inside : goal.skip_blocks-pos-requires-clause-inside
skip_blocks-pos-requires-clause-inside c = (c.skip_blocks-blocks.ensures no_end (λ b r k. search rules)).high

pub loop-pos-init : goal.loop-pos-init
loop-pos-init c =
    same_on _ _ _ _ (same_blocks _ _ _ (c.skip_blocks-blocks.ensures no_end (λ b r k. search rules)))
    (same_blocks _ _ _ (c.skip_blocks-pos.ensures no_end (λ b r k. search rules)))

pub returns-then-s-pos-eq10 : goal.returns-then-s-pos-eq10
returns-then-s-pos-eq10 c = sym (c.loop-pos.invariant.same ∙ comment_stop _ _ (omega arith) c.if-s-pos-eq10.true)

pub loop-pos-preserved : goal.loop-pos-preserved
loop-pos-preserved c = same_byte _ _ _ c.loop-pos.invariant (omega arith) c.if-s-pos-eq10.false

pub returns : goal.returns
returns c =
    let q : c.loop-pos.pos ≡ length c.args.s.now = omega (arith, c.loop-pos.invariant.high) in
    sym (rw q at (c.loop-pos.invariant.same ∙ comment_over _ _ (omega arith)))
