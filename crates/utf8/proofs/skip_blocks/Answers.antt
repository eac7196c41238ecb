-- `utf8::skip_blocks` meets its contract: each block that it passes is ASCII, and what is left is behind them.
use Rattle.std.proofs.Common.{sym, ◌∙◌, arith}
use Rattle.token.proofs.Chunks.{chunk_left}
use Rattle.utf8.proofs.Runs.{same_block}
use Rattle.utf8.proofs.skip_blocks.Goals as goal

pub loop-block-preserved : goal.loop-block-preserved
loop-block-preserved c =
    let i = c.loop-block.invariant in
    let t = c.in-Some.ensures.steps in
    let f = sym i.rest ∙ t.1.0 in
    let l = t.1.1 ∙ i.size in
    record {
      next = omega arith;
      finite = tt;
      size = t.0 ∙ i.size;
      rest = chunk_left c.args.s.now _ _ c.loop-block.behind 64 f l;
      so_far = same_block _ _ _ i.so_far 64 _ _ f l (sym c.if-not-is_ascii.ensures);
    }
