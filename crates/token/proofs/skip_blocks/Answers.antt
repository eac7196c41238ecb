-- `token::skip_blocks` meets its contract: the bytes of each block that it passes pass the test, and what is left is behind them.
use Rattle.std.proofs.Common.{sym, ◌∙◌, arith, ◌+◌, ◌≤◌, length}
use Rattle.std.proofs.lemmas.List.{take_rest}
use Rattle.token.proofs.Chunks.{chunk_left, chunk_fits}
use Rattle.token.proofs.Blocks.{passed_none, passed_block}
use Rattle.token.proofs.skip_blocks.Goals as goal

pub loop-block-init : goal.loop-block-init
loop-block-init g c =
    let e = c.into_iter-block-iterator.ensures.into_iter_gives in
    let z = c.chunks_exact-block-items.ensures in
    record {
      next = rw (e, z.size) c.requires.size;
      finite = tt;
      size = rw e z.size;
      rest = rw e (z.rest ∙ take_rest c.args.s.now c.args.at);
      high = c.requires.inside;
      so_far = λ p t. passed_none p _ _ c.requires.inside;
    }

pub returns-then-not-all_pass : goal.returns-then-not-all_pass
returns-then-not-all_pass g c = c.loop-block.invariant.so_far

pub overflow_add-behind : goal.overflow_add-behind
overflow_add-behind g c =
    let i = c.loop-block.invariant in
    let t = c.in-Some.ensures.steps in
    let f : c.loop-block.behind + g.row.N ≤ length c.args.s.now = chunk_fits c.args.s.now _ _ _ _ (sym i.rest ∙ t.1.0) (t.1.1 ∙ i.size) i.high in
    omega arith

pub loop-block-preserved : goal.loop-block-preserved
loop-block-preserved g c =
    let i = c.loop-block.invariant in
    let t = c.in-Some.ensures.steps in
    let f = sym i.rest ∙ t.1.0 in
    let l = t.1.1 ∙ i.size in
    record {
      next = rw (t.0, i.size) c.requires.size;
      finite = tt;
      size = t.0 ∙ i.size;
      rest = chunk_left c.args.s.now _ _ c.loop-block.behind _ f l;
      high = chunk_fits c.args.s.now _ _ _ _ f l i.high;
      so_far = λ p q. passed_block p _ _ _ _ (i.so_far p q) _ _ f l (sym (c.all_pass.ensures p q) ∙ c.if-not-all_pass.false);
    }

pub returns : goal.returns
returns g c = c.loop-block.invariant.so_far
