-- `shared_blocks` meets its contract: the names share each block that it passes, and what is left of each is behind them.
use Rattle.std.proofs.Common.{sym, ◌∙◌, arith}
use Rattle.differences.proofs.Shared.{chunk_left, shared_chunk}
use Rattle.differences.proofs.shared_blocks.Goals as goal

pub loop-x-preserved : goal.loop-x-preserved
loop-x-preserved c =
    let i = c.loop-x.invariant in
    let t = c.in-Some.ensures.steps in
    let f = sym i.first_rest ∙ t.0.1.0 in
    let g = sym i.second_rest ∙ t.1.1.0 in
    let l = t.0.1.1 ∙ i.first_size in
    let m = t.1.1.1 ∙ i.second_size in
    record {
      next = (omega arith, omega arith);
      finite = tt;
      first_size = t.0.0 ∙ i.first_size;
      second_size = t.1.0 ∙ i.second_size;
      first_rest = chunk_left c.args.a.now _ _ c.loop-x.shared 8 f l;
      second_rest = chunk_left c.args.b.now _ _ c.loop-x.shared 8 g m;
      so_far = shared_chunk _ _ c.requires _ i.so_far 8 _ _ _ _ (λ k. (c.type_inv.a k).fits) (λ k. (c.type_inv.b k).fits) f g l m (sym c.number.ensures ∙ c.if-number.false ∙ c.number-in-loop-x.ensures);
    }
