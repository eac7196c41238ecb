-- `utf8::skip_pairs` meets its contract: each sequence that it passes has two bytes, and what is left is behind them.
use Rattle.std.proofs.Common.{sym, ◌∙◌, ap, length, length-drop, arith}
use Rattle.token.proofs.Chunks.{chunk_left}
use Rattle.utf8.proofs.Pairs.{rest_more, stops, not_first, not_second, no_room}
use Rattle.utf8.proofs.skip_pairs.Goals as goal
use Rattle.utf8.proofs.skip_pairs.Goals.{then-not-between-via-then-not-between, then-not-between-via-else-not-between+then-not-between-2}

pub returns-then-not-between : goal.returns-then-not-between
returns-then-not-between c =
    let i = c.loop-pair.invariant in
    let t = c.in-Some.ensures.steps in
    let f = sym i.rest ∙ t.1.0 in
    let l = t.1.1 ∙ i.size in
    stops _ _ _ i.so_far (elim c.then-not-between.branch [
      | then-not-between-via-then-not-between w ↦ not_first _ _ _ _ f l w.if-not-between.ensures
      | then-not-between-via-else-not-between+then-not-between-2 w ↦ not_second _ _ _ _ f l i.so_far.high w.if-not-between.ensures w.if-not-between-2.ensures
    ])

pub loop-pair-preserved : goal.loop-pair-preserved
loop-pair-preserved c =
    let i = c.loop-pair.invariant in
    let t = c.in-Some.ensures.steps in
    let f = sym i.rest ∙ t.1.0 in
    let l = t.1.1 ∙ i.size in
    record {
      next = omega arith;
      finite = tt;
      size = t.0 ∙ i.size;
      rest = chunk_left c.args.s.now _ _ c.loop-pair.behind 2 f l;
      so_far = rest_more _ _ _ i.so_far _ _ f l c.if-not-between.ensures c.if-not-between-2.ensures;
    }

pub returns : goal.returns
returns c =
    let i = c.loop-pair.invariant in
    let short = c.in-None.ensures.steps.1.0 in
    stops _ _ _ i.so_far (no_room _ _ (omega (arith, short, i.size, ap length i.rest, length-drop c.loop-pair.behind c.args.s.now)))
