-- `utf8::skip_blocks` meets its contract: each block that it passes is ASCII, and what is left is behind them.
use Rattle.std.proofs.Common.{◌≡◌, drop}
use Rattle.std.specs.Slice.Iter.{chunks_exact_rest, chunks_exact_size}
use Rattle.utf8.specs.Ascii.{SameEnd}
use Rattle.utf8.proofs.skip_blocks.Given as goal

abbrev pub invariant-loop-block : goal.invariant-loop-block
invariant-loop-block l = record {
  next : (goal.iterator-loop-block).can_next l.block-iterator;
  finite : (goal.iterator-loop-block).is_finite l.block-iterator;
  size : chunks_exact_size l.block-iterator ≡ 64;
  rest : chunks_exact_rest l.block-iterator ≡ drop l.behind l.s;
  so_far : SameEnd l.s l.at l.behind;
}
