-- `utf8::skip_pairs` meets its contract: each sequence that it passes has two bytes, and what is left is behind them.
use Rattle.std.proofs.Common.{◌≡◌, drop}
use Rattle.std.specs.Slice.Iter.{chunks_exact_rest, chunks_exact_size}
use Rattle.utf8.proofs.Pairs.{Rest}
use Rattle.utf8.proofs.skip_pairs.Given as goal

abbrev pub invariant-loop-pair : goal.invariant-loop-pair
invariant-loop-pair l = record {
  next : (goal.iterator-loop-pair).can_next l.pair-iterator;
  finite : (goal.iterator-loop-pair).is_finite l.pair-iterator;
  size : chunks_exact_size l.pair-iterator ≡ 2;
  rest : chunks_exact_rest l.pair-iterator ≡ drop l.behind l.s;
  so_far : Rest l.s l.at l.behind;
}
