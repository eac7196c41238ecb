-- `token::skip_blocks` meets its contract: the bytes of each block that it passes pass the test, and what is left is behind them.
use Rattle.std.proofs.Common.{◌≡◌, Bool, ℕ, ◌≤◌, length, drop}
use Rattle.std.specs.Slice.Iter.{chunks_exact_rest, chunks_exact_size}
use Rattle.token.specs.Blocks.{Passed}
use Rattle.token.proofs.skip_blocks.Given as goal

abbrev pub invariant-loop-block : goal.invariant-loop-block
invariant-loop-block g l = record {
  next : (goal.iterator-loop-block g).can_next l.block-iterator;
  finite : (goal.iterator-loop-block g).is_finite l.block-iterator;
  size : chunks_exact_size l.block-iterator ≡ g.row.N;
  rest : chunks_exact_rest l.block-iterator ≡ drop l.behind l.s;
  high : l.behind ≤ length l.s;
  so_far : (p : ℕ → Bool) → ((b : ℕ) (r : Bool) → goal.F-post g l.passes b r → r ≡ p b) → Passed p l.s l.at l.behind;
}
