-- `shared_blocks` meets its contract: the names share each block that it passes, and what is left of each is behind them.
use Rattle.std.proofs.Common.{◌≡◌, drop}
use Rattle.std.specs.Iterator.Adapters.{zip_first, zip_second}
use Rattle.std.specs.Slice.Iter.{chunks_exact_rest, chunks_exact_size}
use Rattle.differences.specs.inner.Shared.{Shared}
use Rattle.differences.proofs.shared_blocks.Given as goal

abbrev pub invariant-loop-x : goal.invariant-loop-x
invariant-loop-x l = record {
  next : (goal.iterator-loop-x).can_next l.x-iterator;
  finite : (goal.iterator-loop-x).is_finite l.x-iterator;
  first_size : chunks_exact_size (zip_first l.x-iterator) ≡ 8;
  second_size : chunks_exact_size (zip_second l.x-iterator) ≡ 8;
  first_rest : chunks_exact_rest (zip_first l.x-iterator) ≡ drop l.shared l.a;
  second_rest : chunks_exact_rest (zip_second l.x-iterator) ≡ drop l.shared l.b;
  so_far : Shared l.a l.b l.shared;
}
