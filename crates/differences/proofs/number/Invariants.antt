-- `number` meets its contract: what is left of the bytes is digits behind the number so far.
use Rattle.std.proofs.Common.{◌≡◌}
use Rattle.std.specs.Iterator.Adapters.{rev_source}
use Rattle.std.specs.Slice.Iter.{iter_rest}
use Rattle.differences.specs.inner.Digits.{digits}
use Rattle.differences.proofs.number.Given as goal

abbrev pub invariant-loop-byte : goal.invariant-loop-byte
invariant-loop-byte l = record {
  next : (goal.iterator-loop-byte).can_next l.byte-iterator;
  finite : (goal.iterator-loop-byte).is_finite l.byte-iterator;
  same : digits l.number (iter_rest (rev_source l.byte-iterator)) ≡ digits l.first l.w;
}
