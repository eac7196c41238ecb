-- `printer::put` meets its contract: the bytes behind those that are left are put.
use Rattle.std.proofs.Common.{◌≡◌, length}
use Rattle.std.specs.Iterator.Adapters.{rev_source}
use Rattle.std.specs.Slice.Iter.{iter_rest}
use Rattle.printer.proofs.Ends.{Backwards}
use Rattle.printer.proofs.put.Given as goal

abbrev pub invariant-loop-byte : goal.invariant-loop-byte
invariant-loop-byte l = record {
  next : (goal.iterator-loop-byte).can_next l.byte-iterator;
  finite : (goal.iterator-loop-byte).is_finite l.byte-iterator;
  long : length l.out ≡ length l.initial.out;
  so_far : Backwards l.initial.out l.at l.bytes (iter_rest (rev_source l.byte-iterator)) l.out l.pos;
}
