-- `records::write_records` meets its contract: before record k the list is the table's, and behind it as it was.
use Rattle.std.proofs.Common.{◌≡◌}
use Rattle.records.proofs.Written.{written}
use Rattle.records.proofs.write_records.Given as goal

abbrev pub invariant-loop-k : goal.invariant-loop-k
invariant-loop-k l = l.list ≡ written l.words l.initial.list l.k
