-- `records::write_words` meets its contract: the table is `words_of` of the records before k.
use Rattle.std.proofs.Common.{◌≡◌}
use Rattle.records.proofs.Worded.{worded}
use Rattle.records.proofs.write_words.Given as goal

abbrev pub invariant-loop-k : goal.invariant-loop-k
invariant-loop-k l = l.words ≡ worded l.list l.initial.words l.k
