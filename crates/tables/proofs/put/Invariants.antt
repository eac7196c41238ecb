-- `tables::put` meets its contract.
use mathlib.Core.Path.{◌≡◌}
use lib.ListN.{length}
use Rattle.tables.proofs.Storing.{Storing}
use Rattle.tables.proofs.put.Given as goal

abbrev pub invariant-loop-i : goal.invariant-loop-i
invariant-loop-i l = Storing l.initial.t l.at l.words l.t l.i × (length l.t ≡ length l.initial.t)
