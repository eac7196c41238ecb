-- `Classes::of_table` meets its contract: the entries before b are right.
use Rattle.std.proofs.Common.{◌≡◌, ℕ, ◌<◌}
use lib.ListN.{get_or}
use Rattle.token.specs.Classes.{class_number}
use Rattle.token.proofs.byte_classes.Classes.of_table.Given as goal

abbrev pub invariant-loop-b : goal.invariant-loop-b
invariant-loop-b l = (i : ℕ) → i < l.b → get_or l.table i 0 ≡ class_number i
