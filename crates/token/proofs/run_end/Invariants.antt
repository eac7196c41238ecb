-- `token::run_end` meets its contract: the run reaches up to pos.
use Prim.Native.Nat.{ℕ, ◌≤◌, ◌<◌}
use lib.ListN.{get_or}
use Rattle.token.specs.Classes.{class_number}
use Rattle.token.proofs.run_end.Given as goal

abbrev pub invariant-loop-pos : goal.invariant-loop-pos
invariant-loop-pos l = (l.at ≤ l.pos) × ((i : ℕ) → l.at ≤ i → i < l.pos → l.low ≤ class_number (get_or l.s i 0))
