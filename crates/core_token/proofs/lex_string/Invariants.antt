-- `core_token::lex_string` meets its contract: what is left of the string is what the whole is.
use Prim.Native.Nat.{◌≤◌, ◌-◌}
use mathlib.Core.Path.{◌≡◌}
use lib.ListN.{length, drop}
use Rattle.core_token.specs.CoreToken.{nothing, string_from}
use Rattle.core_token.proofs.lex_string.Given as goal

abbrev pub invariant-loop-pos : goal.invariant-loop-pos
invariant-loop-pos l = (l.at ≤ l.pos) × (string_from l.start nothing l.at (drop l.at l.s) ≡ string_from l.start nothing l.pos (drop l.pos l.s))

abbrev pub decreases-loop-pos : goal.decreases-loop-pos
decreases-loop-pos l = length l.s - l.pos
