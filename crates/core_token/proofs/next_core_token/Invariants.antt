-- `core_token::next_core_token` meets its contract: the first token behind layout is the first token.
use Prim.Native.Nat.{◌≤◌, max}
use mathlib.Core.Path.{◌≡◌}
use lib.ListN.{length}
use Rattle.core_token.specs.CoreToken.{next_core_token}
use Rattle.core_token.proofs.next_core_token.Given as goal

abbrev pub invariant-loop-pos : goal.invariant-loop-pos
invariant-loop-pos l = (l.pos ≤ max l.at (length l.s)) × (next_core_token l.s l.at ≡ next_core_token l.s l.pos)
