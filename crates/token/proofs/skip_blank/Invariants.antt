-- `token::skip_blank` meets its contract: what is left of the layout ends where the whole does.
use Prim.Native.Nat.{◌≤◌}
use Rattle.token.specs.Classes.{SameLayout}
use Rattle.token.proofs.skip_blank.Given as goal

abbrev pub invariant-loop-pos : goal.invariant-loop-pos
invariant-loop-pos l = SameLayout l.s l.at l.pos × l.at ≤ l.pos
