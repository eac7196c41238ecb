-- `token::skip_layout` meets its contract: what is left of the layout ends where the whole does.
use Prim.Native.Nat.{◌-◌}
use lib.ListN.{length}
use Rattle.token.specs.Classes.{SameLayout}
use Rattle.token.proofs.skip_layout.Given as goal

abbrev pub invariant-loop-pos : goal.invariant-loop-pos
invariant-loop-pos l = SameLayout l.s l.at l.pos

abbrev pub decreases-loop-pos : goal.decreases-loop-pos
decreases-loop-pos l = length l.s - l.pos
