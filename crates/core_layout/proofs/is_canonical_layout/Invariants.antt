-- `core_layout::is_canonical_layout` meets its contract. The loop's invariant: the layout of the whole text is that of the tokens from here on.
-- The measure is what is left of the text.
use Prim.Native.Nat.{◌-◌}
use lib.ListN.{length}
use Rattle.core_layout.proofs.Scan.{Scanned}
use Rattle.core_layout.proofs.is_canonical_layout.Given as goal

abbrev pub invariant-loop-token : goal.invariant-loop-token
invariant-loop-token l = Scanned l.t l.at l.tight

abbrev pub decreases-loop-token : goal.decreases-loop-token
decreases-loop-token l = length l.t - l.at
