-- `first_difference` meets its contract: the bytes before i are equal.
use Rattle.std.proofs.Common.{arith}
use Rattle.differences.proofs.Shared.{shared_none, shared_byte, differs_here, differs_nowhere}
use Rattle.differences.proofs.first_difference.Goals as goal

pub returns-then-a-b : goal.returns-then-a-b
returns-then-a-b c = differs_here _ _ c.requires 0 (shared_none _ _) (omega arith) c.if-a-b.true

pub returns-then-a-i : goal.returns-then-a-i
returns-then-a-i c = differs_here _ _ c.requires _ c.loop-i.invariant (omega arith) c.if-a-i.true

pub loop-i-preserved : goal.loop-i-preserved
loop-i-preserved c = shared_byte _ _ c.requires _ c.loop-i.invariant (omega arith) c.if-a-i.false

pub returns : goal.returns
returns c = differs_nowhere _ _ c.requires _ c.loop-i.invariant (omega arith)
