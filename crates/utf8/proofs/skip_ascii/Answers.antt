-- `utf8::skip_ascii` meets its contract: each byte that it passes is ASCII.
use native.Mathlib.Omega.{arith}
use Rattle.utf8.proofs.Runs.{same_none, same_byte, ends_byte, ends_all}
use Rattle.utf8.proofs.skip_ascii.Goals as goal

pub returns-then-s-at-ge128 : goal.returns-then-s-at-ge128
returns-then-s-at-ge128 c = ends_byte _ _ _ (same_none _ _ c.requires) (omega arith) c.if-s-at-ge128.true

pub loop-i-init : goal.loop-i-init
loop-i-init c = c.skip_blocks-i.ensures

pub returns-then-s-i-ge128 : goal.returns-then-s-i-ge128
returns-then-s-i-ge128 c = ends_byte _ _ _ c.loop-i.invariant (omega arith) c.if-s-i-ge128.true

pub loop-i-preserved : goal.loop-i-preserved
loop-i-preserved c = same_byte _ _ _ c.loop-i.invariant (omega arith) c.if-s-i-ge128.false

pub returns : goal.returns
returns c = rw (ends_all _ _ _ c.loop-i.invariant (omega arith))
