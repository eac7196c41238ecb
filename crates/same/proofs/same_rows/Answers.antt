-- `same::same_rows` meets its contract: the rows before i are the same.
use borrow.Author.Count.{below_more}
use borrow.Author.Tests.{not-true, not-false}
use Rattle.same.proofs.Contents.{holds, fails}
use native.Mathlib.Omega.{arith}
use Rattle.same.specs.inner.Contents.{SameRow}
use Rattle.same.proofs.same_rows.Goals as goal

pub returns-then-not-same_row : goal.returns-then-not-same_row
returns-then-not-same_row c =
    let a = c.args in
    λ h. fails (SameRow a.s.now a.core1.now a.t.now a.core2.now c.loop-i.i) c.same_row.result c.same_row.ensures (not-true _ c.if-not-same_row.true-raw) (h c.loop-i.i (omega arith) (omega arith))

pub loop-i-preserved : goal.loop-i-preserved
loop-i-preserved c =
    let a = c.args in
    let h = holds (SameRow a.s.now a.core1.now a.t.now a.core2.now c.loop-i.i) c.same_row.result c.same_row.ensures (not-false _ c.if-not-same_row.false-raw) in
    below_more _ c.loop-i.i c.loop-i.invariant (λ _. h)

pub returns : goal.returns
returns c = λ n h k. c.loop-i.invariant n (omega arith) k
