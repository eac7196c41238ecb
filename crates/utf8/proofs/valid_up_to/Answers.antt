-- `utf8::valid_up_to` meets its contract: the valid length of the whole is that of what is left.
use mathlib.Core.Path.{sym, ◌∙◌}
use native.Mathlib.Omega.{arith}
use Rattle.utf8.proofs.Runs.{run_low}
use Rattle.utf8.proofs.Sequences.{sequence_ends}
use Rattle.utf8.proofs.Passed.{passed_none, passed_whole, passed_broken, passed_all, passed_byte, passed_run, passed_pairs, stuck_pairs}
use Rattle.utf8.proofs.valid_up_to.Goals as goal

pub loop-i-init : goal.loop-i-init
loop-i-init c = passed_none _

pub loop-i-smaller-then-b-lt128 : goal.loop-i-smaller-then-b-lt128
loop-i-smaller-then-b-lt128 c =
    let low = run_low _ _ _ c.skip_ascii-i.ensures in
    omega arith

pub loop-i-preserved-then-b-lt128 : goal.loop-i-preserved-then-b-lt128
loop-i-preserved-then-b-lt128 c = passed_run _ _ _ c.skip_ascii-i.ensures (passed_byte _ _ c.loop-i.invariant (omega arith) c.if-b-lt128.true)

pub returns-then-behind-i : goal.returns-then-behind-i
returns-then-behind-i c = stuck_pairs _ _ c.loop-i.invariant _ c.skip_pairs-behind.ensures c.if-behind-i.true c.loop-i-test.true c.if-b-lt128.false c.if-b-lt224.true

pub loop-i-smaller-then-b-lt224 : goal.loop-i-smaller-then-b-lt224
loop-i-smaller-then-b-lt224 c =
    let low = c.skip_pairs-behind.ensures.low in
    omega arith

pub loop-i-preserved-then-b-lt224 : goal.loop-i-preserved-then-b-lt224
loop-i-preserved-then-b-lt224 c = passed_pairs _ _ c.loop-i.invariant _ c.skip_pairs-behind.ensures

pub long_sequence-n-requires : goal.long_sequence-n-requires
long_sequence-n-requires c = record { inside = omega arith; least = c.if-b-lt224.false; greatest = omega (arith, c.type_inv.s c.loop-i.i) }

pub returns-then-n-eq0 : goal.returns-then-n-eq0
returns-then-n-eq0 c = passed_broken _ _ c.loop-i.invariant (sym c.if-n-eq0.true ∙ c.long_sequence-n.ensures)

pub overflow_add-i-else-b-lt224 : goal.overflow_add-i-else-b-lt224
overflow_add-i-else-b-lt224 c =
    let ends = sequence_ends _ _ _ c.loop-i-test.true c.long_sequence-n.ensures in
    omega arith

pub loop-i-smaller : goal.loop-i-smaller
loop-i-smaller c =
    let ends = sequence_ends _ _ _ c.loop-i-test.true c.long_sequence-n.ensures in
    omega arith

pub loop-i-preserved : goal.loop-i-preserved
loop-i-preserved c = passed_whole _ _ c.loop-i.invariant _ c.long_sequence-n.ensures c.if-n-eq0.false

pub returns : goal.returns
returns c = passed_all _ _ c.loop-i.invariant (omega arith)
