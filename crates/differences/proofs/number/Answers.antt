-- `number` meets its contract: no number on the way is greater than the last one, which fits.
use Rattle.std.proofs.Common.{arith}
use Rattle.differences.proofs.Digits.{below, number_more, number_fits, number_none}
use Rattle.differences.proofs.number.Goals as goal

pub overflow_mul-number : goal.overflow_mul-number
overflow_mul-number c =
    let whole = below c.args.first 8 c.args.w.now (λ i. (c.type_inv.w i).fits) c.requires.0 c.requires.1 in
    omega (arith, number_fits _ _ _ _ _ c.in-Some.ensures.steps c.loop-byte.invariant.same whole)

pub overflow_add-number : goal.overflow_add-number
overflow_add-number c =
    let whole = below c.args.first 8 c.args.w.now (λ i. (c.type_inv.w i).fits) c.requires.0 c.requires.1 in
    omega (arith, number_fits _ _ _ _ _ c.in-Some.ensures.steps c.loop-byte.invariant.same whole)

pub loop-byte-preserved : goal.loop-byte-preserved
loop-byte-preserved c = record {
  next = tt;
  finite = tt;
  same = rw c.from.ensures (number_more _ _ _ _ _ c.in-Some.ensures.steps c.loop-byte.invariant.same);
}

pub returns : goal.returns
returns c = number_none _ _ _ c.in-None.ensures.steps.0 c.loop-byte.invariant.same
