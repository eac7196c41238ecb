-- `token::run_end` meets its contract: the run reaches up to pos.
use native.Mathlib.Omega.{arith}
use Rattle.token.proofs.ClassRuns.{one_more}
use Rattle.token.proofs.run_end.Goals as goal

pub loop-pos-preserved : goal.loop-pos-preserved
loop-pos-preserved c =
    let a = c.args in
    let v = c.loop-pos.invariant in
    (omega (arith, v.0), one_more a.s.now a.at a.low c.loop-pos.pos v.1 (omega (arith, c.of.ensures, c.if-of-low.false)))
