-- `schedule` meets its contract: the arguments from i on are pushed.
use mathlib.Core.Path.{refl, ◌∙◌}
use native.Mathlib.Omega.{arith}
use Rattle.elaborate.proofs.Scheduling.{pushed_none, pushed_next}
use Rattle.elaborate.proofs.schedule.Goals as goal

pub loop-i-init : goal.loop-i-init
loop-i-init c =
    let a = c.args in
    (omega arith, refl, pushed_none a.work.now a.t a.kind a.form a.left a.children a.n c.requires.1 c.requires.0)

pub loop-i-preserved : goal.loop-i-preserved
loop-i-preserved c =
    let a = c.args in
    let k = c.schedule_one-top in (
      omega (arith, k.ensures.0),
      k.auto.work ∙ c.loop-i.invariant.1,
      pushed_next a.work.now a.t a.kind a.form a.left a.children a.n c.requires.1 c.requires.0
          c.loop-i.work k.new.work c.loop-i.i c.loop-i.top k.result _ (omega arith) (omega arith) c.covers-covered.ensures c.loop-i.invariant.2 k.ensures.1,
    )
