-- `schedule_form` meets its contract.
use mathlib.Core.Path.{ap, ◌∙◌}
use native.Mathlib.Omega.{arith}
use lib.ListN.{length}
use Rattle.rows.proofs.Arities.{arity_at_most_six}
use Rattle.elaborate.proofs.Finishing.{length_six}
use Rattle.elaborate.proofs.schedule_form.Goals as goal

pub schedule-works-requires : goal.schedule-works-requires
schedule-works-requires c =
    let a = c.args in
    let n = c.arity-n in
    let x = c.row_children-children in
    (omega (arith, n.ensures, arity_at_most_six a.kind), ap length x.ensures ∙ length_six a.surface.now a.id _, omega arith, omega (arith, c.requires.2, c.push_work.auto.work))
