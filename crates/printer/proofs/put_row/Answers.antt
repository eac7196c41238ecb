-- `printer::put_row` meets its contract.
use mathlib.Core.Path.{ap}
use Rattle.printer.specs.inner.Machine.{enter, settle, spelled_row, row_at, step, step_row}
use Rattle.printer.proofs.Turning.{turns_then, turns_as}
use lib.ListN.{length}
use Rattle.terms.specs.Label.{Named}
use Rattle.printer.proofs.put_row.Goals as goal

pub returns : goal.returns
unfolding step_row step row_at
returns c =
    let a = c.args in
    let r = c.row_at-row.ensures in
    turns_as (λ m. ap (λ (x : Named). settle (enter (length a.work.now) x m)) (λ i. spelled_row a.s.now (r.kind i) (r.a i) (r.b i)))
    (turns_then c.enter_term-entered.ensures c.open_frames.ensures)
