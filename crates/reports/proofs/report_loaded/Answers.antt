-- `reports::report_loaded` meets its contract.
use mathlib.Core.Path.{sym, ap, ◌∙◌}
use Rattle.surface.specs.Reports.{report}
use Rattle.reports.specs.Numbers.{numbers}
use Rattle.reports.proofs.report_loaded.Goals as goal

pub returns-in-Ok : goal.returns-in-Ok
returns-in-Ok c = c.report_two.ensures ∙ ap (λ x. numbers (report x)) (sym c.in-Ok.is)

pub returns-in-Err : goal.returns-in-Err
returns-in-Err c = c.report_refusal.ensures ∙ ap (λ x. numbers (report x)) (sym c.in-Err.is)
