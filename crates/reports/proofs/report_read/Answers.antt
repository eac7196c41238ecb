-- `reports::report_read` meets its contract.
use mathlib.Core.Path.{sym, ap, ◌∙◌}
use Rattle.loader.specs.Parsed.{report_read}
use Rattle.reports.specs.Numbers.{numbers}
use Rattle.reports.proofs.report_read.Goals as goal

pub returns-in-Ok : goal.returns-in-Ok
returns-in-Ok c = c.report_two.ensures ∙ ap (λ x. numbers (report_read x)) (sym c.in-Ok.is)

pub returns-in-Err : goal.returns-in-Err
returns-in-Err c = c.report_refusal.ensures ∙ ap (λ x. numbers (report_read x)) (sym c.in-Err.is)
