-- `reports::report_refused` meets its contract.
use Rattle.token.specs.Token.{Place}
use Rattle.std.specs.Prelude.{Some, None}
use mathlib.Core.Path.{sym, ap}
use Rattle.surface.specs.Reports.{offsets}
use Rattle.reports.specs.Numbers.{numbers}
use Rattle.reports.proofs.report_refused.Goals as goal

pub returns-in-Some : goal.returns-in-Some
returns-in-Some c = ap (λ (p : Place). numbers (record { number = c.args.number; values = offsets p })) (sym c.in-Some.is)

pub returns-in-None : goal.returns-in-None
returns-in-None c = ap (λ (p : Place). numbers (record { number = c.args.number; values = offsets p })) (sym c.in-None.is)
