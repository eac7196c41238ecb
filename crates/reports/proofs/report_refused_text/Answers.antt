-- `reports::report_refused_text` meets its contract.
use Rattle.token.specs.Token.{Place}
use Rattle.std.specs.Prelude.{Some, None}
use mathlib.Core.Path.{sym, ap}
use mathlib.Core.List.{[], ◌∷◌, ◌++◌}
use Rattle.surface.specs.Reports.{offsets}
use Rattle.reports.specs.Numbers.{numbers}
use Rattle.reports.proofs.report_refused_text.Goals as goal

pub returns-in-Some : goal.returns-in-Some
returns-in-Some c = ap (λ (p : Place). numbers (record { number = c.args.number; values = offsets p ++ (c.args.length ∷ []) })) (sym c.in-Some.is)

pub returns-in-None : goal.returns-in-None
returns-in-None c = ap (λ (p : Place). numbers (record { number = c.args.number; values = offsets p ++ (c.args.length ∷ []) })) (sym c.in-None.is)
