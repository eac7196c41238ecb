-- `reports::report_listed` meets its contract.
use Prim.Native.Nat.{ℕ}
use mathlib.Core.Path.{sym, ap, ◌∙◌}
use mathlib.Core.List.{[], ◌∷◌, ◌++◌}
use Rattle.surface.specs.Answer.{Answer}
use Rattle.surface.specs.Reports.{offsets}
use Rattle.reports.specs.Numbers.{numbers, report_listed}
use Rattle.reports.proofs.report_listed.Goals as goal

pub returns-in-Ok : goal.returns-in-Ok
returns-in-Ok c =
    let l = c.args.listed in
    ap (λ (x : Answer). numbers (report_listed (record { answer = x; length = l.length }))) (sym c.in-Ok.is)

pub returns-in-Err : goal.returns-in-Err
returns-in-Err c =
    let l = c.args.listed in
    c.report_refused_text.ensures
    ∙ ap (λ (k : ℕ). numbers (record { number = k; values = offsets c.in-Err.refusal.place ++ (l.length ∷ []) })) c.number.ensures
    ∙ ap (λ (x : Answer). numbers (report_listed (record { answer = x; length = l.length }))) (sym c.in-Err.is)
