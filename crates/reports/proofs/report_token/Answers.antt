-- `reports::report_token` meets its contract.
use mathlib.Core.Path.{sym, ap, ◌∙◌}
use mathlib.Core.List.{[], ◌∷◌}
use Prim.Native.Nat.{ℕ}
use Rattle.surface.specs.Reports.{report_token}
use Rattle.reports.specs.Numbers.{numbers}
use Rattle.reports.proofs.report_token.Goals as goal

pub returns-in-Ok : goal.returns-in-Ok
returns-in-Ok c =
    let t = c.in-Ok.t in
    ap (λ (k : ℕ). numbers (record { number = 0; values = k ∷ t.start ∷ t.end ∷ [] })) c.token_number.ensures ∙ ap (λ x. numbers (report_token x)) (sym c.in-Ok.is)

pub returns-in-Err : goal.returns-in-Err
returns-in-Err c = c.report_refusal.ensures ∙ ap (λ x. numbers (report_token x)) (sym c.in-Err.is)
