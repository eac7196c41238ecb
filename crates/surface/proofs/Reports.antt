-- The numbers and values of answers: by the promise of a call they are what the definitions give.
use Rattle.token.proofs.Numbers.{number_inj}
use Rattle.token.specs.Token.{Place}
use Rattle.std.specs.Prelude.{Ok, Err, Some, None}
use mathlib.Core.Path.{◌≡◌, refl, sym, ap, ◌∙◌}
use mathlib.Core.List.{List, [], ◌∷◌}
use Prim.Native.Nat.{ℕ}
use native.Mathlib.Omega.{arith}
use lib.ListN.{length}
use Rattle.terms.specs.Label.{Declaration}
use Rattle.surface.specs.Answer.{loaded}
use Rattle.surface.specs.Reader.{start, Result, done, refused}
use Rattle.surface.specs.Tables.{Lengths, lengths}
use Rattle.surface.specs.Reports.{Report, offsets, report}
use Rattle.surface.specs.Loading.{Outcome, outcome, loading, load}
use Rattle.surface.specs.Statements.{loading_reports, LoadReports, ReportTells}

outcome_reports : (s : List ℕ) (z : Lengths) (o : Result (List Declaration)) → report (outcome s z o).answer ≡ loading_reports o
outcome_reports s z (refused r) = refl
outcome_reports s z (done ds p) = refl

pub load_reports : LoadReports
unfolding load
load_reports s before a after e = ap (λ (o : Outcome). report o.answer) e ∙ outcome_reports s (lengths before) (loading s (lengths before) start)

same_place : (p q : Place) → offsets p ≡ offsets q → p ≡ q
same_place (Some x) (Some y) e = ap Some (let k : x ≡ y = cc in k)
same_place (Some x) None e = absurd (let k : ◌≡◌ {A = ℕ} 1 0 = ap length e in omega arith)
same_place None (Some y) e = absurd (let k : ◌≡◌ {A = ℕ} 0 1 = ap length e in omega arith)
same_place None None e = refl

few : (p : Place) (x y : ℕ) → offsets p ≡ x ∷ y ∷ [] → ⊥
few (Some z) x y e = let k : ◌≡◌ {A = ℕ} 1 2 = ap length e in omega arith
few None x y e = let k : ◌≡◌ {A = ℕ} 0 2 = ap length e in omega arith

pub report_tells : ReportTells
report_tells (Ok l) (Ok m) e =
    let v : l.rows ∷ l.declarations ∷ [] ≡ m.rows ∷ m.declarations ∷ [] = ap (λ (r : Report). r.values) e in
    let i : l.rows ≡ m.rows = cc in
    let j : l.declarations ≡ m.declarations = cc in
    λ k. loaded (i k) (j k)
report_tells (Ok l) (Err r) e = absurd (few r.place l.rows l.declarations (sym (ap (λ (r : Report). r.values) e)))
report_tells (Err r) (Ok l) e = absurd (few r.place l.rows l.declarations (ap (λ (r : Report). r.values) e))
report_tells (Err r) (Err q) e =
    let i : r.class ≡ q.class = number_inj r.class q.class (ap (λ (r : Report). r.number) e) in
    let j = same_place r.place q.place (ap (λ (r : Report). r.values) e) in
    λ k. Err (record { class = i k; place = j k })
