-- A proof of each statement of specs/Statements, from the file that has it.
use mathlib.Core.Path.{◌≡◌, refl, sym, ap, ◌∙◌, subst}
use mathlib.Core.Logic.{inl, inr}
use mathlib.Core.List.{List}
use mathlib.Core.Option.{some}
use Prim.Native.Nat.{ℕ}
use native.Mathlib.Omega.{arith}
use Rattle.std.specs.Prelude.{Ok, Err}
use Rattle.terms.specs.Forms.{pi, lam, sigma, arrow}
use Rattle.terms.specs.Label.{Declaration, Term}
use Rattle.terms.specs.Agreement.{Covers}
use Rattle.terms.proofs.Names.{some_inj}
use Rattle.terms.specs.Tree.{Place, at}
use Rattle.terms.specs.RowAt.{row_at}
use Rattle.terms.proofs.Higher.{inner_lower}
use Rattle.surface.specs.Reader.{start, Result, done, refused}
use Rattle.surface.specs.Tables.{lengths}
use Rattle.surface.specs.Reports.{report_refusal}
use Rattle.surface.specs.Loading.{loading}
use Rattle.binding.specs.declared.Binder.{Binder}
use Rattle.binding.specs.Answer.{Binding}
use Rattle.binding.specs.Binds.{Answers, report_binding}
use Rattle.binding.specs.Statements.{OneAnswer, EveryRow, CoreKept, BinderHigher, NeverAnArrow, BindingReports, BinderReports}
use Rattle.binding.proofs.OneAnswer as one
use Rattle.binding.proofs.EveryRow as every
use Rattle.binding.proofs.CoreKept as core

pub one_answer : OneAnswer
one_answer = one.one_answer

pub every_row : EveryRow
every_row = every.every_row

pub core_kept : CoreKept
core_kept = core.core_kept

pub binder_higher : BinderHigher
binder_higher s ds k count row b =
    let w = b.term in
    let a = b.bound.around in
    inner_lower b.q a.argument a.below w.first w.whole w.here k row
    (subst (λ (y : Place). at y w.whole ≡ some w.here) a.reached w.stands)
    (subst (λ (y : Place). row_at w.first y w.whole ≡ some k) a.reached w.row) b.its_row

covers_no_arrow : (k i : ℕ) → Covers k i → ¬ (k ≡ arrow)
covers_no_arrow k i (inl (inl a, b)) e = let z : pi ≡ arrow = sym a ∙ e in omega arith
covers_no_arrow k i (inl (inr a, b)) e = let z : sigma ≡ arrow = sym a ∙ e in omega arith
covers_no_arrow k i (inr (a, b)) e = let z : lam ≡ arrow = sym a ∙ e in omega arith

pub never_an_arrow : NeverAnArrow
never_an_arrow s ds k count row b t e =
    let a = b.bound.around in
    let w : a.binder ≡ t = some_inj (sym a.stands ∙ e) in
    subst (λ (u : Term). ¬ (u.label.kind ≡ arrow)) w (covers_no_arrow a.binder.label.kind a.argument a.covered)

reports : (s : List ℕ) (k : ℕ) (o : Result (List Declaration)) (a : Binding) → Answers s k o a → BindingReports s k o (report_binding a)
reports s k (refused r) a f = ap report_binding f
reports s k (done ds p) (Ok (Binder.Local count row)) f = inl (count, row, refl, f)
reports s k (done ds p) (Ok (Binder.Global place)) f = inr (inl (place, refl, f))
reports s k (done ds p) (Err r) f = inr (inr (ap report_refusal f.0, f.1))

pub binder_reports : BinderReports
binder_reports s k before a after f = reports s k (loading s (lengths before) start) a f.0
