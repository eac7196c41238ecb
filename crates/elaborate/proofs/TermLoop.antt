-- The loop of `elaborate_term`: the whole outcome is what the state and the tables come to.
use Rattle.std.specs.Prelude.{Ok}
use Prim.Native.Nat.{ℕ, ◌+◌, ◌≤◌}
use mathlib.Core.Path.{◌≡◌, refl, sym, ◌∙◌, ap, subst}
use mathlib.Core.List.{List, [], ◌∷◌}
use native.Mathlib.Omega.{arith}
use lib.ListN.{length}
use Rattle.scope.specs.Scope.{in_scope}
use Rattle.stacks.specs.Stacks.{works_in, values_in, WorkPushed}
use Rattle.stacks.specs.declared.Work.{Work}
use Rattle.elaborate.specs.RowTerm.{TermOutcome, done, unknown_at, and_then, row_term}
use Rattle.elaborate.specs.Machine.{run, Room, RowsInside, outcome, Answered}
use Rattle.elaborate.specs.declared.State.{State}

module _ (s surface declarations index : List ℕ) (rows d root : ℕ) (core₀ : List ℕ) where
  abbrev whole : TermOutcome
  whole = row_term s surface declarations rows d 512 root [] core₀

  pub record Elaborating (core work : List ℕ) (st : State) : Type 0 where
    pub same : whole ≡ outcome s surface declarations rows d (works_in work st.works) work st core
    pub room : Room (works_in work st.works) st.values st.locals
    pub fits : st.works ≤ 3754
    pub inside : RowsInside s surface declarations index work rows d

  and_done : (o : TermOutcome) → o ≡ and_then o (λ c. done c)
  unfolding and_then
  and_done (done c) = refl
  and_done (unknown_at a n) = refl

  pub started : (work₀ work : List ℕ) → RowsInside s surface declarations index work₀ rows d → length work ≡ length work₀ → WorkPushed work₀ work (0 + 1) (Work.Eval root 512 ∷ works_in work₀ 0)
      → Elaborating core₀ work (record { works = 1; values = 0; locals = 0 })
  unfolding works_in values_in in_scope run Room
  started work₀ work i e p = record {
    same = and_done whole ∙ ap (λ (l : List Work). run s surface declarations rows d l [] [] core₀) (sym p.works);
    room = subst (λ (l : List Work). Room l 0 0) (sym p.works) (omega arith, omega arith, omega arith, tt);
    fits = omega arith;
    inside = record { area = omega (arith, i.area); read = i.read; few = i.few; indexed = i.indexed };
  }

  pub ended : (core work : List ℕ) (st : State) → Elaborating core work st → st.works ≡ 0 → Answered whole (Ok tt) core
  unfolding works_in run
  ended core work st e z =
      subst (λ (o : TermOutcome). Answered o (Ok tt) core) (sym (e.same ∙ ap (λ (t : ℕ). outcome s surface declarations rows d (works_in work t) work st core) z)) (refl, refl)
