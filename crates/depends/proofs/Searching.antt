-- Marking and searching in the tables, step by step.
use mathlib.Core.Path.{◌≡◌, refl, ap, ◌∙◌}
use mathlib.Core.Bool.{Bool, true, false, cond}
use mathlib.Core.List.{List}
use mathlib.Core.Option.{Option, none, some}
use Prim.Native.Nat.{ℕ, suc, ◌+◌, ◌-◌, ◌<◌, ◌≤◌}
use native.Mathlib.Omega.{arith}
use lib.Dec.{ltb}
use lib.ListN.{length, set, length-set}
use Rattle.std.specs.Prelude.{Ok}
use Rattle.std.specs.Bool.{then_some}
use Rattle.rows.specs.DeclarationRows.{row_behind, first_row}
use Rattle.dependence.specs.Answer.{Dependence}
use Rattle.dependence.specs.Asks.{shown}
use Rattle.depends.specs.inner.Search.{names_marked, first_marked, shows_place, place_looked_at, places_looked_at, row_or_none, shown_row}

-- One row more.
module _ (core work : List ℕ) (to k : ℕ) where
  one_step : (b : Bool) → names_marked core work k ≡ b → k < to → first_marked core work (to - k) k ≡ elim b [ true ↦ k | false ↦ first_marked core work (to - (k + 1)) (k + 1) ]
  unfolding first_marked
  one_step b e h =
      let n : to - k ≡ suc (to - (k + 1)) = omega arith in
      ap (λ (m : ℕ). first_marked core work m k) n ∙ ap (λ (b : Bool). elim b [ true ↦ k | false ↦ first_marked core work (to - (k + 1)) (k + 1) ]) e

  pub found : names_marked core work k ≡ true → k < to → first_marked core work (to - k) k ≡ k
  found e h = one_step true e h

  pub passed : names_marked core work k ≡ false → k < to → first_marked core work (to - k) k ≡ first_marked core work (to - (k + 1)) (k + 1)
  passed e h = one_step false e h

  pub ended : to ≤ k → first_marked core work (to - k) k ≡ k
  unfolding first_marked
  ended h = let n : to - k ≡ 0 = omega arith in ap (λ (m : ℕ). first_marked core work m k) n

-- One place more.
module _ (core declarations : List ℕ) (j to k : ℕ) (work : List ℕ) where
  pub next_place : k < to → places_looked_at core declarations j (to - k) k work ≡ places_looked_at core declarations j (to - (k + 1)) (k + 1) (place_looked_at core declarations j k work)
  unfolding places_looked_at
  next_place h =
      let n : to - k ≡ suc (to - (k + 1)) = omega arith in
      ap (λ (m : ℕ). places_looked_at core declarations j m k work) n

  pub no_place : to ≤ k → places_looked_at core declarations j (to - k) k work ≡ work
  unfolding places_looked_at
  no_place h = let n : to - k ≡ 0 = omega arith in ap (λ (m : ℕ). places_looked_at core declarations j m k work) n

-- A look at a place keeps the length.
pub looked_length : (core declarations work : List ℕ) (k j : ℕ) → length (place_looked_at core declarations j k work) ≡ length work
unfolding place_looked_at
looked_length core declarations work k j = go (shows_place core declarations work k j)
  where
    go : (b : Bool) → length (cond b (set work k 1) work) ≡ length work
    go true = length-set work k 1
    go false = refl

-- The row that is shown.
module _ (core declarations work : List ℕ) (i from to r : ℕ) (e : from ≡ first_row declarations i) (f : to ≡ row_behind declarations i) (g : r ≡ first_marked core work (to - from) from) where
  shown_is : shown (row_or_none to r) ≡ shown_row core declarations work i
  unfolding shown_row
  shown_is = ap (λ (x : ℕ). shown (row_or_none to x)) g ∙ (λ x. shown (row_or_none (f x) (first_marked core work (f x - e x) (e x))))

  abbrev shown_if : Bool → Dependence
  shown_if b = shown (elim b as (λ _. Option ℕ) [ true ↦ some r | false ↦ none ])

  pub shown_below : (b : Bool) → b ≡ ltb r to → ◌≡◌ {A = Dependence} (Ok (then_some b r)) (shown_row core declarations work i)
  shown_below b h = by b ∙ ap shown_if h ∙ shown_is
    where
      by : (b : Bool) → ◌≡◌ {A = Dependence} (Ok (then_some b r)) (shown_if b)
      by true = refl
      by false = refl
