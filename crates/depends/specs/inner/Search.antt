-- How places are marked in a work area, and rows that name a marked place searched, in a core table and a declaration list.
use Rattle.std.specs.Prelude.{Bool, true, false, ◌&&◌, ◌||◌, cond, List, ℕ, zero, suc, ◌+◌, ◌-◌, ◌*◌, eqb, ltb, get_or, set}
use Rattle.std.proofs.Math.Option.{Option, none, some}
use Rattle.rows.specs.DeclarationRows.{row_behind, first_row}
use Rattle.dependence.specs.Answer.{Dependence}
use Rattle.dependence.specs.Asks.{shown}

-- Whether place k is marked: a mark is 1, and there is none behind the table.
abbrev pub marked : List ℕ → ℕ → Bool
marked work k = eqb (get_or work k 0) 1

-- Whether row k of a core table is a global row that names a marked place.
unfoldable pub names_marked : List ℕ → List ℕ → ℕ → Bool
names_marked core work k = eqb (get_or core (k * 8) 0) 2 && marked work (get_or core (k * 8 + 1) 0)

-- The first of n rows from row k on that is one, or the row behind them.
unfoldable pub first_marked : List ℕ → List ℕ → ℕ → ℕ → ℕ
first_marked core work zero k = k
first_marked core work (suc n) k = elim (names_marked core work k) [ true ↦ k | false ↦ first_marked core work n (k + 1) ]

-- The row behind those of declaration k that count further on.
unfoldable pub counted_behind : List ℕ → ℕ → ℕ
counted_behind declarations k =
    cond (eqb (get_or declarations (k * 5) 0) 2) (row_behind declarations k) (get_or declarations (k * 5 + 3) 0 + 1)

-- Whether place k shows j, by the marks of the places below it.
unfoldable pub shows_place : List ℕ → List ℕ → List ℕ → ℕ → ℕ → Bool
shows_place core declarations work k j =
    eqb k j
    || ltb (first_marked core work (counted_behind declarations k - first_row declarations k) (first_row declarations k)) (counted_behind declarations k)

-- The work area after place k, and after n places from k on.
unfoldable pub place_looked_at : List ℕ → List ℕ → ℕ → ℕ → List ℕ → List ℕ
place_looked_at core declarations j k work = cond (shows_place core declarations work k j) (set work k 1) work

unfoldable pub places_looked_at : List ℕ → List ℕ → ℕ → ℕ → ℕ → List ℕ → List ℕ
places_looked_at core declarations j zero k work = work
places_looked_at core declarations j (suc n) k work = places_looked_at core declarations j n (k + 1) (place_looked_at core declarations j k work)

-- After the places from j up to place `to`.
abbrev pub marks_left : List ℕ → List ℕ → ℕ → ℕ → List ℕ → List ℕ
marks_left core declarations j to work = places_looked_at core declarations j (to - j) j work

-- A row below `to`, or none.
abbrev pub row_or_none : ℕ → ℕ → Option ℕ
row_or_none to r = elim (ltb r to) as (λ _. Option ℕ) [ true ↦ some r | false ↦ none ]

-- The first row among those of declaration i, as an answer.
unfoldable pub shown_row : List ℕ → List ℕ → List ℕ → ℕ → Dependence
shown_row core declarations work i =
    shown (row_or_none (row_behind declarations i)
    (first_marked core work (row_behind declarations i - first_row declarations i) (first_row declarations i)))
