-- Document 02, Req 09, "The first mention", as a function: the row that a yes shows. That it is the lowest-numbered row which qualifies, by the
-- words of Depends, is proved (`FirstExactly` in Statements).
use Rattle.std.specs.Prelude.{Bool, true, false, ◌&&◌, ◌||◌, cond, List, [], ◌∷◌, ◌++◌, ℕ, zero, suc, eqb, get_or}
use Rattle.std.proofs.Math.Option.{Option, none, some}
use Rattle.terms.specs.Forms.{global_kind}
use Rattle.terms.specs.Resolution.{CoreDeclaration}
use Rattle.dependence.specs.Depends.{NumberedRow, type_rows, body_rows, kind_at, transparent}

-- The rows "in i's type or body", those of the type first; and of them those that count further on, "in k's type, or in k's body when k is
-- transparent".
abbrev pub own_rows : List CoreDeclaration → ℕ → List NumberedRow
own_rows m i = type_rows 0 m i ++ body_rows 0 m i

abbrev pub counted_rows : List CoreDeclaration → ℕ → List NumberedRow
counted_rows m k = type_rows 0 m k ++ cond (eqb (kind_at m k) transparent) (body_rows 0 m k) []

-- Whether a row is a global row that names a place which passes a test, and the number of the first such row.
abbrev pub row_names : (ℕ → Bool) → List ℕ → Bool
row_names p w = eqb (get_or w 0 0) global_kind && p (get_or w 1 0)

unfoldable pub first_naming : (ℕ → Bool) → List NumberedRow → Option ℕ
first_naming p [] = none
first_naming p (x ∷ l) = elim (row_names p x.words) [ true ↦ some x.number | false ↦ first_naming p l ]

abbrev pub is_found : Option ℕ → Bool
is_found none = false
is_found (some r) = true

-- "place k shows j if k is j, or if a global row .. names a place that shows j", by at most n such rows one after the other.
unfoldable pub shows_by : ℕ → List CoreDeclaration → ℕ → ℕ → Bool
shows_by zero m j k = eqb k j
shows_by (suc n) m j k = eqb k j || is_found (first_naming (shows_by n m j) (counted_rows m k))

-- A global row of an accepted source names an earlier place, so that from place k no more than k of them lead on.
abbrev pub shows : List CoreDeclaration → ℕ → ℕ → Bool
shows m j k = shows_by k m j k

-- "the lowest-numbered row that qualifies"
unfoldable pub first_mention : List CoreDeclaration → ℕ → ℕ → Option ℕ
first_mention m i j = first_naming (shows m j) (own_rows m i)
