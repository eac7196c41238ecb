-- Document 01, "The core module", and document 02, Req 01: what counts of a row and of a declaration record for *same core*.
use Rattle.std.specs.Prelude.{List, [], ◌∷◌, cond, ℕ, eqb, get_or, take, drop}
use Rattle.terms.specs.Forms.{universe}
use Rattle.terms.specs.Label.{Name, part}

-- Of a row: its kind, a universe's digits, and its six fields, where a universe's start and length count as 0.
pub record RowContent : Type 0 where
  pub kind : ℕ
  pub digits : Name
  pub fields : List ℕ

-- "equal rows (universe compared by digits)". Req 01: the eighth word is left aside, "or moved comments would count".
abbrev pub row_content : List ℕ → List ℕ → RowContent
row_content s [] = record { kind = 0; digits = []; fields = [] }
row_content s (k ∷ w) =
    cond (eqb k universe)
    (record { kind = k; digits = part s (get_or w 0 0) (get_or w 1 0); fields = 0 ∷ 0 ∷ drop 2 (take 6 w) })
    (record { kind = k; digits = []; fields = take 6 w })

-- Of a declaration record: its kind, its name's bytes, its type row and body row.
pub record RecordContent : Type 0 where
  pub kind : ℕ
  pub name : Name
  pub rows : List ℕ

-- "equal declarations (names compared by bytes)"
abbrev pub record_content : List ℕ → List ℕ → RecordContent
record_content s w = record { kind = get_or w 0 0; name = part s (get_or w 1 0) (get_or w 2 0); rows = drop 3 w }
