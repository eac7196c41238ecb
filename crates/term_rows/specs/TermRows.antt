-- What the readers of terms promise: the answer for a term, and the table with its rows.
use Rattle.std.specs.Prelude as std
use Rattle.std.specs.Prelude.{Ok, Err, ◌≡◌, List, [], ◌∷◌, Bool, cond, ◌&&◌, ℕ, suc, ◌≤◌, ltb, leb, length}
use Rattle.terms.specs.Forms.{Edition, holds_span_in}
use Rattle.terms.specs.Label.{Label}
use Rattle.terms.specs.Tree.{nil, Tree, tree, Cell, next, cells}
use Rattle.terms.specs.Rows.{row_holding}
use Rattle.surface.specs.Reader.{Result}
use Rattle.surface.specs.Reading.{beginning, closing, term}
use Rattle.surface.specs.Sizes.{frames_of}
use Rattle.rows.specs.Places.{stored_at}
use Rattle.expects.specs.Expects.{position_at}
use Rattle.token.specs.declared.Refusal.{Refusal}
use Rattle.term_rows.specs.declared.ReadTerm.{ReadTerm}

-- The answer for a term: its row, how many rows are stored, where reading goes on, and how many frames were open at most; or the refusal.
abbrev pub TermRead : Type 0
TermRead = std.Result ReadTerm Refusal

abbrev pub read_term : ℕ → ℕ → ℕ → ℕ → ReadTerm
read_term row rows next frames = record { row = row; rows = rows; next = next; frames = frames }

-- Rows stored one behind the other, the first at place n. Storing is total: what the table has no place for is only counted.
unfoldable pub stored_rows : (ℕ → Bool) → ℕ → List ℕ → List (Cell Label) → List ℕ
stored_rows holds n t [] = t
stored_rows holds n t (c ∷ l) = stored_rows holds (suc n) (stored_at 8 t n (row_holding holds c)) l

-- The table behind a completed term that is to be the next row, where there is room for so many.
unfoldable pub pushed_row : ℕ → List ℕ → ℕ → List ℕ → List ℕ
pushed_row limit table n row = cond (ltb n limit) (stored_at 8 table n row) table

-- The answer for a tree behind n rows, and the table.
abbrev pub Reads : (ℕ → Bool) → ℕ → List ℕ → Result (Tree Label) → TermRead → List ℕ → Type 0
Reads holds n table (Result.done t q) r table₁ =
    (r ≡ Ok (read_term (next n t.args) q.rows q.offset (frames_of (tree t nil)))) × (table₁ ≡ stored_rows holds n table (cells n (tree t nil)))
Reads holds n table (Result.refused x) r table₁ = r ≡ Err x

-- Where a term may be read: the words of a row hold offsets and counts, and there is at most a row for each byte in front.
pub record TermBounds (s : List ℕ) (at n : ℕ) : Type 0 where
  pub source : length s ≤ 4294967295
  pub inside : at ≤ length s
  pub few : n ≤ at

-- The same as a test, by the length of the source.
abbrev pub within : ℕ → ℕ → ℕ → Bool
within source at n = leb source 4294967295 && (leb at source && leb n at)

-- r is the answer for a whole type or body from an offset on, behind n rows.
abbrev pub ReadsTerm : Edition → ℕ → List ℕ → List ℕ → ℕ → ℕ → TermRead → List ℕ → Type 0
ReadsTerm E limit s table at n r table₁ =
    TermBounds s at n → Reads (holds_span_in E.forms) n table (term (beginning E s) (closing (E.tokens s)) limit 512 (position_at at n)) r table₁
