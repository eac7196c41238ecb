-- What the reader of core texts promises: its answer and the words that it leaves, by the reading order.
use Rattle.std.specs.Prelude.{◌≡◌, List, ℕ, ◌/◌, ◌≤◌, length, Err}
use Rattle.terms.specs.Forms.{holds_span_in}
use Rattle.terms.specs.TextForms.{text_forms}
use Rattle.terms.specs.Label.{Declaration}
use Rattle.terms.specs.Rows.{row_holding, rows_by, joined, read_records}
use Rattle.surface.specs.Reader.{start, Result, done, refused}
use Rattle.tables.specs.Tables.{with_words}
use Rattle.core_text.specs.TextReading.{read_text}
use Rattle.surface.specs.Answer.{loaded}
use Rattle.reader.specs.Answers.{ModuleRead}

-- The words of its rows and records stand at the beginning of the tables, and what lay behind them is untouched. Of the tables after a
-- refusal nothing is said: the caller clears them.
abbrev pub ReadsText : Result (List Declaration) → List ℕ → List ℕ → ModuleRead → List ℕ → List ℕ → Type 0
ReadsText (done ds q) table list r table₁ list₁ =
    (r ≡ loaded q.rows (length ds))
    × (table₁ ≡ with_words table 0 (joined (rows_by (row_holding (holds_span_in text_forms)) 0 ds)))
    × (list₁ ≡ with_words list 0 (joined (read_records 0 ds)))
    × (length ds ≤ 4294967295)
ReadsText (refused x) table list r table₁ list₁ = r ≡ Err x

-- r is the answer for the text s, where the tables say how much there is room for.
abbrev pub ReadsWhole : List ℕ → List ℕ → List ℕ → List ℕ → ModuleRead → List ℕ → List ℕ → Type 0
ReadsWhole s table list work r table₁ list₁ =
    length s ≤ 4294967295 → 16384 ≤ length work
    → ReadsText (read_text s (length table / 8) (length list / 5) 512 start) table list r table₁ list₁

-- The same of what stands behind the head, from an offset on, given what reading comes to.
abbrev pub ReadsBehind : Result (List Declaration) → List ℕ → List ℕ → List ℕ → List ℕ → ℕ → ModuleRead → List ℕ → List ℕ → Type 0
ReadsBehind answer s table list work at r table₁ list₁ =
    length s ≤ 4294967295 → 16384 ≤ length work → at ≤ length s → ReadsText answer table list r table₁ list₁
