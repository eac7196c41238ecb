-- What the reader of modules promises: its answers and the words that it leaves, by the reading order of `surface`.
use Rattle.reader.specs.Answers.{DeclarationRead, ModuleMeasured, ModuleRead, declaration_read, measured}
use Rattle.surface.specs.Answer.{loaded}
use Rattle.std.specs.Prelude.{◌≡◌, List, ℕ, ◌*◌, ◌/◌, ◌≤◌, length, Err}
use Rattle.terms.specs.Label.{Declaration, trees}
use Rattle.terms.specs.Rows.{surface_rows, joined, read_record, read_records}
use Rattle.surface.specs.Reader.{Result, done, refused}
use Rattle.surface.specs.Sizes.{frames_of, deepest}
use Rattle.tables.specs.Tables.{with_words}
use Rattle.expects.specs.declared.Format.{Format}
use Rattle.reader.specs.ModuleWords.{row_words}
use Rattle.reader.specs.declared.Limits.{Limits}

-- A table with a place of some width for each of so many.
abbrev pub Holds : ℕ → ℕ → List ℕ → Type 0
Holds width limit t = limit ≤ length t / width

-- Where reading may go on: at an offset, behind n rows, of which there is room for so many.
pub record ModuleInside (limit : ℕ) (s work : List ℕ) (at n : ℕ) : Type 0 where
  pub source : length s ≤ 4294967295
  pub area : 5632 ≤ length work
  pub within : at ≤ length s
  pub few : n ≤ at
  pub stored : n ≤ limit

-- The answer for a declaration behind n rows and k declarations: its rows stand behind the rows, its record behind the records, in tables
-- that hold as much as there is room for.
abbrev pub Declares : Format → Limits → Result Declaration → ℕ → ℕ → List ℕ → List ℕ → DeclarationRead → List ℕ → List ℕ → Type 0
Declares f limits (done d q) n k table list r table₁ list₁ =
    (r ≡ declaration_read q.rows q.offset (frames_of (trees d))) × (Holds 8 limits.rows table → table₁ ≡ with_words table (n * 8) (row_words f n d))
    × (Holds 5 limits.declarations list → list₁ ≡ with_words list (k * 5) (read_record n d))
Declares f limits (refused x) n k table list r table₁ list₁ = r ≡ Err x

-- The answer for a whole module, in tables that hold as much as there is room for: the words of its rows and records stand at the beginning
-- of the tables, and what lay behind them is untouched. Of the tables after a refusal nothing is said: the caller clears them.
abbrev pub Measures : Limits → Result (List Declaration) → List ℕ → List ℕ → ModuleMeasured → List ℕ → List ℕ → Type 0
Measures limits (done ds q) table list r table₁ list₁ =
    (r ≡ measured q.rows (length ds) (deepest ds)) × (Holds 8 limits.rows table → table₁ ≡ with_words table 0 (joined (surface_rows 0 ds)))
    × (Holds 5 limits.declarations list → list₁ ≡ with_words list 0 (joined (read_records 0 ds)))
Measures limits (refused x) table list r table₁ list₁ = r ≡ Err x

-- The same where the tables say how much there is room for, and the frames are not told.
abbrev pub ReadsModule : Result (List Declaration) → List ℕ → List ℕ → ModuleRead → List ℕ → List ℕ → Type 0
ReadsModule (done ds q) table list r table₁ list₁ =
    (r ≡ loaded q.rows (length ds)) × (table₁ ≡ with_words table 0 (joined (surface_rows 0 ds))) × (list₁ ≡ with_words list 0 (joined (read_records 0 ds)))
ReadsModule (refused x) table list r table₁ list₁ = r ≡ Err x
