-- Document 01, "The core module": *same core*, of the core tables and declaration lists that two calls leave.
use Rattle.std.specs.Prelude.{◌≡◌, List, map, ℕ, Ok, Err}
use Rattle.terms.specs.Rows.{first_rows}
use Rattle.terms.specs.Content.{row_content, record_content}
use Rattle.surface.specs.Answer.{Answer, loaded}
use Rattle.surface.specs.Loading.{Outcome}

-- The counts that an answer gives.
abbrev pub row_count : Answer → ℕ
row_count (Ok l) = l.rows
row_count (Err r) = 0

abbrev pub declaration_count : Answer → ℕ
declaration_count (Ok l) = l.declarations
declaration_count (Err r) = 0

-- "equal counts of rows and of declarations, and up to these counts equal rows (universe compared by digits) and equal declarations
-- (names compared by bytes)": of a call for the source s and one for the source t.
pub record SameCore (s : List ℕ) (a : Outcome) (t : List ℕ) (b : Outcome) : Type 0 where
  pub row_counts : row_count a.answer ≡ row_count b.answer
  pub declaration_counts : declaration_count a.answer ≡ declaration_count b.answer
  pub same_rows : map (row_content s) (first_rows 8 (row_count a.answer) a.tables.core) ≡ map (row_content t) (first_rows 8 (row_count b.answer) b.tables.core)
  pub same_declarations :
      map (record_content s) (first_rows 5 (declaration_count a.answer) a.tables.declarations)
      ≡ map (record_content t) (first_rows 5 (declaration_count b.answer) b.tables.declarations)

-- The call accepts its source.
abbrev pub Accepts : Outcome → Type 0
Accepts o = (rows declarations : ℕ) × (o.answer ≡ loaded rows declarations)
