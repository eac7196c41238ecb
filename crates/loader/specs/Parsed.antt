-- What a call of `parse_surface` leaves: the module read, with no name looked at.
use Rattle.std.specs.Prelude.{◌≡◌, List, [], ◌∷◌, ℕ, length, Ok, Err}
use Rattle.terms.specs.Label.{Declaration}
use Rattle.terms.specs.Rows.{surface_rows, read_records}
use Rattle.surface.specs.Reader.{start, Result, done, refused}
use Rattle.surface.specs.Tables.{Lengths, Tables, tables, lengths, holding, blank, Left, leaves}
use Rattle.surface.specs.Reports.{Report, accepted, report_refusal}
use Rattle.surface.specs.Loading.{parsing}
use Rattle.surface.specs.Answer.{Answer, loaded}

-- What a call of `parse_surface` leaves. No core table is lent.
abbrev pub Parsed : Type 0
Parsed = Left Answer Tables

-- The tables after acceptance and after every refusal are those of loading.
abbrev pub parsed : Lengths → Result (List Declaration) → Parsed
parsed z (refused r) = leaves (Err r) (blank z)
parsed z (done ds q) = leaves (loaded q.rows (length ds)) (holding z (surface_rows 0 ds) [] (read_records 0 ds))

unfoldable pub parse : List ℕ → Lengths → Parsed
parse s z = parsed z (parsing s z start)

-- The promise of `parse_surface`: a call for the source s, with such tables before it, gives this answer and leaves these tables.
abbrev pub Parses : List ℕ → Tables → Answer → Tables → Type 0
Parses s before answer after = leaves answer after ≡ parse s (lengths before)

-- The same by the words of each table.
abbrev pub parsing_leaves : Answer → List ℕ → List ℕ → List ℕ → Parsed
parsing_leaves r surface declarations work = leaves r (tables surface [] declarations work)

-- Document 01's number and values for each case of the answer: the counts of rows and declarations, or the refusal.
abbrev pub report_read : Answer → Report
report_read (Ok l) = accepted (l.rows ∷ l.declarations ∷ [])
report_read (Err r) = report_refusal r
