-- The headline statements, each as a type, with the definitions that only they use; surface/proofs/Statements.antt has a proof of each.
-- The starred readings stand in Card.
use Rattle.std.specs.Prelude.{◌≡◌, ◌↔◌, List, [], ◌∷◌, map, false, ℕ, ◌/◌, ◌≤◌, length, Err}
use Rattle.std.proofs.Math.Option.{none}
use Rattle.token.specs.declared.Refusal.{Refusal}
use Rattle.utf8.specs.Utf8.{byte_order_mark, WellFormed}
use Rattle.terms.specs.Label.{Declaration}
use Rattle.terms.specs.Resolution.{first_refused}
use Rattle.terms.specs.Rows.{first_rows}
use Rattle.terms.specs.Offsets.{eighth_word, offsets_of, ModuleBegins}
use Rattle.surface.specs.Answer.{Answer}
use Rattle.surface.specs.Grammar.{Derives}
use Rattle.surface.specs.Reader.{Position, start, Result, done, refused}
use Rattle.surface.specs.Reading.{read_module}
use Rattle.surface.specs.Tables.{Each, Lengths, Tables, lengths, blank, in_words, leaves}
use Rattle.surface.specs.Reports.{Report, accepted, report_refusal, report}
use Rattle.surface.specs.Loading.{reading, loading, Outcome, Loads}
use Rattle.surface.specs.SameCore.{row_count, SameCore, Accepts}
use Rattle.surface.specs.Agreement.{Agreement}
pub use Rattle.surface.specs.Sizes.{opens, frames_of, deepest, row_total}

-- What a source must be, whatever is lent: "6 source over 65,535 bytes", UTF-8 without the mark, a module, "7 more than 512 frames".
pub record Readable (s : List ℕ) (ds : List Declaration) : Type 0 where
  pub short : length s ≤ 65535
  pub well_formed : WellFormed s
  pub unmarked : byte_order_mark s ≡ false
  pub derives : Derives s ds
  pub shallow : deepest ds ≤ 512

-- Enough storage for some declarations: no 8, 9, 10 or 11.
pub record Enough (z : Lengths) (ds : List Declaration) : Type 0 where
  pub surface : row_total ds ≤ z.surface / 8
  pub core : row_total ds ≤ z.core / 8
  pub declarations : length ds ≤ z.declarations / 5
  pub work : 16384 ≤ z.work

-- What is read is a module by the grammar.
abbrev pub Sound : Type 0
Sound = (s : List ℕ) (limit room frames : ℕ) (ds : List Declaration) (q : Position) → read_module s limit room frames start ≡ done ds q → Derives s ds

-- A module by the grammar is read, where there is room for its rows and declarations, and so many frames may be open.
abbrev pub Complete : Type 0
Complete =
    (s : List ℕ) (limit room frames : ℕ) (ds : List Declaration) → Derives s ds → row_total ds ≤ limit → length ds ≤ room → deepest ds ≤ frames
    → (q : Position) × (read_module s limit room frames start ≡ done ds q)

-- A source is one module at most.
abbrev pub Unique : Type 0
Unique = (s : List ℕ) (ds es : List Declaration) → Derives s ds → Derives s es → ds ≡ es

-- A source is read without refusal exactly if it is readable and the storage is enough; what is read is the module that the grammar derives.
abbrev pub ReadsExactly : Type 0
ReadsExactly =
    (s : List ℕ) (z : Lengths) (ds : List Declaration) → ((q : Position) × (reading s z start ≡ done ds q)) ↔ (Readable s ds × Enough z ds)

-- It is loaded exactly if besides no name is refused.
abbrev pub LoadsExactly : Type 0
LoadsExactly =
    (s : List ℕ) (z : Lengths) (ds : List Declaration)
    → ((q : Position) × (loading s z start ≡ done ds q)) ↔ (Readable s ds × Enough z ds × (first_refused s [] ds ≡ none))

-- DEMAND 1, about a call of `load`, with tables of any lengths and former contents: it accepts exactly the sources that are readable, for which
-- the storage is enough, and no name of which is refused; where it refuses, every lent table is 0 afterwards.
abbrev pub Acceptable : List ℕ → Lengths → Type 0
Acceptable s z = (ds : List Declaration) × Readable s ds × Enough z ds × (first_refused s [] ds ≡ none)

abbrev pub Demand1 : Type 0
Demand1 =
    (s : List ℕ) (before : Tables) (a : Answer) (after : Tables) → Loads s before a after
    → (Accepts (leaves a after) ↔ Acceptable s (lengths before)) × ((r : Refusal) → a ≡ Err r → after ≡ blank (lengths before))

-- DEMAND 3, about what two calls leave. `Loads` is the promise of `load`, so of any two calls that accept their sources, with tables of any
-- lengths and former contents: what they leave is the same core exactly if the two sources agree.
abbrev pub Demand3 : Type 0
Demand3 =
    (s t : List ℕ) (before₁ before₂ : Tables) (a b : Answer) (after₁ after₂ : Tables)
    → Loads s before₁ a after₁ → Loads t before₂ b after₂ → Accepts (leaves a after₁) → Accepts (leaves b after₂)
    → SameCore s (leaves a after₁) t (leaves b after₂) ↔ Agreement s t

-- The same of calls whose declaration lists are lent in another form D, as a slice of records, by the words that it stands for.
abbrev pub Demand3In : (D : Type 0) → (D → List ℕ) → Type 0
Demand3In D words =
    (s t : List ℕ) (before₁ before₂ : Each (List ℕ) D) (a b : Answer) (after₁ after₂ : Each (List ℕ) D)
    → Loads s (in_words words before₁) a (in_words words after₁) → Loads t (in_words words before₂) b (in_words words after₂)
    → Accepts (leaves a (in_words words after₁)) → Accepts (leaves b (in_words words after₂))
    → SameCore s (leaves a (in_words words after₁)) t (leaves b (in_words words after₂)) ↔ Agreement s t

-- DOCUMENT 02, REQ 01, about what a call of `load` leaves that accepts its source: the eighth words of the rows in use, of both tables, are
-- the offsets that the grammar gives the terms, and there each term begins.
pub record RowsBegin (s : List ℕ) (o : Outcome) : Type 0 where
  pub declarations : List Declaration
  pub derives : Derives s declarations
  pub surface : map eighth_word (first_rows 8 (row_count o.answer) o.tables.surface) ≡ offsets_of declarations
  pub core : map eighth_word (first_rows 8 (row_count o.answer) o.tables.core) ≡ offsets_of declarations
  pub begins : ModuleBegins s declarations

abbrev pub RowOffsets : Type 0
RowOffsets = (s : List ℕ) (before : Tables) (a : Answer) (after : Tables) → Loads s before a after → Accepts (leaves a after) → RowsBegin s (leaves a after)

-- "The promises use that definition": the number and values of what a call of `load` answers, from the result of loading by the definitions.
abbrev pub loading_reports : Result (List Declaration) → Report
loading_reports (done ds p) = accepted (p.rows ∷ length ds ∷ [])
loading_reports (refused r) = report_refusal r

abbrev pub LoadReports : Type 0
LoadReports =
    (s : List ℕ) (before : Tables) (a : Answer) (after : Tables) → Loads s before a after → report a ≡ loading_reports (loading s (lengths before) start)

-- No two answers of loading have the same number and values, so that these say all of the answer.
abbrev pub ReportTells : Type 0
ReportTells = (a b : Answer) → report a ≡ report b → a ≡ b
