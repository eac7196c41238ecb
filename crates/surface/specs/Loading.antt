-- Document 01, "When nothing is loaded": the answer and the four tables, from a source and the tables' lengths.
use Rattle.token.specs.declared.Class.{Class}
use Rattle.std.specs.Prelude.{◌≡◌, List, [], not, ℕ, ◌/◌, leb, eqb, length, Err}
use Rattle.std.proofs.Math.Option.{Option, none, some}
use Rattle.utf8.specs.Utf8.{valid_length, byte_order_mark}
use Rattle.terms.specs.Label.{Declaration}
use Rattle.terms.specs.Resolution.{RefusedName, first_refused, resolve_module}
use Rattle.terms.specs.Rows.{surface_rows, core_rows, declaration_records}
use Rattle.surface.specs.Answer.{Answer, loaded}
use Rattle.surface.specs.Reader.{start, Result, done, refused, Reader, ◌>>=◌, ◌>>◌, pure, refuse, position, require, nowhere, at_offset}
use Rattle.surface.specs.Reading.{read_module}
pub use Rattle.surface.specs.Reports.{Report, offsets, report_refusal, report}
pub use Rattle.surface.specs.Tables.{Each, Lengths, Tables, tables, lengths, holding, blank, Left, leaves}

-- "7 more than 512 frames open in one term"
abbrev pub frame_limit : ℕ
frame_limit = 512

-- "Order: 11; 6; not UTF-8 (1 at the length of the longest valid beginning); leading EF BB BF (1 at 0); then 1, 2, 3, 7, 8, 9 by reading
-- order": what `parse_surface` does.
-- "8 surface row table (words divided by 8, rounded down)", "9 declaration list (words divided by 5, rounded down)",
-- "11 work area under 16,384 words", "6 source over 65,535 bytes".
unfoldable pub parsing : List ℕ → Lengths → Reader (List Declaration)
parsing s z = do
  require (leb 16384 z.work) (nowhere Class.WorkShort)
  require (leb (length s) 65535) (nowhere Class.LongSource)
  require (eqb (valid_length s) (length s)) (at_offset Class.Malformed (valid_length s))
  require (not (byte_order_mark s)) (at_offset Class.Malformed 0)
  read_module s (z.surface / 8) (z.declarations / 5) frame_limit

-- ".. 10": all that comes before names are looked at. "10 core table has fewer rows than were read"
unfoldable pub reading : List ℕ → Lengths → Reader (List Declaration)
reading s z = do
  ds ← parsing s z
  p ← position
  require (leb p.rows (z.core / 8)) (nowhere Class.CoreShort)
  pure ds

-- "4 declaration name used before, nowhere", "5 unknown name, nowhere": the name itself is dropped.
abbrev pub accept : Option RefusedName → Reader (Unit {0})
accept none = pure tt
accept (some r) = refuse (nowhere r.class)

-- ".. 10; then declarations in order"
unfoldable pub loading : List ℕ → Lengths → Reader (List Declaration)
loading s z = do
  ds ← reading s z
  accept (first_refused s [] ds)
  pure ds

-- What a call of `load` leaves.
abbrev pub Outcome : Type 0
Outcome = Left Answer Tables

abbrev pub outcome : List ℕ → Lengths → Result (List Declaration) → Outcome
outcome s z (refused r) = leaves (Err r) (blank z)
outcome s z (done ds p) =
    let m = resolve_module s [] ds in
    leaves (loaded p.rows (length ds)) (holding z (surface_rows 0 ds) (core_rows 0 m) (declaration_records 0 m))

unfoldable pub load : List ℕ → Lengths → Outcome
load s z = outcome s z (loading s z start)

-- The promise of `load`: a call for the source s, with such tables before it, gives this answer and leaves these tables.
abbrev pub Loads : List ℕ → Tables → Answer → Tables → Type 0
Loads s before answer after = leaves answer after ≡ load s (lengths before)
