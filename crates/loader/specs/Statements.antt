-- Headline statements about calls of `parse_surface`, and about the two readers; loader/proofs/Statements.antt has their proofs,
-- surface/specs/Statements.antt those about `load`.
use Rattle.std.specs.Prelude.{◌≡◌, List, ℕ}
use Rattle.surface.specs.Reader.{start}
use Rattle.surface.specs.Answer.{Answer}
use Rattle.surface.specs.Tables.{Tables, lengths, leaves}
use Rattle.surface.specs.Loading.{parsing, Loads}
use Rattle.surface.specs.Statements.{loading_reports}
use Rattle.loader.specs.Parsed.{report_read, Parses}

-- "The promises use that definition": the number and values of its answer, from the result of reading by the definitions.
abbrev pub ParseReports : Type 0
ParseReports =
    (s : List ℕ) (before : Tables) (a : Answer) (after : Tables) → Parses s before a after
    → report_read a ≡ loading_reports (parsing s (lengths before) start)

-- DOCUMENT 02, REQ 11: "the same rows, counts, refusals and final tables as the frame reader on every source and every table size". Calls of
-- `load_by` promise `Loads`, and calls of `parse_surface_by` `Parses`, whichever reader they are given; so two of them with tables of the same
-- lengths, whatever these held, give one answer and leave the same words.
abbrev pub EitherReader : Type 0
EitherReader =
    (s : List ℕ) (before₁ before₂ after₁ after₂ : Tables) → lengths before₁ ≡ lengths before₂
    → ((a b : Answer) → Loads s before₁ a after₁ → Loads s before₂ b after₂ → leaves a after₁ ≡ leaves b after₂)
    × ((a b : Answer) → Parses s before₁ a after₁ → Parses s before₂ b after₂ → leaves a after₁ ≡ leaves b after₂)
