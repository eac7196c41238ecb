-- A proof of each headline statement (specs/Statements), from the file that has it.
use Rattle.core_module.specs.Statements.{RoundTrip, PrintsLoaded, CanonicalExactly, ReadingRefusals, TextNeverFull, TextRows, OneSpelling, SameSpelling}
use Rattle.core_module.proofs.RoundTrip as trip
use Rattle.core_module.proofs.Canonical as canonical
use Rattle.core_module.proofs.Refusals as refusals
use Rattle.core_module.proofs.NeverFull as full
use Rattle.core_module.proofs.TextRows as rows
use Rattle.core_module.proofs.Spelling as spelling

pub round_trip : RoundTrip
round_trip = trip.any_round_trip

pub prints_loaded : PrintsLoaded
prints_loaded = trip.prints_loaded

pub canonical_exactly : CanonicalExactly
canonical_exactly = canonical.canonical_exactly

pub reading_refusals : ReadingRefusals
reading_refusals = refusals.reading_refusals

pub text_never_full : TextNeverFull
text_never_full = full.text_never_full

pub text_rows : TextRows
text_rows = rows.text_rows_begin

pub one_spelling : OneSpelling
one_spelling = spelling.one_spelling

pub same_spelling : SameSpelling
same_spelling = spelling.same_spelling
