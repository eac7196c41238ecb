-- A proof of each headline statement (specs/Statements and specs/Card), from the file that has it.
use mathlib.Core.List.{List}
use native.Mathlib.Omega.{arith}
use Rattle.terms.proofs.Widths.{total_surface}
use Rattle.surface.specs.Card.{StarredReadings}
use Rattle.surface.specs.Statements.{Sound, Complete, Unique, ReadsExactly, LoadsExactly, Demand1, Demand3, Demand3In, RowOffsets, LoadReports, ReportTells}
use Rattle.surface.specs.Tables.{in_words}
use Rattle.surface.proofs.Starred as starred
use Rattle.surface.proofs.SoundModule as reading-sound
use Rattle.surface.proofs.CompleteModule as reading-complete
use Rattle.surface.proofs.Acceptance as acceptance
use Rattle.surface.proofs.Accepted as accepted
use Rattle.surface.proofs.Demand as demand
use Rattle.surface.proofs.Offsets as offsets
use Rattle.surface.proofs.Reports as reports
use Prim.Native.Nat.{ℕ}

pub starred_readings : StarredReadings
starred_readings = starred.starred_readings

pub sound : Sound
sound s limit room frames ds q e = (reading-sound.sound s limit room frames ds q e).derives

pub complete : Complete
complete s limit room frames ds d l n f =
    let g = reading-complete.complete s limit room frames ds d n f (omega (arith, total_surface 0 ds)) in
    (g.position, g.reads)

pub unique : Unique
unique = reading-complete.unique

pub reads_exactly : ReadsExactly
reads_exactly = acceptance.reads_exactly

pub loads_exactly : LoadsExactly
loads_exactly = acceptance.loads_exactly

pub demand_1 : Demand1
demand_1 = accepted.demand_1

pub demand_3 : Demand3
demand_3 = demand.demand_3

pub demand_3_in : (D : Type 0) (words : D → List ℕ) → Demand3In D words
demand_3_in D words s t before₁ before₂ a b after₁ after₂ =
    demand.demand_3 s t (in_words words before₁) (in_words words before₂) a b (in_words words after₁) (in_words words after₂)

pub row_offsets : RowOffsets
row_offsets = offsets.row_offsets

pub load_reports : LoadReports
load_reports = reports.load_reports

pub report_tells : ReportTells
report_tells = reports.report_tells
