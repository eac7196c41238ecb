-- A proof of each statement of specs/Statements.
use Rattle.token.specs.Token.{Place}
use Rattle.std.specs.Prelude.{Err, Some, None}
use mathlib.Core.Path.{◌≡◌, sym, ap}
use mathlib.Core.List.{[], ◌∷◌}
use Prim.Native.Nat.{ℕ}
use native.Mathlib.Omega.{arith}
use lib.ListN.{length}
use Rattle.std.specs.Prelude.{Ok, Err}
use Rattle.surface.specs.Reports.{Report, offsets}
use Rattle.surface.proofs.Reports.{report_tells}
use Rattle.least_storage.specs.Answer.{needs}
use Rattle.least_storage.specs.Statements.{NeedsOfModule, ExactIsEnough, RowFewer, DeclarationFewer, CoreFewer, MetFirst, MetByLoading, OneOfEach, RefusedHere, OnlyThese, FewerThanBytes, BytesAreEnough, NeverFull, RefusedThere, FramesNeeded, StorageTells}
use Rattle.least_storage.proofs.Parsed as parsed
use Rattle.least_storage.proofs.Needed as needed
use Rattle.least_storage.proofs.Fewer as fewer
use Rattle.least_storage.proofs.Refusals as refusals

pub needs_of_module : NeedsOfModule
needs_of_module = needed.needs_of_module

pub exact_is_enough : ExactIsEnough
exact_is_enough = fewer.exact_is_enough

pub row_fewer : RowFewer
row_fewer = fewer.row_fewer

pub declaration_fewer : DeclarationFewer
declaration_fewer = fewer.declaration_fewer

pub core_fewer : CoreFewer
core_fewer = fewer.core_fewer

pub met_first_holds : MetFirst
met_first_holds = parsed.met_first_holds

pub met_by_loading : MetByLoading
met_by_loading = fewer.met_by_loading

pub one_of_each : OneOfEach
one_of_each = fewer.one_of_each

pub refused_here : RefusedHere
refused_here = refusals.refused_here

pub only_these : OnlyThese
only_these = refusals.only_these

pub fewer_than_bytes : FewerThanBytes
fewer_than_bytes = needed.fewer_than_bytes

pub bytes_are_enough : BytesAreEnough
bytes_are_enough = refusals.bytes_are_enough

pub never_full : NeverFull
never_full = refusals.never_full

pub refused_there : RefusedThere
refused_there = refusals.refused_there

pub frames_needed : FramesNeeded
frames_needed = needed.frames_needed

-- A refusal has one value at most, and the figures are three.
few : (p : Place) (a b c : ℕ) → a ∷ b ∷ c ∷ [] ≡ offsets p → ⊥
few (Some x) a b c e = let k : ◌≡◌ {A = ℕ} 3 1 = ap length e in omega arith
few None a b c e = let k : ◌≡◌ {A = ℕ} 3 0 = ap length e in omega arith

pub storage_tells : StorageTells
storage_tells (Ok m) (Ok n) e =
    let v : m.rows ∷ m.declarations ∷ m.frames ∷ [] ≡ n.rows ∷ n.declarations ∷ n.frames ∷ [] = ap (λ (r : Report). r.values) e in
    let i : m.rows ≡ n.rows = cc in
    let j : m.declarations ≡ n.declarations = cc in
    let k : m.frames ≡ n.frames = cc in
    λ x. needs (i x) (j x) (k x)
storage_tells (Ok n) (Err r) e = absurd (few r.place n.rows n.declarations n.frames (ap (λ (r : Report). r.values) e))
storage_tells (Err r) (Ok n) e = absurd (few r.place n.rows n.declarations n.frames (sym (ap (λ (r : Report). r.values) e)))
storage_tells (Err r) (Err q) e =
    let f = report_tells (Err r) (Err q) e in
    let i : r ≡ q = cc in
    ap Err i
