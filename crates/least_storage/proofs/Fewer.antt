-- Loading with the storage that `storage` gives, or with less.
use Rattle.token.specs.declared.Class.{Class}
use Rattle.std.specs.Prelude.{Err}
use mathlib.Core.Path.{◌≡◌, refl, sym, ap, ◌∙◌}
use mathlib.Core.List.{List}
use mathlib.Core.Option.{Option}
use Prim.Native.Nat.{ℕ, suc, ◌/◌, ◌≤◌, ◌<◌}
use native.Mathlib.Omega.{arith}
use lib.Dec.{leb}
use lib.ListN.{length}
use borrow.Author.Tests.{le-leb}
use Rattle.terms.specs.Label.{Declaration}
use Rattle.surface.specs.Reader.{start, done, nowhere}
use Rattle.surface.specs.Tables.{Lengths}
use Rattle.surface.specs.Loading.{parsing, load}
use Rattle.surface.proofs.Takes.{require_go}
use Rattle.least_storage.specs.Answer.{needs}
use Rattle.least_storage.specs.Storage.{storage}
use Rattle.least_storage.specs.Statements.{cut_short, ExactIsEnough, RowFewer, DeclarationFewer, CoreFewer, MetByLoading, OneOfEach}
use Rattle.least_storage.proofs.MetFirst.{met_none, met_nine, met_eight, fewer}
use Rattle.least_storage.proofs.Parsed.{met_first_holds}
use Rattle.least_storage.proofs.Needed.{Known, known}
use Rattle.least_storage.proofs.Loaded.{refused_load, core_holds, core_full, alike_by}

pub met_by_loading : MetByLoading
met_by_loading s z ds q c e i = refused_load s z (nowhere c) (met_first_holds s z ds q e ∙ ap (λ (o : Option Class). cut_short o (done ds q)) i)

-- Parsing asks of the work area only that it is large enough.
another_area : (s : List ℕ) (z : Lengths) (work : ℕ) → 16384 ≤ z.work → 16384 ≤ work
    → parsing s z start ≡ parsing s (record { surface = z.surface; core = z.core; declarations = z.declarations; work = work }) start
unfolding parsing
another_area s z work h k =
    require_go (leb 16384 z.work) _ start _ _ (le-leb 16384 z.work h) refl ∙ sym (require_go (leb 16384 work) _ start _ _ (le-leb 16384 work k) refl)

module _ (s : List ℕ) (work rows count frames : ℕ) (k : Known s work rows count frames) (z : Lengths) where
  abbrev ds : List Declaration
  ds = k.module_read

  -- Where there is room for all, what is read is what `storage` read.
  room_parses : 16384 ≤ z.work → rows ≤ z.surface / 8 → count ≤ z.declarations / 5 → parsing s z start ≡ done ds k.position
  room_parses w h i =
      another_area s z work w k.area
      ∙ met_first_holds s (record { surface = z.surface; core = z.core; declarations = z.declarations; work = work }) ds k.position k.parsed
      ∙ ap (λ (o : Option Class). cut_short o (done ds k.position))
      (met_none (z.surface / 8) (z.declarations / 5) 0 ds (omega (arith, k.count_is)) (omega (arith, k.rows_are)))

pub exact_is_enough : ExactIsEnough
exact_is_enough s rows count frames x z e h g w =
    let k = known s x.work rows count frames e in
    let i = room_parses s x.work rows count frames k x k.area (omega (arith, h.surface)) (omega (arith, h.declarations)) in
    let j = room_parses s x.work rows count frames k z w g.surface g.declarations in
    alike_by s x z
    (core_holds s x k.module_read k.position i (omega (arith, h.core, k.rows_read))
    ∙ sym (core_holds s z k.module_read k.position j (omega (arith, g.core, k.rows_read))))

pub row_fewer : RowFewer
row_fewer s rows count frames z e h i =
    let k = known s z.work rows count frames e in
    met_by_loading s z k.module_read k.position Class.SurfaceFull k.parsed
    (met_eight (z.surface / 8) (z.declarations / 5) 0 k.module_read (omega arith) (omega (arith, k.count_is)) (omega (arith, k.rows_are)))

-- Where a single row is missing at most, as the first declaration that there is no room for has one.
nine_first : (s : List ℕ) (rows count frames : ℕ) (z : Lengths) → storage s z.work ≡ needs rows count frames → rows ≤ suc (z.surface / 8)
    → z.declarations / 5 < count
    → (load s z).answer ≡ Err (nowhere Class.DeclarationsFull)
nine_first s rows count frames z e h i =
    let k = known s z.work rows count frames e in
    let ds = k.module_read in
    let d = z.declarations / 5 in
    let l : d < length ds = omega (arith, k.count_is) in
    met_by_loading s z ds k.position Class.DeclarationsFull k.parsed (met_nine (z.surface / 8) d 0 ds l (omega (arith, k.rows_are, fewer d 0 ds l)))

pub declaration_fewer : DeclarationFewer
declaration_fewer s rows count frames z e h i = nine_first s rows count frames z e (omega arith) i

pub one_of_each : OneOfEach
one_of_each s rows count frames z e h i = nine_first s rows count frames z e (omega arith) (omega arith)

pub core_fewer : CoreFewer
core_fewer s rows count frames z e h i j =
    let k = known s z.work rows count frames e in
    core_full s z k.module_read k.position (room_parses s z.work rows count frames k z k.area h i) (omega (arith, k.rows_read))
