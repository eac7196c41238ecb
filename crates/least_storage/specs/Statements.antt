-- Statements about the answer of `storage`, each as a type; least_storage/proofs/Statements.antt has a proof of each.
use Rattle.token.specs.Refusals.{number}
use Rattle.token.specs.declared.Class.{Class}
use Rattle.std.specs.Prelude.{◌≡◌, ◌↔◌, List, [], ◌∷◌, Bool, true, false, ◌||◌, ℕ, zero, suc, ◌/◌, ◌≤◌, ◌<◌, ltb, eqb, length, Err}
use Rattle.std.proofs.Math.Option.{Option, none, some}
use Rattle.token.specs.declared.Refusal.{Refusal}
use Rattle.terms.specs.Tree.{next}
use Rattle.terms.specs.Label.{Declaration, trees}
use Rattle.terms.specs.Rows.{first_rows}
use Rattle.surface.specs.Reader.{Position, start, Result, done, refused, nowhere}
use Rattle.surface.specs.Reading.{read_module}
use Rattle.surface.specs.Tables.{Lengths, ample}
use Rattle.surface.specs.Loading.{parsing, Outcome, load}
use Rattle.surface.specs.SameCore.{row_count, declaration_count}
use Rattle.surface.specs.Sizes.{deepest, row_total}
use Rattle.surface.specs.Statements.{Readable}
use Rattle.least_storage.specs.Answer.{Storage, needs}
use Rattle.least_storage.specs.Storage.{storage, report_storage}

-- The answer by the grammar, without reading order: the source is a module of these declarations, and the figures are theirs.
pub record NeededBy (s : List ℕ) (work rows count frames : ℕ) : Type 0 where
  pub declarations : List Declaration
  pub readable : Readable s declarations
  pub rows_are : rows ≡ row_total declarations
  pub count_is : count ≡ length declarations
  pub frames_are : frames ≡ deepest declarations
  pub area : 16384 ≤ work

abbrev pub NeedsOfModule : Type 0
NeedsOfModule = (s : List ℕ) (work rows count frames : ℕ) → (storage s work ≡ needs rows count frames) ↔ NeededBy s work rows count frames

-- What two calls of `load` leave is alike: their answers, and their rows and records. Behind these all is 0, by the definition of loading.
pub record Alike (a b : Outcome) : Type 0 where
  pub answers : a.answer ≡ b.answer
  pub surfaces : first_rows 8 (row_count a.answer) a.tables.surface ≡ first_rows 8 (row_count b.answer) b.tables.surface
  pub cores : first_rows 8 (row_count a.answer) a.tables.core ≡ first_rows 8 (row_count b.answer) b.tables.core
  pub records : first_rows 5 (declaration_count a.answer) a.tables.declarations ≡ first_rows 5 (declaration_count b.answer) b.tables.declarations

-- Tables with room for so many rows and declarations.
pub record Room (rows count : ℕ) (z : Lengths) : Type 0 where
  pub surface : rows ≤ z.surface / 8
  pub core : rows ≤ z.core / 8
  pub declarations : count ≤ z.declarations / 5

-- "row tables and a declaration list of exactly those sizes", and any more words that make no further row or record.
pub record Exactly (rows count : ℕ) (z : Lengths) : Type 0 where
  pub surface : z.surface / 8 ≡ rows
  pub core : z.core / 8 ≡ rows
  pub declarations : z.declarations / 5 ≡ count

-- "With row tables and a declaration list of exactly those sizes, loading gives the answer that generous tables give."
abbrev pub ExactIsEnough : Type 0
ExactIsEnough =
    (s : List ℕ) (rows count frames : ℕ) (exact generous : Lengths) → storage s exact.work ≡ needs rows count frames → Exactly rows count exact → Room rows count generous
    → 16384 ≤ generous.work → Alike (load s exact) (load s generous)

-- "Where the count is above zero, one surface row fewer gives 8": or any number fewer, whatever the core table is.
abbrev pub RowFewer : Type 0
RowFewer =
    (s : List ℕ) (rows count frames : ℕ) (z : Lengths) → storage s z.work ≡ needs rows count frames → z.surface / 8 < rows → count ≤ z.declarations / 5
    → (load s z).answer ≡ Err (nowhere Class.SurfaceFull)

-- "and one declaration fewer gives 9": or any number fewer.
abbrev pub DeclarationFewer : Type 0
DeclarationFewer =
    (s : List ℕ) (rows count frames : ℕ) (z : Lengths) → storage s z.work ≡ needs rows count frames → rows ≤ z.surface / 8 → z.declarations / 5 < count
    → (load s z).answer ≡ Err (nowhere Class.DeclarationsFull)

-- A core row fewer, or any number, gives 10.
abbrev pub CoreFewer : Type 0
CoreFewer =
    (s : List ℕ) (rows count frames : ℕ) (z : Lengths) → storage s z.work ≡ needs rows count frames → rows ≤ z.surface / 8 → count ≤ z.declarations / 5 → z.core / 8 < rows
    → (load s z).answer ≡ Err (nowhere Class.CoreShort)

-- Reading order, with room for r rows and d declarations, of declarations whose first row is number n: 9 where a declaration opens and there
-- is no room for it, before its rows; 8 where there is no room for one of its rows.
abbrev pub past : Bool → Option Class → Option Class
past true o = some Class.SurfaceFull
past false o = o

abbrev pub met_first : (r d n : ℕ) → List Declaration → Option Class
met_first r d n [] = none
met_first r zero n (e ∷ l) = some Class.DeclarationsFull
met_first r (suc d) n (e ∷ l) = past (ltb r (next n (trees e))) (met_first r d (next n (trees e)) l)

-- What is read, or the refusal that is met before, nowhere.
abbrev pub cut_short : Option Class → Result (List Declaration) → Result (List Declaration)
cut_short none x = x
cut_short (some c) x = refused (nowhere c)

-- "with both fewer, the one that reading meets first", by any numbers.
abbrev pub MetFirst : Type 0
MetFirst =
    (s : List ℕ) (z : Lengths) (ds : List Declaration) (q : Position) → parsing s (ample s z.work) start ≡ done ds q
    → parsing s z start ≡ cut_short (met_first (z.surface / 8) (z.declarations / 5) 0 ds) (done ds q)

abbrev pub MetByLoading : Type 0
MetByLoading =
    (s : List ℕ) (z : Lengths) (ds : List Declaration) (q : Position) (c : Class) → parsing s (ample s z.work) start ≡ done ds q
    → met_first (z.surface / 8) (z.declarations / 5) 0 ds ≡ some c → (load s z).answer ≡ Err (nowhere c)

-- For one of each it is 9.
abbrev pub OneOfEach : Type 0
OneOfEach =
    (s : List ℕ) (rows count frames : ℕ) (z : Lengths) → storage s z.work ≡ needs rows count frames → suc (z.surface / 8) ≡ rows → suc (z.declarations / 5) ≡ count
    → (load s z).answer ≡ Err (nowhere Class.DeclarationsFull)

-- "A source refused for 1, 2, 3, 6 or 7 gives that refusal here, and 11 is given as in loading."
abbrev pub storage_refusal : Class → Bool
storage_refusal k = let c : ℕ = number k in eqb c 1 || (eqb c 2 || (eqb c 3 || (eqb c 6 || (eqb c 7 || eqb c 11))))

-- With whatever tables loading refuses it.
abbrev pub RefusedHere : Type 0
RefusedHere = (s : List ℕ) (z : Lengths) (r : Refusal) → storage_refusal r.class ≡ true → (load s z).answer ≡ Err r → storage s z.work ≡ Err r

-- "so 4 and 5 never come from this call", nor do 8, 9 and 10.
abbrev pub OnlyThese : Type 0
OnlyThese = (s : List ℕ) (work : ℕ) (r : Refusal) → storage s work ≡ Err r → storage_refusal r.class ≡ true

-- A term has at least 3 bytes of source and a declaration at least 17, of whatever source, so tables for so many bytes are never short.
abbrev pub RoomForBytes : List ℕ → Lengths → Type 0
RoomForBytes s z = Room (length s / 3) (length s / 17) z

abbrev pub FewerThanBytes : Type 0
FewerThanBytes =
    (s : List ℕ) (work rows count frames : ℕ) → storage s work ≡ needs rows count frames → (rows ≤ length s / 3) × (count ≤ length s / 17)

-- With them loading does what it does with any others that are as large, in refusing too.
abbrev pub BytesAreEnough : Type 0
BytesAreEnough =
    (s : List ℕ) (y z : Lengths) → RoomForBytes s y → RoomForBytes s z → y.work ≡ z.work → Alike (load s y) (load s z)

-- "8", "9" and "10" never come then.
abbrev pub is_full : Class → Bool
is_full k = let c : ℕ = number k in eqb c 8 || (eqb c 9 || eqb c 10)

abbrev pub NeverFull : Type 0
NeverFull = (s : List ℕ) (z : Lengths) (r : Refusal) → RoomForBytes s z → (load s z).answer ≡ Err r → is_full r.class ≡ false

-- The refusal of `storage` is that of loading with such tables.
abbrev pub RefusedThere : Type 0
RefusedThere = (s : List ℕ) (z : Lengths) (r : Refusal) → RoomForBytes s z → storage s z.work ≡ Err r → (load s z).answer ≡ Err r

-- The frames figure is the least number of frames with which the source is read.
abbrev pub FramesNeeded : Type 0
FramesNeeded =
    (s : List ℕ) (work rows count frames : ℕ) → storage s work ≡ needs rows count frames
    → (l : ℕ) → ((ds : List Declaration) × (q : Position) × (read_module s rows count l start ≡ done ds q)) ↔ (frames ≤ l)

-- No two answers have the same number and values, so that these say all of the answer.
abbrev pub StorageTells : Type 0
StorageTells = (a b : Storage) → report_storage a ≡ report_storage b → a ≡ b
