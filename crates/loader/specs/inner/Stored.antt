-- What the parts of `load` store, before the tables are cleared behind it.
use Rattle.token.specs.declared.Class.{Class}
use Rattle.std.specs.Prelude.{◌≡◌, List, [], ℕ, ◌*◌, ◌/◌, ◌≤◌, ◌<◌, length, take, Err}
use Rattle.std.proofs.Math.Option.{Option, none, some}
use Rattle.terms.specs.Label.{Declaration}
use Rattle.terms.specs.Resolution.{RefusedName, first_refused, resolve_module}
use Rattle.terms.specs.Rows.{joined, surface_rows, core_rows, declaration_records}
use Rattle.surface.specs.Answer.{Answer, loaded}
use Rattle.surface.specs.Reader.{Result, done, refused, nowhere}
use Rattle.surface.specs.SameCore.{row_count, declaration_count}

-- The answer before the tables are cleared behind what was stored: rows and records stand at the beginning of their tables.
abbrev pub Stores : List ℕ → Result (List Declaration) → Answer → List ℕ → List ℕ → List ℕ → Type 0
Stores s (done ds q) r surface core declarations =
    (r ≡ loaded q.rows (length ds))
    × (take (q.rows * 8) surface ≡ joined (surface_rows 0 ds))
    × (take (q.rows * 8) core ≡ joined (core_rows 0 (resolve_module s [] ds)))
    × (take (length ds * 5) declarations ≡ joined (declaration_records 0 (resolve_module s [] ds)))
Stores s (refused x) r surface core declarations = r ≡ Err x

-- What resolution answers for declarations that were read, by the core table's length and the first refused name: "10; then declarations in
-- order".
abbrev pub ResolvesTo : Option RefusedName → List ℕ → List Declaration → ℕ → Answer → List ℕ → Type 0
ResolvesTo none s ds rows r core₁ = (r ≡ loaded rows (length ds)) × (take (rows * 8) core₁ ≡ joined (core_rows 0 (resolve_module s [] ds)))
ResolvesTo (some x) s ds rows r core₁ = r ≡ Err (nowhere x.class)

pub record Resolves (s : List ℕ) (ds : List Declaration) (rows : ℕ) (core : List ℕ) (r : Answer) (core₁ : List ℕ) : Type 0 where
  pub short : length core / 8 < rows → r ≡ Err (nowhere Class.CoreShort)
  pub long : rows ≤ length core / 8 → ResolvesTo (first_refused s [] ds) s ds rows r core₁

-- There is room for what the answer counts.
pub record Counts (r : Answer) (surface core declarations : List ℕ) : Type 0 where
  pub rows_read : row_count r ≤ length surface / 8
  pub rows_resolved : row_count r ≤ length core / 8
  pub records : declaration_count r ≤ length declarations / 5
