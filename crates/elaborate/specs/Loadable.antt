-- What `elaborate_surface` is given, and what it leaves: the rows and records of the declarations read, and their core rows.
use Rattle.std.specs.Prelude.{Result, Ok, Err, ℕ, zero, suc, ◌*◌, ◌≤◌, ◌≡◌, List, [], ◌∷◌, length, take, drop}
use Rattle.std.proofs.Math.Option.{Option, none, some}
use Rattle.terms.specs.Forms.{arity_of}
use Rattle.terms.specs.Tree.{Forest, nil, node, Tree, count}
use Rattle.terms.specs.Label.{Label, Declaration, trees}
use Rattle.terms.specs.Resolution.{RefusedName, first_refused, resolve_module}
use Rattle.terms.specs.Rows.{joined, surface_rows, core_rows, read_records}
use Rattle.stacks.specs.Stacks.{WorkArea}
use Rattle.elaborate.specs.Declarations.{name_refused}
use Rattle.elaborate.specs.declared.RefusedName as declared

-- Each term has as many arguments as its kind wants.
abbrev pub Shaped : Forest Label → Type 0
Shaped nil = Unit {0}
Shaped (node l a r) = (count a ≡ arity_of l.kind) × Shaped a × Shaped r

-- At most n forms stand one in the other. "7 more than 512 frames open in one term": a term without arguments opens no frame.
abbrev pub Nested : ℕ → Forest Label → Type 0
Nested n nil = Unit {0}
Nested n (node l nil r) = Nested n r
Nested zero (node l (node m b c) r) = ⊥
Nested (suc n) (node l (node m b c) r) = Nested n (node m b c) × Nested (suc n) r

-- "(postulate NAME TYPE)", of kind 1, has no body; the other kinds have one.
abbrev pub Bodied : ℕ → Option (Tree Label) → Type 0
Bodied k none = k ≡ 1
Bodied k (some b) = k ≡ 1 → ⊥

abbrev pub WellRead : List Declaration → Type 0
WellRead [] = Unit {0}
WellRead (d ∷ l) = Shaped (trees d) × Nested 512 (trees d) × Bodied d.kind d.body × WellRead l

-- The tables hold the declarations ds, and there is room for their core rows.
pub record Loadable (surface declarations core work : List ℕ) (rows count : ℕ) (ds : List Declaration) : Type 0 where
  pub area : WorkArea work
  pub room : rows * 8 ≤ length core
  pub all_rows : rows ≡ length (surface_rows 0 ds)
  pub surface_read : take (rows * 8) surface ≡ joined (surface_rows 0 ds)
  pub all_records : count ≡ length ds
  pub records_read : take (count * 5) declarations ≡ joined (read_records 0 ds)
  pub well_read : WellRead ds

-- The answer, and the core table: the core rows, with what lies behind them untouched; or the first refused name.
abbrev pub ElaboratesTo : Option RefusedName → List ℕ → List Declaration → ℕ → List ℕ → Result (Unit {0}) declared.RefusedName → List ℕ → Type 0
ElaboratesTo none s ds rows core r core₁ =
    (r ≡ Ok tt) × (take (rows * 8) core₁ ≡ joined (core_rows 0 (resolve_module s [] ds))) × (drop (rows * 8) core₁ ≡ drop (rows * 8) core)
ElaboratesTo (some x) s ds rows core r core₁ = r ≡ Err (name_refused x)

abbrev pub Elaborates : List ℕ → List Declaration → ℕ → List ℕ → Result (Unit {0}) declared.RefusedName → List ℕ → Type 0
Elaborates s ds rows core r core₁ = ElaboratesTo (first_refused s [] ds) s ds rows core r core₁
