-- Document 02, Req 04: "The lookup of a name shall give, beside its count, the surface row of the binding form, or the declaration's place
-- when it is global".
use Rattle.std.specs.Prelude.{List, [], ◌∷◌, true, false, ℕ, suc}
use Rattle.std.proofs.Math.Option.{Option, none, some}
use Rattle.terms.specs.Label.{Name}
use Rattle.terms.specs.Resolution.{called}

-- A local binder's name, if it has one, and the row of its form.
pub record Local : Type 0 where
  pub name : Option Name
  pub row : ℕ

abbrev pub local_of : Option Name → ℕ → Local
local_of x k = record { name = x; row = k }

-- How many binders are passed by before the one that is looked for, and its row.
pub record Found : Type 0 where
  pub count : ℕ
  pub row : ℕ

abbrev pub found : ℕ → ℕ → Found
found c k = record { count = c; row = k }

abbrev pub next_found : Option Found → Option Found
next_found none = none
next_found (some f) = some (found (suc f.count) f.row)

-- The first of a name, the innermost in front.
unfoldable pub lookup : Name → List Local → Option Found
lookup x [] = none
lookup x (y ∷ l) = elim (called x y.name) [ true ↦ some (found 0 y.row) | false ↦ next_found (lookup x l) ]

-- What a reference refers to. "A local hides a declaration."
pub data Referent : Type 0 where
  local : Found → Referent
  global : (place : ℕ) → Referent
  unknown : Referent

abbrev pub refers : Option Found → Option ℕ → Referent
refers (some f) g = local f
refers none (some j) = global j
refers none none = unknown
