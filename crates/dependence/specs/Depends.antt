-- Document 02, Req 05, "Dependence goes through": which places a declaration shows, on which it depends, and by which rows; and Req 09, which
-- of these a yes shows.
use Rattle.std.specs.Prelude.{◌≡◌, ◌⊎◌, List, [], ◌∷◌, ◌++◌, ℕ, zero, suc, ◌≤◌, get_or}
use Rattle.terms.specs.Forms.{global_kind}
use Rattle.terms.specs.Tree.{Forest, nil, node, next, roots}
use Rattle.terms.specs.Resolution.{Resolved, CoreDeclaration}
use Rattle.terms.specs.Rows.{core_row}

-- A core row, and its number in the table.
pub record NumberedRow : Type 0 where
  pub number : ℕ
  pub words : List ℕ

-- The rows of some trees, whose first row is n: a tree's row is the one after its arguments' rows.
abbrev pub numbered_rows : ℕ → Forest Resolved → List NumberedRow
numbered_rows n nil = []
numbered_rows n (node l a r) =
    numbered_rows n a
    ++ (record { number = next n a; words = core_row (record { label = l; children = roots n a }) } ∷ numbered_rows (suc (next n a)) r)

-- A declaration's type is its first tree, and its body the tree behind it.
abbrev pub type_of : Forest Resolved → Forest Resolved
type_of nil = nil
type_of (node l a r) = node l a nil

abbrev pub body_of : Forest Resolved → Forest Resolved
body_of nil = nil
body_of (node l a r) = r

-- The rows of "k's type" and of "k's body", of a module whose first row is n; a place that is no declaration has none.
abbrev pub type_rows : ℕ → List CoreDeclaration → ℕ → List NumberedRow
type_rows n [] k = []
type_rows n (d ∷ l) zero = numbered_rows n (type_of d.trees)
type_rows n (d ∷ l) (suc k) = type_rows (next n d.trees) l k

abbrev pub body_rows : ℕ → List CoreDeclaration → ℕ → List NumberedRow
body_rows n [] k = []
body_rows n (d ∷ l) zero = numbered_rows (next n (type_of d.trees)) (body_of d.trees)
body_rows n (d ∷ l) (suc k) = body_rows (next n d.trees) l k

-- "kind (postulate 1, transparent 2, opaque 3)", 0 of a place that is no declaration.
abbrev pub kind_at : List CoreDeclaration → ℕ → ℕ
kind_at [] k = 0
kind_at (d ∷ l) zero = d.kind
kind_at (d ∷ l) (suc k) = kind_at l k

abbrev pub transparent : ℕ
transparent = 2

-- "a global row .. names a place": the place is p.
abbrev pub GlobalRow : ℕ → List ℕ → Type 0
GlobalRow p w = (get_or w 0 0 ≡ global_kind) × (get_or w 1 0 ≡ p)

-- Row r is among some rows, and is a global row that names p.
abbrev pub Among : ℕ → ℕ → List NumberedRow → Type 0
Among p r [] = ⊥
Among p r (x ∷ l) = ((x.number ≡ r) × GlobalRow p x.words) ⊎ Among p r l

-- "place k shows j if k is j, or if a global row in k's type, or in k's body when k is transparent, names a place that shows j": a path of
-- mentions from k to j. "An opaque body counts .. for nobody further on."
pub data Shows (m : List CoreDeclaration) (j : ℕ) : ℕ → Type 0 where
  itself : {k : ℕ} → k ≡ j → Shows m j k
  by_type : {k p : ℕ} (r : ℕ) → Among p r (type_rows 0 m k) → Shows m j p → Shows m j k
  by_body : {k p : ℕ} (r : ℕ) → kind_at m k ≡ transparent → Among p r (body_rows 0 m k) → Shows m j p → Shows m j k

-- "some global row in i's type or body names a place that shows j": row r is such a row. The body counts whatever the declaration's kind.
abbrev pub Qualifies : List CoreDeclaration → ℕ → ℕ → ℕ → Type 0
Qualifies m i j r = (p : ℕ) × (Among p r (type_rows 0 m i) ⊎ Among p r (body_rows 0 m i)) × Shows m j p

-- "Declaration i depends on j exactly if some global row .."
abbrev pub Depends : List CoreDeclaration → ℕ → ℕ → Type 0
Depends m i j = (r : ℕ) × Qualifies m i j r

-- "the lowest-numbered row that qualifies under Req 05's rule"
pub record LowestRow (m : List CoreDeclaration) (i j r : ℕ) : Type 0 where
  pub qualifies : Qualifies m i j r
  pub lowest : (q : ℕ) → Qualifies m i j q → r ≤ q
