-- What the terms of a source come to: rows, and frames that are open together.
use Rattle.std.specs.Prelude.{List, [], ◌∷◌, ℕ, suc, max, length}
use Rattle.terms.specs.Tree.{Forest, nil, node}
use Rattle.terms.specs.Label.{Label, Declaration, trees}
use Rattle.terms.specs.Rows.{surface_rows}

-- A term with arguments is a frame until they are read, and opens n; a leaf, a `ref` and a `universe` have none, and open none.
abbrev pub opens : Forest Label → ℕ → ℕ
opens nil n = 0
opens (node m a r) n = n

-- The greatest number of frames that are open together in one of some terms: of a form, one more than the most of its arguments.
abbrev pub frames_of : Forest Label → ℕ
frames_of nil = 0
frames_of (node m a r) = max (opens a (suc (frames_of a))) (frames_of r)

-- The most of all types and bodies of some declarations.
abbrev pub deepest : List Declaration → ℕ
deepest [] = 0
deepest (d ∷ l) = max (frames_of (trees d)) (deepest l)

-- How many rows they have.
abbrev pub row_total : List Declaration → ℕ
row_total ds = length (surface_rows 0 ds)
