-- Document 02, Req 04: from the place of a term to its row.
use Rattle.std.specs.Prelude.{List, [], ◌∷◌, ℕ, zero, suc}
use Rattle.std.proofs.Math.Option.{Option, none, some}
use Rattle.terms.specs.Tree.{Forest, nil, node, Tree, then, Place, pick, next}
use Rattle.terms.specs.Label.{Declaration, trees}

-- Element number i of a list, counted from 0.
abbrev pub entry : {B : Type 0} → List B → ℕ → Option B
entry [] i = none
entry (x ∷ l) zero = some x
entry (x ∷ l) (suc i) = entry l i

module _ {A : Type 0} where
  -- The first row of the tree that is number i of a list whose first row is n.
  abbrev pub tree_row : ℕ → Forest A → ℕ → ℕ
  tree_row n nil i = n
  tree_row n (node l a r) zero = n
  tree_row n (node l a r) (suc i) = tree_row (suc (next n a)) r i

  -- The row of the term at a place of a tree whose first row is n: a term's row is the one after its arguments' rows.
  abbrev pub row_at : ℕ → Place → Tree A → Option ℕ
  row_at n [] t = some (next n t.args)
  row_at n (i ∷ p) t = then (pick t.args i) (row_at (tree_row n t.args i) p)

-- The first row of the declaration number j of a list whose first row is n.
abbrev pub declaration_row : ℕ → List Declaration → ℕ → ℕ
declaration_row n [] j = n
declaration_row n (d ∷ l) zero = n
declaration_row n (d ∷ l) (suc j) = declaration_row (next n (trees d)) l j
