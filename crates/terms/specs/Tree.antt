-- Lists of trees with a label at each node, their places, and their nodes as rows in the order of completion.
use Rattle.std.specs.Prelude.{List, [], ◌∷◌, ◌++◌, ℕ, zero, suc}
use Rattle.std.proofs.Math.Option.{Option, none, some}

-- A list of trees: `nil`, or a first tree, with its label and the list of its arguments, and then the others.
pub data Forest (A : Type 0) : Type 0 where
  nil : Forest A
  node : (label : A) (args rest : Forest A) → Forest A

pub record Tree (A : Type 0) : Type 0 where
  pub label : A
  pub args : Forest A

-- A tree in front of others.
abbrev pub tree : {A : Type 0} → Tree A → Forest A → Forest A
tree t r = node t.label t.args r

abbrev pub then : {A B : Type 0} → Option A → (A → Option B) → Option B
then none f = none
then (some a) f = f a

abbrev pub maybe : {A B : Type 0} → Option A → B → (A → B) → B
maybe none b f = b
maybe (some a) b f = f a

-- "A term's place in a type or body is the list of argument numbers that leads down to it from the top, with only arguments that are
-- terms counted."
abbrev pub Place : Type 0
Place = List ℕ

module _ {A : Type 0} where
  -- The tree that is number i of a list, counted from 0.
  abbrev pub pick : Forest A → ℕ → Option (Tree A)
  pick nil i = none
  pick (node l a r) zero = some (record { label = l; args = a })
  pick (node l a r) (suc i) = pick r i

  -- How many trees a list has.
  abbrev pub count : Forest A → ℕ
  count nil = zero
  count (node l a r) = suc (count r)

  -- What stands at a place of a tree.
  abbrev pub at : Place → Tree A → Option (Tree A)
  at [] t = some t
  at (i ∷ p) t = then (pick t.args i) (at p)

-- A node with the rows of its arguments. "Children are row numbers."
pub record Cell (A : Type 0) : Type 0 where
  pub label : A
  pub children : List ℕ

-- "Rows are stored in the order in which terms are completed": a tree's row is the one after its arguments' rows.
module _ {A : Type 0} where
  -- The number of the row behind those of a list of trees, whose first row is n.
  abbrev pub next : ℕ → Forest A → ℕ
  next n nil = n
  next n (node l a r) = next (suc (next n a)) r

  -- The rows of the trees themselves.
  abbrev pub roots : ℕ → Forest A → List ℕ
  roots n nil = []
  roots n (node l a r) = next n a ∷ roots (suc (next n a)) r

  -- All the rows.
  abbrev pub cells : ℕ → Forest A → List (Cell A)
  cells n nil = []
  cells n (node l a r) = cells n a ++ (record { label = l; children = roots n a } ∷ cells (suc (next n a)) r)

-- The same trees with other labels.
module _ {A B : Type 0} where
  abbrev pub relabel : (A → B) → Forest A → Forest B
  relabel f nil = nil
  relabel f (node l a r) = node (f l) (relabel f a) (relabel f r)

  abbrev pub relabel_tree : (A → B) → Tree A → Tree B
  relabel_tree f t = record { label = f t.label; args = relabel f t.args }
