-- The same trees with other labels have the same places and rows.
use mathlib.Core.Path.{◌≡◌, refl, ap, ◌∙◌}
use mathlib.Core.Option.{some}
use Prim.Native.Nat.{ℕ, zero, suc}
use Rattle.terms.specs.Tree.{Forest, nil, node, Tree, pick, next, relabel, relabel_tree}
use Rattle.terms.specs.RowAt.{tree_row}
use Rattle.terms.proofs.Names.{none_some, some_inj}
use Rattle.terms.proofs.Cells.{next_relabel}

module _ {A B : Type 0} (h : A → B) where
  pub pick_relabel : (f : Forest A) (i : ℕ) (t : Tree A) → pick f i ≡ some t → pick (relabel h f) i ≡ some (relabel_tree h t)
  pick_relabel nil i t e = none_some e
  pick_relabel (node l a r) zero t e = ap (λ (x : Tree A). some (relabel_tree h x)) (some_inj e)
  pick_relabel (node l a r) (suc i) t e = pick_relabel r i t e

  pub tree_row_relabel : (n : ℕ) (f : Forest A) (i : ℕ) → tree_row n (relabel h f) i ≡ tree_row n f i
  tree_row_relabel n nil i = refl
  tree_row_relabel n (node l a r) zero = refl
  tree_row_relabel n (node l a r) (suc i) = ap (λ (m : ℕ). tree_row (suc m) (relabel h r) i) (next_relabel h n a) ∙ tree_row_relabel (suc (next n a)) r i
