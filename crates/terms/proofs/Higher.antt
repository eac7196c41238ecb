-- The rows inside a term are lower than its own, which is completed after them.
use mathlib.Core.Path.{◌≡◌, refl}
use mathlib.Core.List.{[], ◌∷◌, ◌++◌}
use mathlib.Core.Option.{Option, none, some}
use Prim.Native.Nat.{ℕ, ◌<◌}
use native.Mathlib.Omega.{arith}
use Rattle.terms.specs.Tree.{Forest, Tree, then, Place, pick, at, next, cells}
use Rattle.terms.specs.RowAt.{tree_row, row_at}
use Rattle.terms.proofs.Names.{none_some, some_inj}
use Rattle.terms.proofs.Cells.{next_cells}
use Rattle.terms.proofs.Entries.{entry_below}
use Rattle.terms.proofs.RowsAt.{Row, place_row}

module _ {A : Type 0} where
  -- A row of some trees is before the row behind them.
  row_below : (n : ℕ) (f : Forest A) (k : ℕ) (u : Tree A) → Row n f k u → k < next n f
  row_below n f k u w = omega (arith, w.number, entry_below (cells n f) w.index _ w.cell, next_cells n f)

  pub inner_lower : (q : Place) (a : ℕ) (b : Place) (n : ℕ) (t u : Tree A) (k r : ℕ) → at (q ++ (a ∷ b)) t ≡ some u → row_at n (q ++ (a ∷ b)) t ≡ some k → row_at n q t ≡ some r → k < r
  inner_lower [] a b n t u k r e f g = go (pick t.args a) refl e f
    where
      go : (o : Option (Tree A)) → pick t.args a ≡ o → then o (at b) ≡ some u → then o (row_at (tree_row n t.args a) b) ≡ some k → k < r
      go none q e f = none_some e
      go (some v) q e f =
          let l = row_below n t.args k u (place_row t.args n a b v u k q e f) in
          let m : next n t.args ≡ r = some_inj g in
          omega arith
  inner_lower (j ∷ q) a b n t u k r e f g = go (λ v. inner_lower q a b (tree_row n t.args j) v u k r) (pick t.args j) e f g
    where
      go : ((v : Tree A) → at (q ++ (a ∷ b)) v ≡ some u → row_at (tree_row n t.args j) (q ++ (a ∷ b)) v ≡ some k → row_at (tree_row n t.args j) q v ≡ some r → k < r) → (o : Option (Tree A))
          → then o (at (q ++ (a ∷ b))) ≡ some u → then o (row_at (tree_row n t.args j) (q ++ (a ∷ b))) ≡ some k → then o (row_at (tree_row n t.args j) q) ≡ some r → k < r
      go ih none e f g = none_some e
      go ih (some v) e f g = ih v e f g
