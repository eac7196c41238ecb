-- At the row of a place stands the term of that place.
use mathlib.Core.Path.{◌≡◌, refl, sym, ap, ◌∙◌, subst}
use mathlib.Core.List.{[], ◌∷◌}
use mathlib.Core.Option.{Option, none, some}
use Prim.Native.Nat.{ℕ, zero, suc, ◌+◌}
use native.Mathlib.Omega.{arith}
use lib.ListN.{length}
use Rattle.terms.specs.Tree.{Forest, nil, node, Tree, then, Place, pick, at, next, roots, cells}
use Rattle.terms.proofs.Names.{none_some, some_inj}
use Rattle.terms.proofs.Cells.{next_cells}
use Rattle.terms.specs.RowAt.{entry, tree_row, row_at}
use Rattle.terms.proofs.Entries.{entry_front, entry_behind}

-- The term u is stored as row k of the rows of f, the first of which is n; its own first row is `first`.
pub record Row {A : Type 0} (n : ℕ) (f : Forest A) (k : ℕ) (u : Tree A) : Type 0 where
  pub index : ℕ
  pub first : ℕ
  pub number : k ≡ n + index
  pub cell : entry (cells n f) index ≡ some (record { label = u.label; children = roots first u.args })
  pub last : k ≡ next first u.args

module _ {A : Type 0} where
  -- Each place has a row.
  pub row_exists : (p : Place) (n : ℕ) (t u : Tree A) → at p t ≡ some u → (k : ℕ) × (row_at n p t ≡ some k)
  row_exists [] n t u e = (next n t.args, refl)
  row_exists (i ∷ p) n t u e = go (λ v. row_exists p (tree_row n t.args i) v u) (pick t.args i) e
    where
      go : ((v : Tree A) → at p v ≡ some u → (k : ℕ) × (row_at (tree_row n t.args i) p v ≡ some k)) → (o : Option (Tree A)) → then o (at p) ≡ some u
          → (k : ℕ) × (then o (row_at (tree_row n t.args i) p) ≡ some k)
      go ih none e = none_some e
      go ih (some v) e = ih v e

  module _ (l : A) (x r : Forest A) (n k : ℕ) (u : Tree A) where
    widen : Row n x k u → Row n (node l x r) k u
    widen w = record { index = w.index; first = w.first; number = w.number; cell = entry_front (cells n x) _ w.index _ w.cell; last = w.last }

    shift : Row (suc (next n x)) r k u → Row n (node l x r) k u
    shift w = record {
      index = length (cells n x) + suc w.index;
      first = w.first;
      number = omega (arith, w.number, next_cells n x);
      cell = entry_behind (cells n x) (record { label = l; children = roots n x } ∷ cells (suc (next n x)) r) (suc w.index) ∙ w.cell;
      last = w.last;
    }

  here : (l : A) (x r : Forest A) (n : ℕ) → Row n (node l x r) (next n x) (record { label = l; args = x })
  here l x r n = record {
    index = length (cells n x) + 0;
    first = n;
    number = omega (arith, next_cells n x);
    cell = entry_behind (cells n x) (record { label = l; children = roots n x } ∷ cells (suc (next n x)) r) 0;
    last = refl;
  }

  -- At the row of a place stands the term of that place.
  pub place_row : (f : Forest A) (n i : ℕ) (p : Place) (t u : Tree A) (k : ℕ) → pick f i ≡ some t → at p t ≡ some u → row_at (tree_row n f i) p t ≡ some k → Row n f k u
  place_row nil n i p t u k a b c = none_some a
  place_row (node l x r) n zero [] t u k a b c =
      subst (Row n (node l x r) k) (some_inj a ∙ some_inj b)
      (subst (λ (m : ℕ). Row n (node l x r) m (record { label = l; args = x })) (ap (λ (y : Tree A). next n y.args) (some_inj a) ∙ some_inj c) (here l x r n))
  place_row (node l x r) n zero (j ∷ p) t u k a b c =
      go (λ v. place_row x n j p v u k) (pick x j) refl
      (subst (λ (y : Tree A). at (j ∷ p) y ≡ some u) (sym (some_inj a)) b)
      (subst (λ (y : Tree A). row_at n (j ∷ p) y ≡ some k) (sym (some_inj a)) c)
    where
      go : ((v : Tree A) → pick x j ≡ some v → at p v ≡ some u → row_at (tree_row n x j) p v ≡ some k → Row n x k u) → (o : Option (Tree A)) → pick x j ≡ o
          → then o (at p) ≡ some u → then o (row_at (tree_row n x j) p) ≡ some k → Row n (node l x r) k u
      go ih none e b c = none_some b
      go ih (some v) e b c = widen l x r n k u (ih v e b c)
  place_row (node l x r) n (suc i) p t u k a b c = shift l x r n k u (place_row r (suc (next n x)) i p t u k a b c)
