-- The rows of trees: how many there are, and that they determine the trees.
use mathlib.Core.Path.{◌≡◌, refl, sym, ap, ◌∙◌}
use mathlib.Core.List.{List, [], ◌∷◌, ◌++◌, map, map-append, head-eq_of_cons-eq, tail-eq_of_cons-eq}
use Prim.Native.Nat.{ℕ, suc, ◌+◌}
use native.Mathlib.Omega.{arith}
use native.Mathlib.Nat.{suc_inj}
use lib.ListN.{length, length-append}
use Rattle.terms.specs.Tree.{count, Forest, nil, node, Cell, next, roots, cells, relabel}

pub split : {A : Type 0} (s t u v : List A) → length s ≡ length t → s ++ u ≡ t ++ v → (s ≡ t) × (u ≡ v)
split [] [] u v l e = (refl, e)
split [] (y ∷ t) u v l e = absurd (omega arith)
split (x ∷ s) [] u v l e = absurd (omega arith)
split {A} (x ∷ s) (y ∷ t) u v l e =
    let w = split s t u v (suc_inj l) (tail-eq_of_cons-eq e) in
    (λ i. head-eq_of_cons-eq e i ∷ w.0 i, w.1)

module _ {A : Type 0} where
  pub next_cells : (n : ℕ) (f : Forest A) → next n f ≡ n + length (cells n f)
  next_cells n nil = omega arith
  next_cells n (node h a r) = omega (arith, next_cells n a, next_cells (suc (next n a)) r, length-append (cells n a) (record { label = h; children = roots n a } ∷ cells (suc (next n a)) r))

  pub cells_inj : (n : ℕ) (f g : Forest A) → roots n f ≡ roots n g → cells n f ≡ cells n g → f ≡ g
  cells_inj n nil nil e h = refl
  cells_inj n nil (node k b s) e h = absurd (let z : ◌≡◌ {A = ℕ} 0 1 = cc in omega arith)
  cells_inj n (node j a r) nil e h = absurd (let z : ◌≡◌ {A = ℕ} 0 1 = cc in omega arith)
  cells_inj n (node j a r) (node k b s) e h =
      let at : next n a ≡ next n b = head-eq_of_cons-eq e in
      let w = split (cells n a) (cells n b) _ _ (omega (arith, next_cells n a, next_cells n b)) h in
      let x : j ≡ k = ap (λ (c : Cell A). c.label) (head-eq_of_cons-eq w.1) in
      let y = cells_inj n a b (ap (λ (c : Cell A). c.children) (head-eq_of_cons-eq w.1)) w.0 in
      let z = cells_inj (suc (next n a)) r s (cc) (tail-eq_of_cons-eq w.1 ∙ ap (λ m. cells (suc m) s) (sym at)) in
      λ i. node (x i) (y i) (z i)

  -- Equal rows of the terms themselves: as many rows in all.
  pub next_roots : (n m : ℕ) (f g : Forest A) → n ≡ m → roots n f ≡ roots m g → next n f ≡ next m g
  next_roots n m nil nil e h = e
  next_roots n m nil (node k b s) e h = absurd (let z : ◌≡◌ {A = ℕ} 0 1 = cc in omega arith)
  next_roots n m (node j a r) nil e h = absurd (let z : ◌≡◌ {A = ℕ} 0 1 = cc in omega arith)
  next_roots n m (node j a r) (node k b s) e h = next_roots (suc (next n a)) (suc (next m b)) r s (ap suc (head-eq_of_cons-eq h)) (tail-eq_of_cons-eq h)

  pub length_roots : (n : ℕ) (f : Forest A) → length (roots n f) ≡ count f
  length_roots n nil = refl
  length_roots n (node h a r) = ap suc (length_roots (suc (next n a)) r)

-- Other labels, the same rows otherwise.
abbrev pub recell : {A B : Type 0} → (A → B) → Cell A → Cell B
recell f c = record { label = f c.label; children = c.children }

pub count_relabel : {A B : Type 0} (h : A → B) (f : Forest A) → count (relabel h f) ≡ count f
count_relabel h nil = refl
count_relabel h (node l a r) = ap suc (count_relabel h r)

module _ {A B : Type 0} (f : A → B) where
  pub next_relabel : (n : ℕ) (t : Forest A) → next n (relabel f t) ≡ next n t
  next_relabel n nil = refl
  next_relabel n (node l a r) = next_relabel (suc (next n (relabel f a))) r ∙ ap (λ m. next (suc m) r) (next_relabel n a)

  pub roots_relabel : (n : ℕ) (t : Forest A) → roots n (relabel f t) ≡ roots n t
  roots_relabel n nil = refl
  roots_relabel n (node l a r) =
      let e = next_relabel n a in
      let w = roots_relabel (suc (next n (relabel f a))) r ∙ ap (λ m. roots (suc m) r) e in
      λ i. e i ∷ w i

  pub cells_relabel : (n : ℕ) (t : Forest A) → cells n (relabel f t) ≡ map (recell f) (cells n t)
  cells_relabel n nil = refl
  cells_relabel n (node l a r) =
      let x = cells_relabel n a in
      let y = roots_relabel n a in
      let z = cells_relabel (suc (next n (relabel f a))) r ∙ ap (λ m. map (recell f) (cells (suc m) r)) (next_relabel n a) in
      (λ i. x i ++ (record { label = f l; children = y i } ∷ z i)) ∙ sym (map-append (recell f) (cells n a) (record { label = l; children = roots n a } ∷ cells (suc (next n a)) r))
