-- A declaration's rows stand one behind the other: its type's, then its body's.
use mathlib.Core.Path.{◌≡◌, refl, sym, ap, ◌∙◌}
use mathlib.Core.List.{List, [], ◌∷◌, ◌++◌, map, map-append, append_assoc}
use Prim.Native.Nat.{ℕ, zero, suc, ◌+◌}
use native.Mathlib.Omega.{arith}
use lib.ListN.{length, length-map}
use Rattle.terms.specs.Tree.{Forest, nil, node, Cell, cells, next, roots}
use Rattle.terms.specs.Resolution.{Resolved, CoreDeclaration}
use Rattle.terms.specs.Rows.{core_row}
use Rattle.terms.proofs.Cells.{next_cells}
use Rattle.dependence.specs.Depends.{NumberedRow, numbered_rows, type_of, body_of, type_rows, body_rows}

-- Rows with the numbers from n on.
abbrev pub number_from : ℕ → List (List ℕ) → List NumberedRow
number_from n [] = []
number_from n (w ∷ l) = record { number = n; words = w } ∷ number_from (suc n) l

number_append : (n : ℕ) (l m : List (List ℕ)) → number_from n (l ++ m) ≡ number_from n l ++ number_from (n + length l) m
number_append n [] m = let e : n ≡ n + 0 = omega arith in ap (λ (k : ℕ). number_from k m) e
number_append n (w ∷ l) m =
    let e : suc n + length l ≡ n + suc (length l) = omega arith in
    ap {B = List NumberedRow} (λ x. record { number = n; words = w } ∷ x) (number_append (suc n) l m ∙ ap (λ (k : ℕ). number_from (suc n) l ++ number_from k m) e)

pub consecutive : (n : ℕ) (f : Forest Resolved) → numbered_rows n f ≡ number_from n (map core_row (cells n f))
consecutive n nil = refl
consecutive n (node l a r) =
    let c : Cell Resolved = record { label = l; children = roots n a } in
    let e : n + length (map core_row (cells n a)) ≡ next n a = omega (arith, next_cells n a, length-map (cells n a) core_row) in
    (λ i. consecutive n a i ++ (record { number = next n a; words = core_row c } ∷ consecutive (suc (next n a)) r i))
    ∙ sym (ap (number_from n) (map-append core_row (cells n a) (c ∷ cells (suc (next n a)) r))
    ∙ number_append n (map core_row (cells n a)) (core_row c ∷ map core_row (cells (suc (next n a)) r))
    ∙ ap (λ (k : ℕ). number_from n (map core_row (cells n a)) ++ number_from k (core_row c ∷ map core_row (cells (suc (next n a)) r))) e)

pub type_then_body : (n : ℕ) (f : Forest Resolved) → numbered_rows n f ≡ numbered_rows n (type_of f) ++ numbered_rows (next n (type_of f)) (body_of f)
type_then_body n nil = refl
type_then_body n (node l a r) =
    sym (append_assoc (numbered_rows n a) (record { number = next n a; words = core_row (record { label = l; children = roots n a }) } ∷ []) (numbered_rows (suc (next n a)) r))

-- All rows of declaration i, by its trees.
abbrev pub tree_rows : ℕ → List CoreDeclaration → ℕ → List NumberedRow
tree_rows n [] i = []
tree_rows n (d ∷ l) zero = numbered_rows n d.trees
tree_rows n (d ∷ l) (suc i) = tree_rows (next n d.trees) l i

pub own_trees : (n : ℕ) (m : List CoreDeclaration) (i : ℕ) → type_rows n m i ++ body_rows n m i ≡ tree_rows n m i
own_trees n [] i = refl
own_trees n (d ∷ l) zero = sym (type_then_body n d.trees)
own_trees n (d ∷ l) (suc i) = own_trees (next n d.trees) l i
