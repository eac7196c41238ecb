-- The rows of a declaration, and those of them that count further on, are ranges of the core rows.
use mathlib.Core.Path.{◌≡◌, refl, sym, ap, ◌∙◌, subst}
use mathlib.Core.Bool.{Bool, true, false, cond}
use mathlib.Core.List.{List, [], ◌∷◌, ◌++◌, map, map-append, append_assoc, append-nil}
use Prim.Native.Nat.{ℕ, zero, suc, ◌+◌, ◌-◌, ◌<◌, ◌≤◌}
use native.Mathlib.Omega.{arith}
use lib.Dec.{eqb}
use lib.ListN.{length, get_or, take, drop, length-append, length-map}
use lib.Seq.{slice, slice-cons, slice_empty, take_at, take-append-add, drop-append-add}
use Rattle.terms.specs.Tree.{Forest, nil, node, Cell, next, roots, cells}
use Rattle.terms.specs.Resolution.{Resolved, CoreDeclaration}
use Rattle.terms.specs.Rows.{core_row, core_rows}
use Rattle.terms.proofs.Cells.{next_cells}
use Rattle.dependence.specs.Depends.{NumberedRow, numbered_rows, type_of, body_of, type_rows, body_rows, kind_at, transparent}
use Rattle.dependence.specs.First.{own_rows, counted_rows}
use Rattle.dependence.proofs.Numbered.{number_from, consecutive, type_then_body, tree_rows, own_trees}

-- Of a module whose first row is n: the first row of declaration i, the row behind its rows, and the row behind those that count.
abbrev pub first_of : ℕ → List CoreDeclaration → ℕ → ℕ
first_of n [] i = n
first_of n (d ∷ l) zero = n
first_of n (d ∷ l) (suc i) = first_of (next n d.trees) l i

abbrev pub behind_of : ℕ → List CoreDeclaration → ℕ → ℕ
behind_of n [] i = n
behind_of n (d ∷ l) zero = next n d.trees
behind_of n (d ∷ l) (suc i) = behind_of (next n d.trees) l i

-- The trees that count: all of a transparent declaration's, and the type of any other.
abbrev counted_of : CoreDeclaration → Forest Resolved
counted_of d = cond (eqb d.kind transparent) d.trees (type_of d.trees)

abbrev pub counted_behind : ℕ → List CoreDeclaration → ℕ → ℕ
counted_behind n [] k = n
counted_behind n (d ∷ l) zero = next n (counted_of d)
counted_behind n (d ∷ l) (suc k) = counted_behind (next n d.trees) l k

-- The rows of some trees.
module _ (n : ℕ) (f : Forest Resolved) where
  abbrev rows_of : List (List ℕ)
  rows_of = map core_row (cells n f)

  rows_length : length rows_of ≡ next n f - n
  rows_length = omega (arith, next_cells n f, length-map (cells n f) core_row)

-- The rows of a type come first among those of its declaration.
type_first : (n : ℕ) (f : Forest Resolved) → (r : List (List ℕ)) × (rows_of n f ≡ rows_of n (type_of f) ++ r)
type_first n nil = ([], refl)
type_first n (node l a r) =
    let c : Cell Resolved = record { label = l; children = roots n a } in
    let x = map core_row (cells n a) in
    let y = map core_row (cells (suc (next n a)) r) in (
      y,
      map-append core_row (cells n a) (c ∷ cells (suc (next n a)) r)
          ∙ sym (ap (λ (t : List (List ℕ)). t ++ y) (map-append core_row (cells n a) (c ∷ [])) ∙ append_assoc x (core_row c ∷ []) y),
    )

counted_first : (n : ℕ) (f : Forest Resolved) (b : Bool) → (r : List (List ℕ)) × (rows_of n f ≡ rows_of n (cond b f (type_of f)) ++ r)
counted_first n f true = ([], sym (append-nil (rows_of n f)))
counted_first n f false = type_first n f

-- Rows of a beginning, numbered.
beginning : (n : ℕ) (f : Forest Resolved) (r : List (List ℕ)) → numbered_rows n f ≡ number_from n (slice (n - n) (next n f - n) (rows_of n f ++ r))
beginning n f r =
    let e : n - n ≡ 0 = omega arith in
    consecutive n f
    ∙ ap (number_from n) (sym (ap (λ (k : ℕ). slice k (next n f - n) (rows_of n f ++ r)) e ∙ take_at (rows_of n f) r (next n f - n) (rows_length n f)))

-- A range behind a first declaration's rows.
behind_slice : (o r : List (List ℕ)) (n k a b : ℕ) → length o ≡ k - n → n ≤ k → k ≤ a → a ≤ b → slice (a - n) (b - n) (o ++ r) ≡ slice (a - k) (b - k) r
behind_slice o r n k a b e h g f =
    let x : b - n ≡ length o + (b - k) = omega (arith, e) in
    let y : a - n ≡ length o + (a - k) = omega (arith, e) in
    (λ i. drop (y i) (take (x i) (o ++ r))) ∙ ap (drop (length o + (a - k))) (take-append-add o r (b - k)) ∙ drop-append-add o (take (b - k) r) (a - k)

first_later : (n : ℕ) (m : List CoreDeclaration) (i : ℕ) → n ≤ first_of n m i
first_later n [] i = omega arith
first_later n (d ∷ l) zero = omega arith
first_later n (d ∷ l) (suc i) = omega (arith, first_later (next n d.trees) l i, next_cells n d.trees)

pub first_of_zero : (n : ℕ) (m : List CoreDeclaration) → first_of n m zero ≡ n
first_of_zero n [] = refl
first_of_zero n (d ∷ l) = refl

-- Each declaration's first row is the row behind the one before it.
pub first_is_behind : (n : ℕ) (m : List CoreDeclaration) (i : ℕ) → suc i < length m → first_of n m (suc i) ≡ behind_of n m i
first_is_behind n [] i h = absurd (omega arith)
first_is_behind n (d ∷ []) zero h = absurd (omega arith)
first_is_behind n (d ∷ e ∷ l) zero h = refl
first_is_behind n (d ∷ l) (suc i) h = first_is_behind (next n d.trees) l i (omega arith)

pub first_counted : (n : ℕ) (m : List CoreDeclaration) (i : ℕ) → first_of n m i ≤ counted_behind n m i
first_counted n [] i = omega arith
first_counted n (d ∷ l) zero = omega (arith, next_cells n (counted_of d))
first_counted n (d ∷ l) (suc i) = first_counted (next n d.trees) l i

counted_before : (n : ℕ) (f : Forest Resolved) (b : Bool) → next n (cond b f (type_of f)) ≤ next n f
counted_before n f true = omega arith
counted_before n nil false = omega arith
counted_before n (node l a r) false = omega (arith, next_cells (suc (next n a)) r)

pub counted_inside : (n : ℕ) (m : List CoreDeclaration) (i : ℕ) → counted_behind n m i ≤ behind_of n m i
counted_inside n [] i = omega arith
counted_inside n (d ∷ l) zero = counted_before n d.trees (eqb d.kind transparent)
counted_inside n (d ∷ l) (suc i) = counted_inside (next n d.trees) l i

pub behind_inside : (n : ℕ) (m : List CoreDeclaration) (i : ℕ) → behind_of n m i ≤ n + length (core_rows n m)
behind_inside n [] i = omega arith
behind_inside n (d ∷ l) zero =
    omega (arith, next_cells n d.trees, length-append (rows_of n d.trees) (core_rows (next n d.trees) l), length-map (cells n d.trees) core_row)
behind_inside n (d ∷ l) (suc i) =
    omega (arith, behind_inside (next n d.trees) l i, next_cells n d.trees, length-append (rows_of n d.trees) (core_rows (next n d.trees) l), length-map (cells n d.trees) core_row)

-- All rows of declaration i.
trees_range : (n : ℕ) (m : List CoreDeclaration) (i : ℕ) → tree_rows n m i ≡ number_from (first_of n m i) (slice (first_of n m i - n) (behind_of n m i - n) (core_rows n m))
trees_range n [] i = let e : n - n ≡ 0 = omega arith in ap (λ (k : ℕ). number_from n (slice k k [])) (sym e)
trees_range n (d ∷ l) zero = beginning n d.trees (core_rows (next n d.trees) l)
trees_range n (d ∷ l) (suc i) =
    let k = next n d.trees in
    trees_range k l i
    ∙ ap (number_from (first_of k l i)) (sym (behind_slice (rows_of n d.trees) (core_rows k l) n k (first_of k l i) (behind_of k l i) (rows_length n d.trees)
    (omega (arith, next_cells n d.trees)) (first_later k l i) (omega (arith, first_counted k l i, counted_inside k l i))))

-- Those that count further on.
counted_trees : (n : ℕ) (f : Forest Resolved) (b : Bool)
    → numbered_rows n (type_of f) ++ cond b (numbered_rows (next n (type_of f)) (body_of f)) [] ≡ numbered_rows n (cond b f (type_of f))
counted_trees n f true = sym (type_then_body n f)
counted_trees n f false = append-nil (numbered_rows n (type_of f))

counted_range : (n : ℕ) (m : List CoreDeclaration) (i : ℕ)
    → type_rows n m i ++ cond (eqb (kind_at m i) transparent) (body_rows n m i) [] ≡ number_from (first_of n m i) (slice (first_of n m i - n) (counted_behind n m i - n) (core_rows n m))
counted_range n [] i =
    let e : n - n ≡ 0 = omega arith in
    ap (λ (k : ℕ). number_from n (slice k k [])) (sym e)
counted_range n (d ∷ l) zero =
    let c = counted_of d in
    let w = counted_first n d.trees (eqb d.kind transparent) in
    let r = core_rows (next n d.trees) l in
    counted_trees n d.trees (eqb d.kind transparent) ∙ beginning n c (w.0 ++ r)
    ∙ ap (λ (t : List (List ℕ)). number_from n (slice (n - n) (next n c - n) t)) (sym (ap (λ (t : List (List ℕ)). t ++ r) w.1 ∙ append_assoc (rows_of n c) w.0 r))
counted_range n (d ∷ l) (suc i) =
    let k = next n d.trees in
    counted_range k l i
    ∙ ap (number_from (first_of k l i)) (sym (behind_slice (rows_of n d.trees) (core_rows k l) n k (first_of k l i) (counted_behind k l i) (rows_length n d.trees)
    (omega (arith, next_cells n d.trees)) (first_later k l i) (first_counted k l i)))

-- The rows from k up to `to`, numbered.
abbrev pub range : List (List ℕ) → ℕ → ℕ → List NumberedRow
range rows to k = number_from k (slice k to rows)

from_nought : (rows : List (List ℕ)) (a b : ℕ) → number_from a (slice (a - 0) (b - 0) rows) ≡ range rows b a
from_nought rows a b =
    let e : a - 0 ≡ a = omega arith in
    let f : b - 0 ≡ b = omega arith in
    λ x. number_from a (slice (e x) (f x) rows)

pub own_range : (m : List CoreDeclaration) (i : ℕ) → own_rows m i ≡ range (core_rows 0 m) (behind_of 0 m i) (first_of 0 m i)
own_range m i = own_trees 0 m i ∙ trees_range 0 m i ∙ from_nought (core_rows 0 m) (first_of 0 m i) (behind_of 0 m i)

pub own_counted : (m : List CoreDeclaration) (i : ℕ) → counted_rows m i ≡ range (core_rows 0 m) (counted_behind 0 m i) (first_of 0 m i)
own_counted m i = counted_range 0 m i ∙ from_nought (core_rows 0 m) (first_of 0 m i) (counted_behind 0 m i)

-- Row by row.
module _ (rows : List (List ℕ)) (to k : ℕ) where
  pub range_end : to ≡ k → range rows to k ≡ []
  range_end e = subst (λ (x : ℕ). number_from k (slice k x rows) ≡ []) (sym e) (ap (number_from k) (slice_empty k rows))

  pub range_next : k < to → to ≤ length rows → range rows to k ≡ record { number = k; words = get_or rows k [] } ∷ range rows to (suc k)
  range_next h g = ap (number_from k) (slice-cons k to rows [] h g)
