-- Rows with names: a row determines its term and its children, and the rows determine the trees.
use mathlib.Core.Path.{◌≡◌, refl, sym, ap, ◌∙◌}
use mathlib.Core.List.{List, [], ◌∷◌, ◌++◌, map, head-eq_of_cons-eq, tail-eq_of_cons-eq}
use Prim.Native.Nat.{ℕ, zero, suc, ◌≤◌}
use native.Mathlib.Omega.{arith}
use native.Mathlib.Nat.{suc_inj}
use lib.ListN.{length}
use Rattle.terms.specs.Forms.{arity_of}
use Rattle.terms.specs.Tree.{Forest, nil, node, Cell, next, roots, cells, count}
use Rattle.terms.specs.Rows.{pad}
use Rattle.terms.specs.Content.{RowContent}
use Rattle.terms.proofs.FormTable.{arity_small}
use Rattle.terms.proofs.Cells.{length_roots, cells_inj}
use Rattle.terms.proofs.NamedCore.{NamedCore, form, local, earlier, unresolved}

pub pad_inj : (n : ℕ) (l m : List ℕ) → length l ≡ length m → length l ≤ n → pad n l ≡ pad n m → l ≡ m
pad_inj n [] [] e k h = refl
pad_inj n [] (y ∷ m) e k h = absurd (omega arith)
pad_inj n (x ∷ l) [] e k h = absurd (omega arith)
pad_inj zero (x ∷ l) (y ∷ m) e k h = absurd (omega arith)
pad_inj (suc n) (x ∷ l) (y ∷ m) e k h =
    let w = pad_inj n l m (suc_inj e) (omega arith) (tail-eq_of_cons-eq h) in
    λ i. head-eq_of_cons-eq h i ∷ w i

-- What counts of the row of a term.
abbrev pub row_of : NamedCore → List ℕ → RowContent
row_of (form k d) l = record { kind = k; digits = d; fields = pad 6 l }
row_of (local i) l = record { kind = 1; digits = []; fields = pad 6 (i ∷ []) }
row_of (earlier i) l = record { kind = 2; digits = []; fields = pad 6 (i ∷ []) }
row_of unresolved l = record { kind = 0; digits = []; fields = pad 6 [] }

abbrev pub row : Cell NamedCore → RowContent
row c = row_of c.label c.children

-- A term that has as many arguments as its kind wants.
abbrev pub Fits : NamedCore → ℕ → Type 0
Fits (form k d) n = (3 ≤ k) × (n ≡ arity_of k)
Fits (local i) n = n ≡ 0
Fits (earlier i) n = n ≡ 0
Fits unresolved n = ⊥

pub no_children : (l : List ℕ) → length l ≡ 0 → l ≡ []
no_children [] e = refl
no_children (x ∷ l) e = absurd (omega arith)

row_inj : (h k : NamedCore) (l m : List ℕ) → Fits h (length l) → Fits k (length m) → row_of h l ≡ row_of k m → (h ≡ k) × (l ≡ m)
row_inj (form j d) (form k e) l m f g q =
    let r : j ≡ k = ap (λ (r : RowContent). r.kind) q in
    let s : d ≡ e = ap (λ (r : RowContent). r.digits) q in
    (λ i. form (r i) (s i), pad_inj 6 l m (f.1 ∙ ap arity_of r ∙ sym g.1) (omega (arith, f.1, arity_small j)) (ap (λ (r : RowContent). r.fields) q))
row_inj (form j d) (local i) l m f g q = absurd (omega (arith, ap (λ (r : RowContent). r.kind) q))
row_inj (form j d) (earlier i) l m f g q = absurd (omega (arith, ap (λ (r : RowContent). r.kind) q))
row_inj (form j d) unresolved l m f g q = absurd g
row_inj (local i) (form k e) l m f g q = absurd (omega (arith, ap (λ (r : RowContent). r.kind) q))
row_inj (local i) (local j) l m f g q = (ap local (head-eq_of_cons-eq (ap (λ (r : RowContent). r.fields) q)), no_children l f ∙ sym (no_children m g))
row_inj (local i) (earlier j) l m f g q = absurd (omega (arith, ap (λ (r : RowContent). r.kind) q))
row_inj (local i) unresolved l m f g q = absurd g
row_inj (earlier i) (form k e) l m f g q = absurd (omega (arith, ap (λ (r : RowContent). r.kind) q))
row_inj (earlier i) (local j) l m f g q = absurd (omega (arith, ap (λ (r : RowContent). r.kind) q))
row_inj (earlier i) (earlier j) l m f g q = (ap earlier (head-eq_of_cons-eq (ap (λ (r : RowContent). r.fields) q)), no_children l f ∙ sym (no_children m g))
row_inj (earlier i) unresolved l m f g q = absurd g
row_inj unresolved k l m f g q = absurd f

abbrev pub AllFit : Forest NamedCore → Type 0
AllFit nil = Unit {0}
AllFit (node h a r) = Fits h (count a) × AllFit a × AllFit r

abbrev pub CellsFit : List (Cell NamedCore) → Type 0
CellsFit [] = Unit {0}
CellsFit (c ∷ l) = Fits c.label (length c.children) × CellsFit l

cells_fit_append : (l m : List (Cell NamedCore)) → CellsFit l → CellsFit m → CellsFit (l ++ m)
cells_fit_append [] m h k = k
cells_fit_append (c ∷ l) m h k = (h.0, cells_fit_append l m h.1 k)

pub cells_fit : (n : ℕ) (f : Forest NamedCore) → AllFit f → CellsFit (cells n f)
cells_fit n nil h = tt
cells_fit n (node j a r) h =
    cells_fit_append (cells n a) _ (cells_fit n a h.1) (rw (length_roots n a) h.0, cells_fit (suc (next n a)) r h.2)

rows_inj : (l m : List (Cell NamedCore)) → CellsFit l → CellsFit m → map row l ≡ map row m → l ≡ m
rows_inj [] [] f g h = refl
rows_inj [] (d ∷ m) f g h = absurd (let z : ◌≡◌ {A = ℕ} 0 1 = cc in omega arith)
rows_inj (c ∷ l) [] f g h = absurd (let z : ◌≡◌ {A = ℕ} 0 1 = cc in omega arith)
rows_inj (c ∷ l) (d ∷ m) f g h =
    let w = row_inj c.label d.label c.children d.children f.0 g.0 (head-eq_of_cons-eq h) in
    let v = rows_inj l m f.1 g.1 (tail-eq_of_cons-eq h) in
    λ i. record { label = w.0 i; children = w.1 i } ∷ v i

-- The rows of some terms from row n on.
abbrev pub rows : ℕ → Forest NamedCore → List RowContent
rows n f = map row (cells n f)

pub terms_inj : (n : ℕ) (f g : Forest NamedCore) → AllFit f → AllFit g → roots n f ≡ roots n g → rows n f ≡ rows n g → f ≡ g
terms_inj n f g a b e h = cells_inj n f g e (rows_inj (cells n f) (cells n g) (cells_fit n f a) (cells_fit n g b) h)
