-- The first declarations of a module with names: they are a module, and their rows and records come first.
use Prim.Native.Nat.{ℕ, zero, suc, ◌+◌, ◌≤◌, ◌<◌, max}
use mathlib.Core.Path.{◌≡◌, refl, sym, ap, ◌∙◌}
use mathlib.Core.Logic.{ite}
use mathlib.Core.List.{List, [], ◌∷◌, ◌++◌, append_assoc, append-nil}
use mathlib.Core.Bool.{true, and-eq-true_iff}
use native.Mathlib.Decide.{ℕ_discrete}
use native.Mathlib.Omega.{arith}
use lib.ListN.{length, get_or, take, length-append, length-map}
use Rattle.terms.specs.Tree.{Forest, nil, node, next, roots, cells, count}
use Rattle.terms.specs.Label.{Name, NamedDeclaration}
use Rattle.terms.specs.Resolution.{find}
use Rattle.terms.specs.Rows.{pad}
use Rattle.terms.specs.Content.{RowContent, RecordContent}
use Rattle.terms.proofs.Cells.{next_cells}
use Rattle.terms.proofs.NamedCore.{NamedCore, core, known, count_core}
use Rattle.terms.proofs.CoreRows.{row, rows}
use Rattle.terms.proofs.NamedModule.{parts, has, ShapedModule, cores, new, resolves, resolves_cons, rows_of, records_of}

abbrev pub no_record : RecordContent
no_record = record { kind = 0; name = []; rows = [] }

pub take_shaped : (k : ℕ) (l : List NamedDeclaration) → ShapedModule l → ShapedModule (take k l)
take_shaped zero l h = tt
take_shaped (suc k) [] h = tt
take_shaped (suc k) (d ∷ l) h = (h.0, h.1, take_shaped k l h.2)

pub take_resolves : (k : ℕ) (g : List Name) (l : List NamedDeclaration) → resolves g l ≡ true → resolves g (take k l) ≡ true
take_resolves zero g l h = refl
take_resolves (suc k) g [] h = refl
take_resolves (suc k) g (d ∷ l) h =
    let c = resolves_cons g d l h in
    (and-eq-true_iff (new (find d.name g)) _).1 (c.0, (and-eq-true_iff (known (λ i. []) g (parts d)) _).1 (c.1, take_resolves k (g ++ (d.name ∷ [])) l c.2))

-- One record for each declaration, the first ones for the first declarations.
pub length_records : (n : ℕ) (g : List Name) (l : List NamedDeclaration) → length (records_of n (cores g l)) ≡ length l
length_records n g [] = refl
length_records n g (d ∷ l) = ap suc (length_records (next n (core (λ i. []) g (parts d))) (g ++ (d.name ∷ [])) l)

pub records_take : (k n : ℕ) (g : List Name) (l : List NamedDeclaration) → records_of n (cores g (take k l)) ≡ take k (records_of n (cores g l))
records_take zero n g l = refl
records_take (suc k) n g [] = refl
records_take (suc k) n g (d ∷ l) =
    let f = core (λ i. []) g (parts d) in
    ap {B = List RecordContent} (λ r. record { kind = d.kind; name = d.name; rows = pad 2 (roots n f) } ∷ r) (records_take k (next n f) (g ++ (d.name ∷ [])) l)

-- The rows of the first declarations come first.
pub rows_split : (k n : ℕ) (g : List Name) (l : List NamedDeclaration)
    → (rest : List RowContent) × (rows_of n (cores g l) ≡ rows_of n (cores g (take k l)) ++ rest)
rows_split zero n g l = (rows_of n (cores g l), refl)
rows_split (suc k) n g [] = ([], refl)
rows_split (suc k) n g (d ∷ l) =
    let f = core (λ i. []) g (parts d) in
    let w = rows_split k (next n f) (g ++ (d.name ∷ [])) l in
    (w.0, ap (λ (r : List RowContent). rows n f ++ r) w.1 ∙ sym (append_assoc (rows n f) _ w.0))

-- The row behind a record's declaration: its last row is its body's, or its type's.
abbrev pub behind_of : RecordContent → ℕ
behind_of r = max (get_or r.rows 0 0) (get_or r.rows 1 0) + 1

one_or_two : (k : ℕ) → (1 ≤ has k) × (has k ≤ 2)
one_or_two k = go (ℕ_discrete k 1)
  where
    go : (d : Dec (k ≡ 1)) → (1 ≤ ite d 1 2) × (ite d 1 2 ≤ 2)
    go (yes e) = (omega arith, omega arith)
    go (no e) = (omega arith, omega arith)

-- It is the row behind its trees' rows.
behind_next : (n k : ℕ) (f : Forest NamedCore) → count f ≡ has k → max (get_or (pad 2 (roots n f)) 0 0) (get_or (pad 2 (roots n f)) 1 0) + 1 ≡ next n f
behind_next n k nil e = absurd (omega (arith, (one_or_two k).0))
behind_next n k (node h a nil) e = omega arith
behind_next n k (node h a (node i b nil)) e = omega (arith, next_cells (suc (next n a)) b)
behind_next n k (node h a (node i b (node j d r))) e = absurd (omega (arith, (one_or_two k).1))

length_rows : (n : ℕ) (f : Forest NamedCore) → next n f ≡ n + length (rows n f)
length_rows n f = next_cells n f ∙ ap (λ (j : ℕ). n + j) (sym (length-map (cells n f) row))

-- The row behind a declaration is as many rows on as the declarations so far have.
pub behind_rows : (k n : ℕ) (g : List Name) (l : List NamedDeclaration) → ShapedModule l → k < length l
    → behind_of (get_or (records_of n (cores g l)) k no_record) ≡ n + length (rows_of n (cores g (take (suc k) l)))
behind_rows k n g [] w h = absurd (omega arith)
behind_rows zero n g (d ∷ l) w h =
    let f = core (λ i. []) g (parts d) in
    behind_next n d.kind f (count_core (λ i. []) g (parts d) ∙ w.0)
    ∙ length_rows n f
    ∙ ap (λ (r : List RowContent). n + length r) (sym (append-nil (rows n f)))
behind_rows (suc k) n g (d ∷ l) w h =
    let f = core (λ i. []) g (parts d) in
    let t = behind_rows k (next n f) (g ++ (d.name ∷ [])) l w.2 (omega arith) in
    omega (arith, t, length_rows n f, length-append (rows n f) (rows_of (next n f) (cores (g ++ (d.name ∷ [])) (take (suc k) l))))
