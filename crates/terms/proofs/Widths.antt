-- Rows have eight words and records five, and how many there are.
use mathlib.Core.Path.{◌≡◌, refl, sym, ap, ◌∙◌}
use mathlib.Core.List.{List, [], ◌∷◌, ◌++◌, map}
use mathlib.Core.Bool.{Bool, cond}
use Prim.Native.Nat.{ℕ, suc, ◌+◌, ◌≤◌}
use native.Mathlib.Omega.{arith}
use lib.ListN.{length, length-append, length-map}
use Rattle.terms.specs.Forms.{holds_span}
use Rattle.terms.specs.Tree.{Cell, cells, next, roots}
use Rattle.terms.specs.Label.{Name, Label, Declaration, trees, declared_name}
use Rattle.terms.specs.Resolution.{Core, resolve_declaration, CoreDeclaration, resolve_module}
use Rattle.terms.specs.Rows.{span, row_holding, rows_by, surface_row, surface_rows, core_kind, core_fields, core_words, core_row, core_rows, declaration_records}
use Rattle.terms.proofs.Cells.{next_cells}
use Rattle.terms.proofs.Spans.{resolve_next}
use Rattle.terms.proofs.Tables.{length_pad, Wide, wide_append}
use Rattle.terms.proofs.RowFields.{length_row}

pub length_core_words : (l : Label) (c : Core) (k : List ℕ) → length (core_words l c k) ≡ 8
length_core_words l c k = length_row (core_kind l c) (core_fields l c k) _

pub length_row_holding : (holds : ℕ → Bool) (c : Cell Label) → length (row_holding holds c) ≡ 8
length_row_holding holds c = length_row c.label.kind (cond (holds c.label.kind) (span c.label) [] ++ c.children) c.label.offset

pub wide_map : {A : Type 0} (f : A → List ℕ) (w : ℕ) → ((a : A) → length (f a) ≡ w) → (l : List A) → Wide w (map f l)
wide_map f w h [] = tt
wide_map f w h (a ∷ l) = (h a, wide_map f w h l)

pub wide_core : (n : ℕ) (l : List CoreDeclaration) → Wide 8 (core_rows n l)
wide_core n [] = tt
wide_core n (d ∷ l) =
    wide_append 8 (map core_row (cells n d.trees)) _
    (wide_map core_row 8 (λ c. length_core_words c.label.label c.label.core c.children) (cells n d.trees))
    (wide_core (next n d.trees) l)

pub wide_rows : (holds : ℕ → Bool) (n : ℕ) (l : List Declaration) → Wide 8 (rows_by (row_holding holds) n l)
wide_rows holds n [] = tt
wide_rows holds n (d ∷ l) =
    let r = row_holding holds in
    wide_append 8 (map r (cells n (trees d))) _ (wide_map r 8 (length_row_holding holds) (cells n (trees d))) (wide_rows holds (next n (trees d)) l)

pub wide_surface : (n : ℕ) (l : List Declaration) → Wide 8 (surface_rows n l)
wide_surface = wide_rows holds_span

pub wide_records : (n : ℕ) (l : List CoreDeclaration) → Wide 5 (declaration_records n l)
wide_records n [] = tt
wide_records n (d ∷ l) = (ap suc (ap suc (ap suc (length_pad 2 (roots n d.trees)))), wide_records (next n d.trees) l)

-- The number of the row behind those of some declarations, whose first row is n.
abbrev pub total : ℕ → List Declaration → ℕ
total n [] = n
total n (d ∷ l) = total (next n (trees d)) l

pub total_grows : (n : ℕ) (ds : List Declaration) → n ≤ total n ds
total_grows n [] = omega arith
total_grows n (d ∷ l) = omega (arith, total_grows (next n (trees d)) l, next_cells n (trees d))

pub total_rows : (r : Cell Label → List ℕ) (n : ℕ) (ds : List Declaration) → total n ds ≡ n + length (rows_by r n ds)
total_rows r n [] = omega arith
total_rows r n (d ∷ l) =
    let f = trees d in
    omega (arith, total_rows r (next n f) l, next_cells n f, length-append (map r (cells n f)) (rows_by r (next n f) l), length-map (cells n f) r)

pub total_surface : (n : ℕ) (ds : List Declaration) → total n ds ≡ n + length (surface_rows n ds)
total_surface = total_rows surface_row

pub total_core : (s : List ℕ) (g : List Name) (n : ℕ) (ds : List Declaration) → total n ds ≡ n + length (core_rows n (resolve_module s g ds))
total_core s g n [] = omega arith
total_core s g n (d ∷ l) =
    let f = resolve_declaration s g d in
    let h = g ++ (declared_name s d ∷ []) in
    let t : total (next n (trees d)) l ≡ next n f + length (core_rows (next n f) (resolve_module s h l)) =
    ap (λ (m : ℕ). total m l) (sym (resolve_next s (λ i. []) g n (trees d))) ∙ total_core s h (next n f) l in
    omega (arith, t, next_cells n f, length-append (map core_row (cells n f)) (core_rows (next n f) (resolve_module s h l)), length-map (cells n f) core_row)

pub count_records : (s : List ℕ) (g : List Name) (n : ℕ) (ds : List Declaration) → length (declaration_records n (resolve_module s g ds)) ≡ length ds
count_records s g n [] = refl
count_records s g n (d ∷ l) = ap suc (count_records s (g ++ (declared_name s d ∷ [])) (next n (resolve_declaration s g d)) l)
