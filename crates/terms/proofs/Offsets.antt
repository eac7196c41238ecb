-- The eighth words of a module's rows are the offsets of its terms, in both tables.
use mathlib.Core.Path.{◌≡◌, refl, ap, ◌∙◌}
use mathlib.Core.List.{List, [], ◌∷◌, ◌++◌, map, map-append}
use mathlib.Core.Bool.{cond}
use Prim.Native.Nat.{ℕ, suc}
use Rattle.terms.specs.Forms.{holds_span}
use Rattle.terms.specs.Tree.{Forest, nil, node, Cell, cells, next, roots}
use Rattle.terms.specs.Label.{Name, Label, Declaration, trees, declared_name}
use Rattle.terms.specs.Resolution.{Resolved, resolve_declaration, resolve_module}
use Rattle.terms.specs.Rows.{span, surface_row, surface_rows, core_kind, core_fields, core_row, core_rows}
use Rattle.terms.specs.Offsets.{eighth_word, term_offsets, offsets_of}
use Rattle.terms.proofs.Cells.{recell}
use Rattle.terms.proofs.RowFields.{row_offset}
use Rattle.terms.proofs.Spans.{resolve_cells}

abbrev offset : Cell Label → ℕ
offset c = c.label.offset

surface_eighths : (l : List (Cell Label)) → map eighth_word (map surface_row l) ≡ map offset l
surface_eighths [] = refl
surface_eighths (c ∷ l) =
    let e = row_offset c.label.kind (cond (holds_span c.label.kind) (span c.label) [] ++ c.children) c.label.offset in
    λ i. e i ∷ surface_eighths l i

core_eighths : (l : List (Cell Resolved)) → map eighth_word (map core_row l) ≡ map offset (map (recell (λ r. r.label)) l)
core_eighths [] = refl
core_eighths (c ∷ l) =
    let t = c.label in
    let e = row_offset (core_kind t.label t.core) (core_fields t.label t.core c.children) t.label.offset in
    λ i. e i ∷ core_eighths l i

cell_offsets : (n : ℕ) (f : Forest Label) → map offset (cells n f) ≡ term_offsets f
cell_offsets n nil = refl
cell_offsets n (node l a r) =
    map-append offset (cells n a) (record { label = l; children = roots n a } ∷ cells (suc (next n a)) r)
    ∙ (λ i. cell_offsets n a i ++ (l.offset ∷ cell_offsets (suc (next n a)) r i))

pub surface_offsets : (n : ℕ) (ds : List Declaration) → map eighth_word (surface_rows n ds) ≡ offsets_of ds
surface_offsets n [] = refl
surface_offsets n (d ∷ l) =
    let m = cells n (trees d) in
    map-append eighth_word (map surface_row m) (surface_rows (next n (trees d)) l)
    ∙ (λ i. (surface_eighths m ∙ cell_offsets n (trees d)) i ++ surface_offsets (next n (trees d)) l i)

pub core_offsets : (s : List ℕ) (g : List Name) (n : ℕ) (ds : List Declaration) → map eighth_word (core_rows n (resolve_module s g ds)) ≡ offsets_of ds
core_offsets s g n [] = refl
core_offsets s g n (d ∷ l) =
    let f = resolve_declaration s g d in
    let own = core_eighths (cells n f) ∙ ap (map offset) (resolve_cells s (λ i. []) g n (trees d)) ∙ cell_offsets n (trees d) in
    map-append eighth_word (map core_row (cells n f)) (core_rows (next n f) (resolve_module s (g ++ (declared_name s d ∷ [])) l))
    ∙ (λ i. own i ++ core_offsets s (g ++ (declared_name s d ∷ [])) (next n f) l i)
