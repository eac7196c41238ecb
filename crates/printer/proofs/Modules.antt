-- The core text of a loaded source is what is written from its core table and its declaration list.
use mathlib.Core.Path.{◌≡◌, refl, sym, ap, ◌∙◌, subst}
use mathlib.Core.List.{List, [], ◌∷◌, ◌++◌, map, append_assoc}
use mathlib.Core.Bool.{true}
use Prim.Native.Nat.{ℕ, suc, ◌+◌, ◌-◌, ◌*◌, ◌<◌, ◌≤◌, max}
use native.Mathlib.Omega.{arith}
use native.Mathlib.Nat.{add-zero, zero-add}
use lib.ListN.{length, get_or, length-map}
use Rattle.terms.specs.Tree.{Forest, next, cells, relabel}
use Rattle.terms.specs.Label.{Name, Label, Declaration, trees, Terms, named, declared_name, named_declaration}
use Rattle.terms.specs.Resolution.{Resolved, CoreDeclaration, resolve_declaration, resolve_module}
use Rattle.terms.specs.Rows.{pad, joined, core_row, core_rows, declaration_record, declaration_records}
use Rattle.terms.proofs.Cells.{next_cells}
use Rattle.terms.proofs.CoreRows.{AllFit}
use Rattle.terms.proofs.NamedCore.{known}
use Rattle.terms.proofs.NamedModule.{Shaped, parts, ShapedModule, resolves, resolves_cons, core_fits}
use Rattle.terms.proofs.Spans.{named_core, named_resolve, named_trees, resolve_labels}
use Rattle.terms.proofs.FirstRefused.{none_refused}
use Rattle.terms.proofs.Tables.{getD_pad, Wide, joined_at}
use Rattle.terms.proofs.Widths.{wide_core, wide_records, total_core, total_surface, count_records}
use Rattle.surface.specs.Reader.{Position, start, done}
use Rattle.surface.specs.Tables.{Lengths}
use Rattle.surface.specs.Loading.{loading, outcome}
use Rattle.surface.proofs.Acceptance.{is_read, is_loaded}
use Rattle.surface.proofs.Frames.{frames_of, deepest}
use Rattle.surface.proofs.Shaped.{shaped}
use Rattle.rows.specs.DeclarationRows.{row_behind, first_row}
use Rattle.dependence.proofs.Records.{last_in_record}
use Rattle.printing.specs.Printing.{print_terms, print_declarations, text_head, print_module, spell, spelled_core, print_text}
use Rattle.printing.specs.PrintCall.{text_of}
use Rattle.printer.specs.inner.Machine.{machine, declaration_start, start_at, aside, step_row, step_declaration, down, whole}
use Rattle.printer.proofs.Forests.{labels, prints_terms}
use Rattle.printer.proofs.Views.{down_first, View, view_of, view_left, view_right, run_spelled, spells_terms, count_labels}

module _ (s core records : List ℕ) (limit : ℕ) where
  -- The rows of terms that stand from row n on.
  rows_printed : (n : ℕ) (f : Forest Resolved) (t : List ℕ) → View 8 core n (map core_row (cells n f)) → AllFit (relabel (named_core s) f)
      → frames_of (relabel (λ r. r.label) f) ≤ limit
      → down (step_row s core limit) n (next n f - n) (machine [] t) ≡ machine [] (print_terms (relabel (spell s) f) ++ t)
  rows_printed n f t v h d =
      ap (λ (k : ℕ). down (step_row s core limit) n k (machine [] t)) (sym (count_labels s n f))
      ∙ run_spelled s core limit n (labels (relabel (spell s) f)) (machine [] t) (spells_terms s core n f v h)
      ∙ prints_terms s limit f t h d

  -- One declaration: its rows begin at row n, and its record is number i.
  module _ (i n : ℕ) (d : CoreDeclaration) (record-words : (j : ℕ) → j < 5 → get_or records (i * 5 + j) 0 ≡ get_or (declaration_record n d) j 0) where
    start_is : start_at s records i ≡ declaration_start s d.kind d.start d.length
    unfolding start_at
    start_is =
        let e : get_or records (i * 5) 0 ≡ d.kind = ap (λ (k : ℕ). get_or records k 0) (sym (add-zero (i * 5))) ∙ record-words 0 (omega arith) in
        λ x. declaration_start s (e x) (record-words 1 (omega arith) x) (record-words 2 (omega arith) x)

    declaration_printed : (t : List ℕ) → first_row records i ≡ n → row_behind records i ≡ next n d.trees
        → View 8 core n (map core_row (cells n d.trees)) → AllFit (relabel (named_core s) d.trees) → frames_of (relabel (λ r. r.label) d.trees) ≤ limit
        → step_declaration s core records limit i (machine [] t)
        ≡ machine [] (declaration_start s d.kind d.start d.length ++ (print_terms (relabel (spell s) d.trees) ++ (41 ∷ t)))
    unfolding step_declaration
    declaration_printed t e b v h g =
        (λ x. aside (start_is x) (down (step_row s core limit) (e x) (b x - e x) (machine [] (41 ∷ t))))
        ∙ ap (aside (declaration_start s d.kind d.start d.length)) (rows_printed n d.trees (41 ∷ t) v h g)

  text_one : (d : CoreDeclaration) (l : List CoreDeclaration) (t : List ℕ)
      → declaration_start s d.kind d.start d.length ++ (print_terms (relabel (spell s) d.trees) ++ (41 ∷ (print_declarations (map (spelled_core s) l) ++ t)))
      ≡ print_declarations (map (spelled_core s) (d ∷ l)) ++ t
  unfolding declaration_start print_declarations
  text_one d l t = simp append_assoc

  -- What the grammar and resolution give of a declaration.
  fits_of : (g : List Name) (c : Declaration) → Shaped (parts (named_declaration s c)) → known (λ i. []) g (parts (named_declaration s c)) ≡ true
      → AllFit (relabel (named_core s) (resolve_declaration s g c))
  fits_of g c h k =
      let p = named_trees s c in
      subst AllFit (sym (named_resolve s (λ i. []) g (trees c)))
      (core_fits (λ i. []) g (relabel (named s) (trees c)) (subst Shaped p h) (subst (λ (f : Terms). known (λ i. []) g f ≡ true) p k))

  frames_within : (g : List Name) (c : Declaration) → frames_of (trees c) ≤ limit → frames_of (relabel (λ r. r.label) (resolve_declaration s g c)) ≤ limit
  frames_within g c h = subst (λ (f : Forest Label). frames_of f ≤ limit) (sym (resolve_labels s (λ i. []) g (trees c))) h

  -- All declarations from number i on.
  declarations_printed : (g : List Name) (i n : ℕ) (ds : List Declaration) (t : List ℕ) → first_row records i ≡ n
      → View 8 core n (core_rows n (resolve_module s g ds)) → View 5 records i (declaration_records n (resolve_module s g ds))
      → ShapedModule (map (named_declaration s) ds) → resolves g (map (named_declaration s) ds) ≡ true → deepest ds ≤ limit
      → down (step_declaration s core records limit) i (length ds) (machine [] t) ≡ machine [] (print_declarations (map (spelled_core s) (resolve_module s g ds)) ++ t)
  unfolding down print_declarations first_row row_behind
  declarations_printed g i n [] t e v w h k d = refl
  declarations_printed g i n (c ∷ l) t e v w h k d =
      let f = resolve_declaration s g c in
      let m : CoreDeclaration = record { kind = c.kind; start = c.start; length = c.length; trees = f } in
      let rest = g ++ (declared_name s c ∷ []) in
      let b : row_behind records i ≡ next n f =
      (λ x. max (w.0 3 (omega arith) x) (w.0 4 (omega arith) x) + 1) ∙ last_in_record s g n (c ∷ l) 0 (omega arith) in
      let own = map core_row (cells n f) in
      let j : next n f ≡ n + length own = omega (arith, next_cells n f, length-map (cells n f) core_row) in
      let r = resolves_cons g (named_declaration s c) (map (named_declaration s) l) k in
      down_first (step_declaration s core records limit) i (length l) (machine [] t)
      ∙ ap (step_declaration s core records limit i)
      (declarations_printed rest (suc i) (next n f) l t b (view_right 8 core n (next n f) own _ j v) w.1 h.2 r.2 (omega (arith, d)))
      ∙ declaration_printed i n m w.0 (print_declarations (map (spelled_core s) (resolve_module s rest l)) ++ t) e b
      (view_left 8 core n own _ v) (fits_of g c h.1 r.1) (frames_within g c (omega (arith, d)))
      ∙ ap (machine []) (text_one m (resolve_module s rest l) t)

table_view : (w n : ℕ) (l : List (List ℕ)) → Wide w l → ((k j : ℕ) → k < length l → j < w → k * w + j < n) → View w (pad n (joined l)) 0 l
table_view w n l h f =
    view_of w (pad n (joined l)) 0 l
    (λ k j a b. ap (λ (x : ℕ). get_or (pad n (joined l)) (x * w + j) 0) (zero-add k) ∙ getD_pad n (joined l) (k * w + j) (f k j a b) ∙ joined_at w l h k j a b)

-- The tables that loading a source leaves.
module _ (s : List ℕ) (z : Lengths) (ds : List Declaration) (q : Position) (e : loading s z start ≡ done ds q) where
  abbrev core : List ℕ
  core = (outcome s z (done ds q)).tables.core

  abbrev records : List ℕ
  records = (outcome s z (done ds q)).tables.declarations

  core_view : View 8 core 0 (core_rows 0 (resolve_module s [] ds))
  core_view =
      let r = is_read s z ds q (is_loaded s z ds q e).read in
      table_view 8 z.core (core_rows 0 (resolve_module s [] ds)) (wide_core 0 (resolve_module s [] ds))
      (λ k j a b. omega (arith, total_core s [] 0 ds, total_surface 0 ds, r.enough.core))

  record_view : View 5 records 0 (declaration_records 0 (resolve_module s [] ds))
  record_view =
      let r = is_read s z ds q (is_loaded s z ds q e).read in
      table_view 5 z.declarations (declaration_records 0 (resolve_module s [] ds)) (wide_records 0 (resolve_module s [] ds))
      (λ k j a b. omega (arith, count_records s [] 0 ds, r.enough.declarations))

  -- What is written from them is the source's core text, and no frame is left.
  pub whole_printed : (limit : ℕ) → 512 ≤ limit → whole s core records limit (length ds) ≡ machine [] (text_of s ds)
  unfolding whole print_text print_module first_row
  whole_printed limit h =
      let r = (is_read s z ds q (is_loaded s z ds q e).read).readable in
      ap (aside text_head)
      (declarations_printed s core records limit [] 0 0 ds (41 ∷ 41 ∷ 10 ∷ []) refl core_view record_view
      (shaped s ds r.derives) (none_refused s [] ds (is_loaded s z ds q e).names) (omega (arith, r.shallow)))
