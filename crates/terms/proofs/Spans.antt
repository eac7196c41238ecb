-- From spans to names: resolution, rows and records of a source are those of its module with names.
use mathlib.Core.Path.{◌≡◌, refl, sym, ap, ◌∙◌, subst}
use mathlib.Core.Logic.{by_cases}
use mathlib.Core.List.{List, [], ◌∷◌, ◌++◌, map, map-append}
use mathlib.Core.Option.{Option, none, some}
use mathlib.Core.Bool.{Bool, true, false, cond}
use Prim.Native.Nat.{ℕ, zero, suc}
use native.Mathlib.Decide.{ℕ_discrete}
use lib.Dec.{eqb}
use borrow.Author.Tests.{eqb-true, eq-eqb, ne_eqb}
use lib.ListN.{length, get_or, take, drop}
use Rattle.terms.specs.Forms.{universe, ref, counts_as, arity_of}
use Rattle.terms.specs.Tree.{Forest, nil, node, Tree, tree, maybe, Cell, cells, next, roots, relabel, relabel_tree}
use Rattle.terms.specs.Label.{Name, part, Label, Declaration, trees, Terms, named, declared_name, named_declaration}
use Rattle.terms.specs.Resolution.{Locals, find, find_local, Core, kept, var, global, unknown, referent, core_of, locals_in, Resolved, resolve, resolve_declaration, resolve_module}
use Rattle.terms.specs.Rows.{pad, row, core_fields, core_words, core_row, core_rows, declaration_records}
use Rattle.terms.specs.Content.{RowContent, row_content, record_content}
use Rattle.terms.proofs.FormTable.{arity_universe}
use Rattle.terms.proofs.Arrow.{counts_same}
use Rattle.terms.proofs.Cells.{recell, next_relabel, roots_relabel, cells_relabel}
use Rattle.terms.proofs.NamedCore.{NamedCore, form, local, earlier, unresolved, found, digits_of, core_at, core_at_ref, core_at_form, core, known}
use Rattle.terms.proofs.CoreRows.{no_children, row_of, row as content-row, rows, Fits, CellsFit, cells_fit}
use Rattle.terms.proofs.RowFields.{six_fields}
use Rattle.terms.proofs.NamedModule.{Shaped, parts, ShapedModule, cores, resolves, resolves_cons, rows_of, records_of, core_fits}

-- What a resolved term is, with its bytes.
abbrev pub bytes_core : List ℕ → Label → Core → NamedCore
bytes_core s l kept = form (counts_as l.kind) (digits_of (named s l))
bytes_core s l (var i) = local i
bytes_core s l (global j) = earlier j
bytes_core s l unknown = unresolved

abbrev pub named_core : List ℕ → Resolved → NamedCore
named_core s r = bytes_core s r.label r.core

pub core_of_ref : (s : List ℕ) (l : Locals) (g : List Name) (m : Label) → m.kind ≡ ref → core_of s l g m ≡ referent (find_local (part s m.start m.length) l) (find (part s m.start m.length) g)
unfolding core_of
core_of_ref s l g m e = rw (eq-eqb m.kind ref e, core_of)

pub core_of_kept : (s : List ℕ) (l : Locals) (g : List Name) (m : Label) → ¬ (m.kind ≡ ref) → core_of s l g m ≡ kept
unfolding core_of
core_of_kept s l g m e = rw (ne_eqb m.kind ref e, core_of)

referent_found : (s : List ℕ) (m : Label) (a b : Option ℕ) → bytes_core s m (referent a b) ≡ found a b
referent_found s m (some i) b = refl
referent_found s m none (some j) = refl
referent_found s m none none = refl

named_core_at : (s : List ℕ) (l : Locals) (g : List Name) (m : Label) → bytes_core s m (core_of s l g m) ≡ core_at l g (named s m)
named_core_at s l g m = by_cases (ℕ_discrete m.kind ref)
    (λ r. ap (bytes_core s m) (core_of_ref s l g m r) ∙ referent_found s m (find_local (part s m.start m.length) l) (find (part s m.start m.length) g) ∙ sym (core_at_ref l g (named s m) r))
    (λ r. ap (bytes_core s m) (core_of_kept s l g m r) ∙ sym (core_at_form l g (named s m) r))

pub named_resolve : (s : List ℕ) (e : ℕ → Locals) (g : List Name) (f : Forest Label) → relabel (named_core s) (resolve s e g f) ≡ core e g (relabel (named s) f)
named_resolve s e g nil = refl
named_resolve s e g (node m a r) =
    let h = named_core_at s (e zero) g m in
    let x = named_resolve s (locals_in s m (e zero)) g a in
    let y = named_resolve s (λ i. e (suc i)) g r in
    λ i. node (h i) (x i) (y i)

-- Core row k has the label and the children of surface row k.
pub resolve_labels : (s : List ℕ) (e : ℕ → Locals) (g : List Name) (f : Forest Label) → relabel (λ r. r.label) (resolve s e g f) ≡ f
resolve_labels s e g nil = refl
resolve_labels s e g (node m a r) =
    let x = resolve_labels s (locals_in s m (e zero)) g a in
    let y = resolve_labels s (λ i. e (suc i)) g r in
    λ i. node m (x i) (y i)

pub resolve_cells : (s : List ℕ) (e : ℕ → Locals) (g : List Name) (n : ℕ) (f : Forest Label) → map (recell (λ r. r.label)) (cells n (resolve s e g f)) ≡ cells n f
resolve_cells s e g n f = sym (cells_relabel (λ r. r.label) n (resolve s e g f)) ∙ ap (cells n) (resolve_labels s e g f)

pub resolve_next : (s : List ℕ) (e : ℕ → Locals) (g : List Name) (n : ℕ) (f : Forest Label) → next n (resolve s e g f) ≡ next n f
resolve_next s e g n f = sym (next_relabel (λ r. r.label) n (resolve s e g f)) ∙ ap (next n) (resolve_labels s e g f)

-- What counts of a row is what counts of the row with names, whatever its offset.
kept_content : (s : List ℕ) (l : Label) (k : List ℕ) (offset : ℕ) → Fits (bytes_core s l kept) (length k)
    → row_content s (row (counts_as l.kind) (core_fields l kept k) offset) ≡ row_of (bytes_core s l kept) k
kept_content s l k offset f = go (eqb l.kind universe) refl
  where
    at : List ℕ → List ℕ → RowContent
    at d w = record { kind = counts_as l.kind; digits = d; fields = w }

    same : eqb (counts_as l.kind) universe ≡ eqb l.kind universe
    same = counts_same (λ (i : ℕ). eqb i universe) refl l.kind

    words : Bool → List ℕ
    words b = pad 6 (cond b (l.start ∷ l.length ∷ []) [] ++ k) ++ (offset ∷ [])

    go : (b : Bool) → eqb l.kind universe ≡ b → row_content s (counts_as l.kind ∷ words b) ≡ at (cond b (part s l.start l.length) []) (pad 6 k)
    go true q =
        let z : k ≡ [] = no_children k (f.1 ∙ ap arity_of (eqb-true (counts_as l.kind) universe (same ∙ q)) ∙ arity_universe) in
        ap (λ (b : Bool). cond b (at (part s l.start l.length) (0 ∷ 0 ∷ drop 2 (take 6 (words true)))) (at [] (take 6 (words true)))) (same ∙ q)
        ∙ ap (λ (x : List ℕ). at (part s l.start l.length) (0 ∷ 0 ∷ take 4 (pad 4 x ++ (offset ∷ [])))) z
        ∙ ap (λ (x : List ℕ). at (part s l.start l.length) (pad 6 x)) (sym z)
    go false q =
        ap (λ (b : Bool). cond b (at (part s (get_or (words false) 0 0) (get_or (words false) 1 0)) (0 ∷ 0 ∷ drop 2 (take 6 (words false)))) (at [] (take 6 (words false)))) (same ∙ q)
        ∙ ap (at []) (six_fields k offset)

content_of : (s : List ℕ) (l : Label) (c : Core) (k : List ℕ) → Fits (bytes_core s l c) (length k) → row_content s (core_words l c k) ≡ row_of (bytes_core s l c) k
content_of s l kept k f = kept_content s l k _ f
content_of s l (var i) k f = refl
content_of s l (global j) k f = refl
content_of s l unknown k f = absurd f

contents_of : (s : List ℕ) (l : List (Cell Resolved)) → CellsFit (map (recell (named_core s)) l) → map (row_content s) (map core_row l) ≡ map content-row (map (recell (named_core s)) l)
contents_of s [] f = refl
contents_of s (c ∷ l) f =
    let x = content_of s c.label.label c.label.core c.children f.0 in
    let y = contents_of s l f.1 in
    λ i. x i ∷ y i

forest_contents : (s : List ℕ) (e : ℕ → Locals) (g : List Name) (n : ℕ) (f : Forest Label) → Shaped (relabel (named s) f) → known e g (relabel (named s) f) ≡ true
    → map (row_content s) (map core_row (cells n (resolve s e g f))) ≡ rows n (core e g (relabel (named s) f))
forest_contents s e g n f w k =
    let c : cells n (core e g (relabel (named s) f)) ≡ map (recell (named_core s)) (cells n (resolve s e g f)) =
    ap (cells n) (sym (named_resolve s e g f)) ∙ cells_relabel (named_core s) n (resolve s e g f) in
    contents_of s (cells n (resolve s e g f)) (subst CellsFit c (cells_fit n (core e g (relabel (named s) f)) (core_fits e g (relabel (named s) f) w k)))
    ∙ ap (map content-row) (sym c)

-- Declarations.
pub named_trees : (s : List ℕ) (d : Declaration) → parts (named_declaration s d) ≡ relabel (named s) (trees d)
named_trees s d = ap (node (named s d.type.label) (relabel (named s) d.type.args)) (go d.body)
  where
    go : (o : Option (Tree Label)) → maybe (maybe o none (λ b. some (relabel_tree (named s) b))) nil (λ b. tree b nil) ≡ relabel (named s) (maybe o nil (λ b. tree b nil))
    go none = refl
    go (some b) = refl

core_trees : (s : List ℕ) (g : List Name) (d : Declaration) → relabel (named_core s) (resolve_declaration s g d) ≡ core (λ i. []) g (parts (named_declaration s d))
core_trees s g d = named_resolve s (λ i. []) g (trees d) ∙ ap (core (λ i. []) g) (sym (named_trees s d))

next_core : (s : List ℕ) (g : List Name) (n : ℕ) (d : Declaration) → next n (resolve_declaration s g d) ≡ next n (core (λ i. []) g (parts (named_declaration s d)))
next_core s g n d = sym (next_relabel (named_core s) n (resolve_declaration s g d)) ∙ ap (next n) (core_trees s g d)

roots_core : (s : List ℕ) (g : List Name) (n : ℕ) (d : Declaration) → roots n (resolve_declaration s g d) ≡ roots n (core (λ i. []) g (parts (named_declaration s d)))
roots_core s g n d = sym (roots_relabel (named_core s) n (resolve_declaration s g d)) ∙ ap (roots n) (core_trees s g d)

pub row_contents : (s : List ℕ) (g : List Name) (n : ℕ) (m : List Declaration) → ShapedModule (map (named_declaration s) m) → resolves g (map (named_declaration s) m) ≡ true
    → map (row_content s) (core_rows n (resolve_module s g m)) ≡ rows_of n (cores g (map (named_declaration s) m))
row_contents s g n [] w h = refl
row_contents s g n (d ∷ l) w h =
    let k = resolves_cons g (named_declaration s d) (map (named_declaration s) l) h in
    let p = named_trees s d in
    let x = forest_contents s (λ i. []) g n (trees d) (subst Shaped p w.1) (subst (λ (f : Terms). known (λ i. []) g f ≡ true) p k.1)
    ∙ ap (λ (f : Terms). rows n (core (λ i. []) g f)) (sym p) in
    let y = row_contents s (g ++ (declared_name s d ∷ [])) (next n (resolve_declaration s g d)) l w.2 k.2
    ∙ ap (λ (j : ℕ). rows_of j (cores (g ++ (declared_name s d ∷ [])) (map (named_declaration s) l))) (next_core s g n d) in
    map-append (row_content s) (map core_row (cells n (resolve_declaration s g d))) _ ∙ (λ i. x i ++ y i)

pub record_contents : (s : List ℕ) (g : List Name) (n : ℕ) (m : List Declaration)
    → map (record_content s) (declaration_records n (resolve_module s g m)) ≡ records_of n (cores g (map (named_declaration s) m))
record_contents s g n [] = refl
record_contents s g n (d ∷ l) =
    let x = roots_core s g n d in
    let y = record_contents s (g ++ (declared_name s d ∷ [])) (next n (resolve_declaration s g d)) l
    ∙ ap (λ (j : ℕ). records_of j (cores (g ++ (declared_name s d ∷ [])) (map (named_declaration s) l))) (next_core s g n d) in
    λ i. record { kind = d.kind; name = declared_name s d; rows = pad 2 (x i) } ∷ y i
