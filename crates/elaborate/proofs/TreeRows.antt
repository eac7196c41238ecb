-- On the rows of trees, the recursion over rows is the resolution of the trees.
use Prim.Native.Nat.{ℕ, zero, suc, ◌+◌, ◌≤◌, ◌<◌}
use mathlib.Core.Path.{◌≡◌, refl, sym, ◌∙◌, ap, ap₂, subst}
use mathlib.Core.List.{List, ◌∷◌, ◌++◌, map, map-append, append_assoc}
use mathlib.Core.Option.{Option, none, some}
use mathlib.Core.Bool.{Bool, true, false}
use native.Mathlib.Omega.{arith}
use borrow.Author.Tests.{lt-ltb}
use lib.ListN.{length, length-map}
use Rattle.terms.specs.Forms.{arity_of}
use Rattle.terms.specs.Tree.{Forest, nil, node, count, Cell, next, roots, cells}
use Rattle.terms.specs.Label.{Name, Label}
use Rattle.terms.specs.Resolution.{Locals, Core, core_of, locals_in, Resolved, resolve, is_unknown, first_unknown}
use Rattle.terms.specs.Rows.{surface_row, core_words, core_row}
use Rattle.terms.proofs.Cells.{next_cells, length_roots}
use Rattle.terms.proofs.Spans.{resolve_next}
use Rattle.rows.specs.Places.{stored_at}
use Rattle.scope.specs.Scope.{declared_names}
use Rattle.elaborate.specs.RowTerm.{label_at, children_at, TermOutcome, done, unknown_at, and_then, arguments, core_at, visit, row_term}
use Rattle.elaborate.specs.Loadable.{Shaped, Nested}
use Rattle.elaborate.proofs.Alike.{Alike, same_core, same_unknown, same_locals, same_words}
use Rattle.elaborate.proofs.RowWords.{place, row_alike, row_children}
use Rattle.elaborate.proofs.TableRows.{HasRows, stored_rows, stored_append}
use Rattle.elaborate.proofs.Visiting.{inner, row_visit, visit_unknown, visit_known}
use Rattle.elaborate.proofs.ResolvedTrees.{resolve_roots, next_grows}

-- The table has the rows of these trees from row k on, all below row `rows`.
abbrev pub Holds : List ℕ → ℕ → ℕ → Forest Label → Type 0
Holds t rows k nil = Unit {0}
Holds t rows k (node l a r) =
    Holds t rows k a
    × (place 8 t (next k a) ≡ surface_row (record { label = l; children = roots k a }))
    × (next k a < rows)
    × Holds t rows (suc (next k a)) r

pub holds_rows : (t : List ℕ) (rows k : ℕ) (f : Forest Label) (rest : List (List ℕ)) → HasRows 8 t k (map surface_row (cells k f) ++ rest) → next k f ≤ rows
    → Holds t rows k f × HasRows 8 t (next k f) rest
holds_rows t rows k nil rest h b = (tt, h)
holds_rows t rows k (node l a r) rest h b =
    let id = next k a in
    let cell : Cell Label = record { label = l; children = roots k a } in
    let behind = map surface_row (cells (suc id) r) ++ rest in
    let e : map surface_row (cells k (node l a r)) ++ rest ≡ map surface_row (cells k a) ++ (surface_row cell ∷ behind) =
    ap (λ (x : List (List ℕ)). x ++ rest) (map-append surface_row (cells k a) (cell ∷ cells (suc id) r)) ∙ append_assoc (map surface_row (cells k a)) (surface_row cell ∷ map surface_row (cells (suc id) r)) rest in
    let grows = next_grows (suc id) r in
    let x = holds_rows t rows k a (surface_row cell ∷ behind) (subst (HasRows 8 t k) e h) (omega arith) in
    let y = holds_rows t rows (suc id) r rest x.1.1 b in
    ((x.0, x.1.0, omega arith, y.0), y.1)

-- What a resolved list of trees comes to: its core rows, or its first unknown reference.
abbrev pub settled : Option Label → List ℕ → TermOutcome
settled none core = done core
settled (some u) core = unknown_at u.start u.length

settled_done : (o : Option Label) (x : List ℕ) (g : List ℕ → List ℕ) → and_then (settled o x) (λ c. done (g c)) ≡ settled o (g x)
unfolding and_then
settled_done none x g = refl
settled_done (some u) x g = refl

-- The first unknown reference of a node.
abbrev first_of : Bool → Label → Option Label → Option Label → Option Label
first_of true l a r = some l
first_of false l none r = r
first_of false l (some u) r = some u

first_node : (t : Resolved) (a r : Forest Resolved) → first_unknown (node t a r) ≡ first_of (is_unknown t.core) t.label (first_unknown a) (first_unknown r)
unfolding first_unknown
first_node t a r = go (is_unknown t.core) (first_unknown a)
  where
    go : (b : Bool) (o : Option Label)
        → ◌≡◌ {A = Option Label} (elim b as (λ _. Option Label) [ true ↦ some t.label | false ↦ elim o as (λ _. Option Label) [ some l ↦ some l | none ↦ first_unknown r ] ]) (first_of b t.label o (first_unknown r))
    go true o = refl
    go false none = refl
    go false (some u) = refl

settled_then : (b : Bool) (l : Label) (o p : Option Label) (x : List ℕ) (f : List ℕ → TermOutcome) (g : List ℕ → List ℕ) → ((c : List ℕ) → f c ≡ settled p (g c))
    → and_then (settled (first_of b l o none) x) f ≡ settled (first_of b l o p) (g x)
unfolding and_then
settled_then true l o p x f g e = refl
settled_then false l none p x f g e = e x
settled_then false l (some u) p x f g e = refl

first_alone : (l : Label) (o : Option Label) → o ≡ first_of false l o none
first_alone l none = refl
first_alone l (some u) = refl

rest_nested : (n : ℕ) (l : Label) (a r : Forest Label) → Nested n (node l a r) → Nested n r
rest_nested n l nil r h = h
rest_nested zero l (node m b c) r h = absurd h
rest_nested (suc n) l (node m b c) r h = h.1

module _ (s surface declarations : List ℕ) (rows d : ℕ) where
  abbrev globals : List Name
  globals = declared_names s declarations 0 d

  abbrev R : ℕ → ℕ → Locals → List ℕ → TermOutcome
  R = row_term s surface declarations rows d

  abbrev rows_of : ℕ → (ℕ → Locals) → Forest Label → List (List ℕ)
  rows_of k locals f = map core_row (cells k (resolve s locals globals f))

  -- What trees come to whose first row is k.
  abbrev forest : ℕ → (ℕ → Locals) → List ℕ → Forest Label → TermOutcome
  forest k locals core f = settled (first_unknown (resolve s locals globals f)) (stored_rows core k (rows_of k locals f))

  -- The rows of the trees themselves, in order, come to the trees.
  abbrev Comes : Forest Label → Type 0
  Comes f = (n k : ℕ) (locals : ℕ → Locals) (core : List ℕ) → Holds surface rows k f → Shaped f → Nested n f → arguments (R n) locals (roots k f) core ≡ forest k locals core f

  -- The rows of a first tree, and then the others.
  stored_node : (core : List ℕ) (k : ℕ) (locals : ℕ → Locals) (l : Label) (a r : Forest Label)
      → stored_rows (stored_at 8 (stored_rows core k (rows_of k (locals_in s l (locals zero)) a)) (next k a) (core_words l (core_of s (locals zero) globals l) (roots k a)))
      (suc (next k a)) (rows_of (suc (next k a)) (λ i. locals (suc i)) r)
      ≡ stored_rows core k (rows_of k locals (node l a r))
  stored_node core k locals l a r =
      let A = resolve s (locals_in s l (locals zero)) globals a in
      let T = resolve s (λ i. locals (suc i)) globals r in
      let c = core_of s (locals zero) globals l in
      let x : next k A ≡ next k a = resolve_next s (locals_in s l (locals zero)) globals k a in
      let y : roots k A ≡ roots k a = resolve_roots s (locals_in s l (locals zero)) globals k a in
      let first = map core_row (cells k A) in
      let n : k + length first ≡ next k A = omega (arith, next_cells k A, length-map (cells k A) core_row) in
      let cell : Cell Resolved = record { label = record { label = l; core = c }; children = roots k A } in
      (λ i. stored_rows (stored_at 8 (stored_rows core k first) (sym x i) (core_words l c (sym y i))) (suc (sym x i)) (map core_row (cells (suc (sym x i)) T)))
      ∙ ap (λ (m : ℕ). stored_rows (stored_at 8 (stored_rows core k first) m (core_row cell)) (suc m) (map core_row (cells (suc (next k A)) T))) (sym n)
      ∙ sym (stored_append core k first (core_row cell ∷ map core_row (cells (suc (next k A)) T)))
      ∙ ap (stored_rows core k) (sym (map-append core_row (cells k A) (cell ∷ cells (suc (next k A)) T)))

  -- A tree's row, where its arguments' rows come to the arguments.
  module _ (n : ℕ) (l : Label) (a : Forest Label) (k : ℕ) (locals : Locals) (core : List ℕ) where
    abbrev id : ℕ
    id = next k a

    abbrev c : Core
    c = core_of s locals globals l

    abbrev Q : ℕ → Locals → List ℕ → TermOutcome
    Q = inner s surface declarations rows d n

    abbrev table : List ℕ
    table = stored_rows core k (rows_of k (locals_in s l locals) a)

    abbrev first_in : Option Label
    first_in = first_unknown (resolve s (locals_in s l locals) globals a)

    tree_row : place 8 surface id ≡ surface_row (record { label = l; children = roots k a }) → id < rows → count a ≡ arity_of l.kind
        → arguments Q (locals_in s l locals) (roots k a) core ≡ forest k (locals_in s l locals) core a
        → R n id locals core ≡ settled (first_of (is_unknown c) l first_in none) (stored_at 8 table id (core_words l c (roots k a)))
    tree_row e there shaped args = row_visit s surface declarations rows d n id locals core ∙ go (is_unknown c) refl
      where
        many : length (roots k a) ≡ arity_of l.kind
        many = length_roots k a ∙ shaped

        l' : Label
        l' = label_at surface id

        alike : Alike l' l
        alike = row_alike surface id l (roots k a) e many

        children : children_at surface id ≡ roots k a
        children = row_children surface id l (roots k a) e many

        same : core_at s surface declarations rows d id locals ≡ c
        same = same_core s l' l alike locals globals

        go : (b : Bool) → is_unknown c ≡ b → visit s surface declarations rows d Q id locals core ≡ settled (first_of (is_unknown c) l first_in none) (stored_at 8 table id (core_words l c (roots k a)))
        go true q =
            let p = same_unknown s l' l alike locals globals q in
            visit_unknown s surface declarations rows d Q id locals core (lt-ltb id rows there) (ap is_unknown same ∙ q)
            ∙ ap₂ unknown_at p.0 p.1
            ∙ ap (λ (b : Bool). settled (first_of b l first_in none) (stored_at 8 table id (core_words l c (roots k a)))) (sym q)
        go false q =
            visit_known s surface declarations rows d Q id locals core (lt-ltb id rows there) (ap is_unknown same ∙ q)
            ∙ (λ i. and_then (arguments Q (λ j. same_locals s l' l alike locals j i) (children i) core) (λ x. done (stored_at 8 x id (core_words l' (same i) (children i)))))
            ∙ ap₂ (λ (o : TermOutcome) (w : List ℕ). and_then o (λ x. done (stored_at 8 x id w))) args (same_words s l' l alike c (roots k a))
            ∙ settled_done first_in table (λ x. stored_at 8 x id (core_words l c (roots k a)))
            ∙ ap (λ (o : Option Label). settled o (stored_at 8 table id (core_words l c (roots k a)))) (first_alone l first_in)
            ∙ ap (λ (b : Bool). settled (first_of b l first_in none) (stored_at 8 table id (core_words l c (roots k a)))) (sym q)

  -- A form's arguments have one form less to open.
  args_come : (n : ℕ) (l : Label) (a r : Forest Label) (k : ℕ) (locals : ℕ → Locals) (core : List ℕ) → Comes a → Holds surface rows k a → Shaped a → Nested n (node l a r)
      → arguments (inner s surface declarations rows d n) locals (roots k a) core ≡ forest k locals core a
  unfolding arguments first_unknown
  args_come n l nil r k locals core ih holds shaped nested = refl
  args_come zero l (node m b c) r k locals core ih holds shaped nested = absurd nested
  args_come (suc n) l (node m b c) r k locals core ih holds shaped nested = ih n k locals core holds shaped nested.0

  pub comes : (f : Forest Label) → Comes f
  unfolding arguments first_unknown
  comes nil n k locals core holds shaped nested = refl
  comes (node l a r) n k locals core holds shaped nested =
      let c = core_of s (locals zero) globals l in
      let A = resolve s (locals_in s l (locals zero)) globals a in
      let T = resolve s (λ i. locals (suc i)) globals r in
      ap (λ (o : TermOutcome). and_then o (λ x. arguments (R n) (λ i. locals (suc i)) (roots (suc (next k a)) r) x))
      (tree_row n l a k (locals zero) core holds.1 holds.2 shaped.0 (args_come n l a r k (locals_in s l (locals zero)) core (comes a) holds.0 shaped.1 nested))
      ∙ settled_then (is_unknown c) l (first_unknown A) (first_unknown T) _ _ (λ x. stored_rows x (suc (next k a)) (rows_of (suc (next k a)) (λ i. locals (suc i)) r))
      (λ x. comes r n (suc (next k a)) (λ i. locals (suc i)) x holds.3 shaped.2 (rest_nested n l a r nested))
      ∙ ap₂ settled (sym (first_node (record { label = l; core = c }) A T)) (stored_node core k locals l a r)
