-- Modules with names: their cores, the contents of their rows and records, and that these determine the cores.
use mathlib.Core.Path.{◌≡◌, refl, sym, ap, ◌∙◌}
use mathlib.Core.Logic.{ite, by_cases}
use mathlib.Core.List.{List, [], ◌∷◌, ◌++◌, head-eq_of_cons-eq, tail-eq_of_cons-eq}
use mathlib.Core.Option.{Option, none, some}
use mathlib.Core.Bool.{Bool, true, false, ◌&&◌, and-eq-true_iff}
use Prim.Native.Nat.{ℕ, zero, suc, ◌≤◌}
use native.Mathlib.Decide.{ℕ_discrete}
use native.Mathlib.Omega.{arith}
use lib.ListN.{length, length-map}
use Rattle.terms.specs.Forms.{ref, arity_of}
use Rattle.terms.specs.Tree.{Forest, nil, node, tree, maybe, cells, next, roots, count}
use Rattle.terms.specs.Label.{Name, Named, Terms, NamedDeclaration}
use Rattle.terms.specs.Resolution.{Locals, find, find_local}
use Rattle.terms.specs.Rows.{pad}
use Rattle.terms.specs.Content.{RowContent, RecordContent}
use Rattle.terms.proofs.FormTable.{arity_ref}
use Rattle.terms.proofs.Cells.{split, next_cells, next_roots, length_roots}
use Rattle.terms.proofs.Arrow.{arity_counts, low_counts}
use Rattle.terms.proofs.NamedCore.{NamedCore, found, core_at, core_at_ref, core_at_form, inner, core, is_known, known, known_node, count_core}
use Rattle.terms.proofs.CoreRows.{pad_inj, row, rows, Fits, AllFit, terms_inj}

-- What the grammar gives: each kind of term with its number of arguments, and a body unless the declaration is a postulate.
abbrev pub Shaped : Terms → Type 0
Shaped nil = Unit {0}
Shaped (node l a r) = (3 ≤ l.kind) × (count a ≡ arity_of l.kind) × Shaped a × Shaped r

-- The type, and the body if there is one.
abbrev pub parts : NamedDeclaration → Terms
parts d = tree d.type (maybe d.body nil (λ b. tree b nil))

-- How many of these a declaration of each kind has.
abbrev pub has : ℕ → ℕ
has k = ite (ℕ_discrete k 1) 1 2

abbrev pub ShapedModule : List NamedDeclaration → Type 0
ShapedModule [] = Unit {0}
ShapedModule (d ∷ l) = (count (parts d) ≡ has d.kind) × Shaped (parts d) × ShapedModule l

-- The core of a module. g is the list of the names of the earlier declarations.
pub record NamedCoreDeclaration : Type 0 where
  pub kind : ℕ
  pub name : Name
  pub parts : Forest NamedCore

abbrev pub cores : List Name → List NamedDeclaration → List NamedCoreDeclaration
cores g [] = []
cores g (d ∷ l) = record { kind = d.kind; name = d.name; parts = core (λ i. []) g (parts d) } ∷ cores (g ++ (d.name ∷ [])) l

-- No name is declared twice, and each reference is known.
abbrev pub new : Option ℕ → Bool
new none = true
new (some i) = false

abbrev pub resolves : List Name → List NamedDeclaration → Bool
resolves g [] = true
resolves g (d ∷ l) = new (find d.name g) && (known (λ i. []) g (parts d) && resolves (g ++ (d.name ∷ [])) l)

-- What counts of the rows and of the records, from row n on.
abbrev pub rows_of : ℕ → List NamedCoreDeclaration → List RowContent
rows_of n [] = []
rows_of n (d ∷ l) = rows n d.parts ++ rows_of (next n d.parts) l

abbrev pub records_of : ℕ → List NamedCoreDeclaration → List RecordContent
records_of n [] = []
records_of n (d ∷ l) = record { kind = d.kind; name = d.name; rows = pad 2 (roots n d.parts) } ∷ records_of (next n d.parts) l

found_fits : (a b : Option ℕ) → is_known (found a b) ≡ true → Fits (found a b) 0
found_fits (some i) b h = refl
found_fits none (some j) h = refl
found_fits none none h = let z : ◌≡◌ {A = ℕ} 0 1 = cc in omega arith

core_at_fits : (l : Locals) (g : List Name) (t : Named) (c : ℕ) → is_known (core_at l g t) ≡ true → 3 ≤ t.kind → c ≡ arity_of t.kind → Fits (core_at l g t) c
core_at_fits l g t c h j e = by_cases (ℕ_discrete t.kind ref)
    (λ r. rw (core_at_ref l g t r, e, r, arity_ref) (found_fits (find_local t.name l) (find t.name g) (rw (core_at_ref l g t r) at h)))
    (λ r. rw (core_at_form l g t r) (low_counts t.kind j, e ∙ sym (arity_counts t.kind)))

pub core_fits : (e : ℕ → Locals) (g : List Name) (s : Terms) → Shaped s → known e g s ≡ true → AllFit (core e g s)
core_fits e g nil w h = tt
core_fits e g (node l a r) w h =
    let k = known_node e g l a r h in
    (core_at_fits (e zero) g l _ k.0 w.0 (count_core (inner l (e zero)) g a ∙ w.1), core_fits (inner l (e zero)) g a w.2 k.1, core_fits (λ i. e (suc i)) g r w.3 k.2)

-- The tables of two modules are equal only if the core modules are.
abbrev pub CoresFit : List NamedCoreDeclaration → Type 0
CoresFit [] = Unit {0}
CoresFit (d ∷ l) = (count d.parts ≡ has d.kind) × AllFit d.parts × CoresFit l

-- What `resolves` says of a declaration and those that follow it.
pub resolves_cons : (g : List Name) (d : NamedDeclaration) (l : List NamedDeclaration) → resolves g (d ∷ l) ≡ true
    → (new (find d.name g) ≡ true) × (known (λ i. []) g (parts d) ≡ true) × (resolves (g ++ (d.name ∷ [])) l ≡ true)
resolves_cons g d l h =
    let q = (and-eq-true_iff (new (find d.name g)) (known (λ i. []) g (parts d) && resolves (g ++ (d.name ∷ [])) l)).0 h in
    let p = (and-eq-true_iff (known (λ i. []) g (parts d)) (resolves (g ++ (d.name ∷ [])) l)).0 q.1 in
    (q.0, p.0, p.1)

pub cores_fit : (g : List Name) (m : List NamedDeclaration) → ShapedModule m → resolves g m ≡ true → CoresFit (cores g m)
cores_fit g [] w h = tt
cores_fit g (d ∷ l) w h =
    let k = resolves_cons g d l h in
    (count_core (λ i. []) g (parts d) ∙ w.0, core_fits (λ i. []) g (parts d) w.1 k.1, cores_fit (g ++ (d.name ∷ [])) l w.2 k.2)

has_small : (k : ℕ) → has k ≤ 2
has_small k = go (ℕ_discrete k 1)
  where
    go : (d : Dec (k ≡ 1)) → ite d 1 2 ≤ 2
    go (yes e) = omega arith
    go (no e) = omega arith

pub cores_inj : (n : ℕ) (l m : List NamedCoreDeclaration) → CoresFit l → CoresFit m → rows_of n l ≡ rows_of n m → records_of n l ≡ records_of n m → l ≡ m
cores_inj n [] [] v w h r = refl
cores_inj n [] (e ∷ m) v w h r = absurd (let z : ◌≡◌ {A = ℕ} 0 1 = cc in omega arith)
cores_inj n (d ∷ l) [] v w h r = absurd (let z : ◌≡◌ {A = ℕ} 0 1 = cc in omega arith)
cores_inj n (d ∷ l) (e ∷ m) v w h r =
    let k : d.kind ≡ e.kind = ap (λ (x : RecordContent). x.kind) (head-eq_of_cons-eq r) in
    let o : d.name ≡ e.name = ap (λ (x : RecordContent). x.name) (head-eq_of_cons-eq r) in
    let s : roots n d.parts ≡ roots n e.parts =
    pad_inj 2 _ _ (length_roots n d.parts ∙ v.0 ∙ ap has k ∙ sym w.0 ∙ sym (length_roots n e.parts))
    (omega (arith, length_roots n d.parts, v.0, has_small d.kind)) (ap (λ (x : RecordContent). x.rows) (head-eq_of_cons-eq r)) in
    let t : next n d.parts ≡ next n e.parts = next_roots n n d.parts e.parts refl s in
    let q = split (rows n d.parts) (rows n e.parts) _ _ (length-map (cells n d.parts) row ∙ len t ∙ sym (length-map (cells n e.parts) row)) h in
    let p : d.parts ≡ e.parts = terms_inj n d.parts e.parts v.1 w.1 s q.0 in
    let z = cores_inj (next n d.parts) l m v.2 w.2 (rw t (rw t at q.1)) (rw t (rw t at (tail-eq_of_cons-eq r))) in
    λ i. record { kind = k i; name = o i; parts = p i } ∷ z i
  where
    len : next n d.parts ≡ next n e.parts → length (cells n d.parts) ≡ length (cells n e.parts)
    len t = omega (arith, next_cells n d.parts, next_cells n e.parts)
