-- What each row refers to is what its core row holds: the counts and the places of resolution.
use mathlib.Core.Path.{◌≡◌, refl, sym, ap, ◌∙◌}
use mathlib.Core.List.{List, [], ◌∷◌, ◌++◌, map, map-append}
use mathlib.Core.Option.{Option, none, some}
use mathlib.Core.Bool.{Bool, true, false, cond}
use Prim.Native.Nat.{ℕ, zero, suc}
use lib.Dec.{eqb}
use Rattle.terms.specs.Forms.{ref}
use Rattle.terms.specs.Rows.{core_row, core_rows}
use Rattle.terms.specs.Tree.{Forest, nil, node, Cell, next, cells, relabel}
use Rattle.terms.specs.Label.{Name, part, Label, named, Declaration, trees, declared_name}
use Rattle.terms.specs.Resolution.{find, Locals, find_local, Core, kept, referent as core-referent, core_of, covers, bound_name, locals_in, Resolved, resolve, resolve_declaration, CoreDeclaration, resolve_module}
use Rattle.terms.proofs.Cells.{next_relabel}
use Rattle.terms.proofs.Spans.{resolve_next}
use Rattle.terms.specs.Lookup.{Local, local_of, lookup, Referent, refers}
use Rattle.terms.proofs.Lookup.{lookup_count, as_core, refers_core}
use Rattle.binding.proofs.Located.{own}
use Rattle.binding.proofs.Referents.{referent_of, referents}
use Rattle.binding.proofs.Modules.{module_referents}

-- What resolution makes of a term.
abbrev pub core_for : Option Referent → Core
core_for none = kept
core_for (some r) = as_core r

abbrev pub names : List Local → Locals
names l = map (λ y. y.name) l

module _ (s : List ℕ) where
  same_one : (e : List Local) (d : Locals) (g : List Name) (l : Label) → names e ≡ d → core_for (referent_of e g (named s l)) ≡ core_of s d g l
  unfolding referent_of core_of
  same_one e d g l h = go (eqb l.kind ref)
    where
      x : Name
      x = part s l.start l.length

      go : (b : Bool) → core_for (elim b as (λ _. Option Referent) [ true ↦ some (refers (lookup x e) (find x g)) | false ↦ none ])
          ≡ elim b as (λ _. Core) [ true ↦ core-referent (find_local x d) (find x g) | false ↦ kept ]
      go true = refers_core (lookup x e) (find x g) ∙ ap (λ (o : Option ℕ). core-referent o (find x g)) (lookup_count x e ∙ ap (find_local x) h)
      go false = refl

  same_locals : (l : Label) (k i : ℕ) (e : List Local) (d : Locals) → names e ≡ d → names (own (named s l) k i ++ e) ≡ locals_in s l d i
  same_locals l k i e d h = go (covers l.kind i)
    where
      o : Option Name
      o = bound_name l.kind (part s l.start l.length)

      go : (b : Bool) → names (cond b (local_of o k ∷ []) [] ++ e) ≡ cond b (o ∷ d) d
      go true = ap {B = Locals} (λ m. o ∷ m) h
      go false = h

  abbrev pub held : Cell Resolved → Core
  held c = c.label.core

  pub same_cores : (f : Forest Label) (n : ℕ) (e : ℕ → List Local) (d : ℕ → Locals) (g : List Name) → ((i : ℕ) → names (e i) ≡ d i)
      → map core_for (referents n e g (relabel (named s) f)) ≡ map (λ c. c.label.core) (cells n (resolve s d g f))
  same_cores nil n e d g h = refl
  same_cores (node l a r) n e d g h =
      let k = next n (relabel (named s) a) in
      let q : next n (relabel (named s) a) ≡ next n (resolve s (locals_in s l (d zero)) g a) = next_relabel (named s) n a ∙ sym (resolve_next s (locals_in s l (d zero)) g n a) in
      let x = same_cores a n (λ i. own (named s l) k i ++ e zero) (locals_in s l (d zero)) g (λ i. same_locals l k i (e zero) (d zero) (h zero)) in
      let y = same_one (e zero) (d zero) g l (h zero) in
      let z = same_cores r (suc k) (λ i. e (suc i)) (λ i. d (suc i)) g (λ i. h (suc i)) ∙ ap (λ (m : ℕ). map held (cells (suc m) (resolve s (λ i. d (suc i)) g r))) q in
      map-append core_for (referents n (λ i. own (named s l) k i ++ e zero) g (relabel (named s) a)) _
      ∙ (λ i. x i ++ (y i ∷ z i))
      ∙ sym (map-append held (cells n (resolve s (locals_in s l (d zero)) g a)) _)

  -- A module, declaration by declaration.
  abbrev pub module_cells : ℕ → List CoreDeclaration → List (Cell Resolved)
  module_cells n [] = []
  module_cells n (d ∷ l) = cells n d.trees ++ module_cells (next n d.trees) l

  pub same_module : (ds : List Declaration) (n : ℕ) (g : List Name) → map core_for (module_referents s n g ds) ≡ map (λ c. c.label.core) (module_cells n (resolve_module s g ds))
  same_module [] n g = refl
  same_module (d ∷ l) n g =
      let q : next n (trees d) ≡ next n (resolve_declaration s g d) = sym (resolve_next s (λ i. []) g n (trees d)) in
      let x = same_cores (trees d) n (λ i. []) (λ i. []) g (λ i. refl) in
      let y = same_module l (next n (trees d)) (g ++ (declared_name s d ∷ [])) ∙ ap (λ (m : ℕ). map held (module_cells m (resolve_module s (g ++ (declared_name s d ∷ [])) l))) q in
      map-append core_for (referents n (λ i. []) g (relabel (named s) (trees d))) _
      ∙ (λ i. x i ++ y i)
      ∙ sym (map-append held (cells n (resolve_declaration s g d)) _)

  -- The core table's rows are these cells.
  pub core_rows_are : (n : ℕ) (l : List CoreDeclaration) → core_rows n l ≡ map core_row (module_cells n l)
  core_rows_are n [] = refl
  core_rows_are n (d ∷ l) = ap (λ (m : List (List ℕ)). map core_row (cells n d.trees) ++ m) (core_rows_are (next n d.trees) l) ∙ sym (map-append core_row (cells n d.trees) (module_cells (next n d.trees) l))
