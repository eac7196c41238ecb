-- In a module that is loaded, every reference is known.
use Rattle.token.specs.declared.Class.{Class}
use mathlib.Core.Path.{◌≡◌, refl, sym, ap, ◌∙◌}
use mathlib.Core.List.{List, [], ◌∷◌, ◌++◌, map}
use mathlib.Core.Option.{Option, none, some}
use mathlib.Core.Bool.{Bool, true, false}
use Prim.Native.Nat.{ℕ, zero, suc}
use native.Mathlib.Omega.{arith}
use Rattle.terms.specs.Tree.{Forest, nil, node, Cell, next, roots, cells}
use Rattle.terms.specs.Label.{Name, Label, Declaration, declared_name}
use Rattle.terms.specs.Resolution.{find, Core, unknown, is_unknown, Resolved, resolve_declaration, resolve_module, first_unknown, RefusedName, refused_name, first_refused}
use Rattle.terms.proofs.Names.{none_some}
use Rattle.terms.specs.RowAt.{entry}
use Rattle.terms.specs.Lookup.{unknown as unresolved}
use Rattle.terms.proofs.Entries.{entry_map}
use Rattle.binding.proofs.Modules.{module_referents}
use Rattle.binding.proofs.SameCounts.{core_for, module_cells, same_module}

abbrev Known : List (Cell Resolved) → Type 0
Known [] = Unit {0}
Known (c ∷ l) = (is_unknown c.label.core ≡ false) × Known l

known_append : (l m : List (Cell Resolved)) → Known l → Known m → Known (l ++ m)
known_append [] m h k = k
known_append (c ∷ l) m h k = (h.0, known_append l m h.1 k)

known_cells : (f : Forest Resolved) (n : ℕ) → first_unknown f ≡ none → Known (cells n f)
unfolding first_unknown
known_cells nil n e = tt
known_cells (node t a r) n e = go (is_unknown t.core) refl (first_unknown a) refl (known_cells a n) (known_cells r (suc (next n a))) e
  where
    go : (b : Bool) → is_unknown t.core ≡ b → (o : Option Label) → first_unknown a ≡ o → (first_unknown a ≡ none → Known (cells n a)) → (first_unknown r ≡ none → Known (cells (suc (next n a)) r))
        → ◌≡◌ {A = Option Label} (elim b as (λ _. Option Label) [ true ↦ some t.label | false ↦ elim o as (λ _. Option Label) [ some l ↦ some l | none ↦ first_unknown r ] ]) none
        → Known (cells n a ++ (record { label = t; children = roots n a } ∷ cells (suc (next n a)) r))
    go true p o q x y f = none_some (sym f)
    go false p (some l) q x y f = none_some (sym f)
    go false p none q x y f = known_append (cells n a) _ (x q) (p, y f)

known_module : (s : List ℕ) (ds : List Declaration) (n : ℕ) (g : List Name) → first_refused s g ds ≡ none → Known (module_cells s n (resolve_module s g ds))
unfolding first_refused
known_module s [] n g e = tt
known_module s (d ∷ l) n g e =
    go (find (declared_name s d) g) (first_unknown (resolve_declaration s g d)) refl (known_cells (resolve_declaration s g d) n) (known_module s l (next n (resolve_declaration s g d)) (g ++ (declared_name s d ∷ []))) e
  where
    rest : Option RefusedName
    rest = first_refused s (g ++ (declared_name s d ∷ [])) l

    go : (a : Option ℕ) (b : Option Label) → first_unknown (resolve_declaration s g d) ≡ b → (first_unknown (resolve_declaration s g d) ≡ none → Known (cells n (resolve_declaration s g d)))
        → (first_refused s (g ++ (declared_name s d ∷ [])) l ≡ none → Known (module_cells s (next n (resolve_declaration s g d)) (resolve_module s (g ++ (declared_name s d ∷ [])) l)))
        → ◌≡◌ {A = Option RefusedName} (elim a as (λ _. Option RefusedName) [
          | some i ↦ some (refused_name Class.DuplicateName d.start d.length)
          | none ↦ elim b as (λ _. Option RefusedName) [ some u ↦ some (refused_name Class.UnknownName u.start u.length) | none ↦ first_refused s (g ++ (declared_name s d ∷ [])) l ]
        ]) none
        → Known (cells n (resolve_declaration s g d) ++ module_cells s (next n (resolve_declaration s g d)) (resolve_module s (g ++ (declared_name s d ∷ [])) l))
    go (some i) b q x y f = none_some (sym f)
    go none (some u) q x y f = none_some (sym f)
    go none none q x y f = known_append (cells n (resolve_declaration s g d)) _ (x q) (y f)

known_entry : (l : List (Cell Resolved)) (i : ℕ) → Known l → entry (map (λ c. c.label.core) l) i ≡ some unknown → ⊥
known_entry [] i h e = none_some e
known_entry (c ∷ l) zero h e =
    let q : c.label.core ≡ unknown = cc in
    let z : false ≡ true = sym h.0 ∙ ap is_unknown q in
    let y : ◌≡◌ {A = ℕ} 0 1 = cc in
    omega arith
known_entry (c ∷ l) (suc i) h e = known_entry l i h.1 e

pub never_unknown : (s : List ℕ) (ds : List Declaration) (k : ℕ) → first_refused s [] ds ≡ none → entry (module_referents s 0 [] ds) k ≡ some (some unresolved) → ⊥
never_unknown s ds k e f =
    known_entry (module_cells s 0 (resolve_module s [] ds)) k (known_module s ds 0 [] e)
    (ap (λ (l : List Core). entry l k) (sym (same_module s ds 0 [])) ∙ entry_map core_for (module_referents s 0 [] ds) k (some unresolved) f)
