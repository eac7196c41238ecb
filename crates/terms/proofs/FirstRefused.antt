-- Where resolution refuses no name, every declaration's name is new and every reference known.
use Rattle.token.specs.declared.Class.{Class}
use mathlib.Core.Path.{◌≡◌, refl, sym, ap, ◌∙◌}
use mathlib.Core.List.{List, [], ◌∷◌, ◌++◌, map}
use mathlib.Core.Option.{Option, none, some}
use mathlib.Core.Bool.{true, false, ◌&&◌, and-eq-true_iff}
use Prim.Native.Nat.{ℕ}
use Rattle.terms.specs.Tree.{Forest, nil, node, relabel}
use Rattle.terms.specs.Label.{Name, Label, Declaration, trees, Terms, declared_name, named_declaration}
use Rattle.terms.specs.Resolution.{find, Core, kept, var, global, unknown, Resolved, resolve_declaration, is_unknown, first_unknown, RefusedName, refused_name, first_refused}
use Rattle.terms.proofs.Names.{none_some}
use Rattle.terms.proofs.NamedCore.{is_known, all_known, known}
use Rattle.terms.proofs.NamedModule.{parts, new, resolves}
use Rattle.terms.proofs.Spans.{bytes_core, named_core, named_resolve, named_trees}

all_known_of : (s : List ℕ) (f : Forest Resolved) → first_unknown f ≡ none → all_known (relabel (named_core s) f) ≡ true
unfolding first_unknown
all_known_of s nil e = refl
all_known_of s (node t a r) e = go (λ p q. (and-eq-true_iff (all_known (relabel (named_core s) a)) _).1 (all_known_of s a p, all_known_of s r q)) t.core (first_unknown a) refl e
  where
    go : (first_unknown a ≡ none → first_unknown r ≡ none → (all_known (relabel (named_core s) a) && all_known (relabel (named_core s) r)) ≡ true)
        → (c : Core) (o : Option Label) → first_unknown a ≡ o
        → ◌≡◌ {A = Option Label} (elim (is_unknown c) as (λ _. Option Label) [ true ↦ some t.label | false ↦ elim o as (λ _. Option Label) [ some l ↦ some l | none ↦ first_unknown r ] ]) none
        → is_known (bytes_core s t.label c) && (all_known (relabel (named_core s) a) && all_known (relabel (named_core s) r)) ≡ true
    go both unknown o p q = none_some (sym q)
    go both kept none p q = both p q
    go both kept (some l) p q = none_some (sym q)
    go both (var i) none p q = both p q
    go both (var i) (some l) p q = none_some (sym q)
    go both (global j) none p q = both p q
    go both (global j) (some l) p q = none_some (sym q)

known_of : (s : List ℕ) (g : List Name) (d : Declaration) → first_unknown (resolve_declaration s g d) ≡ none → known (λ i. []) g (parts (named_declaration s d)) ≡ true
known_of s g d e =
    ap (λ (f : Terms). known (λ i. []) g f) (named_trees s d)
    ∙ ap all_known (sym (named_resolve s (λ i. []) g (trees d)))
    ∙ all_known_of s (resolve_declaration s g d) e

pub none_refused : (s : List ℕ) (g : List Name) (l : List Declaration) → first_refused s g l ≡ none → resolves g (map (named_declaration s) l) ≡ true
unfolding first_refused
none_refused s g [] e = refl
none_refused s g (d ∷ l) e = go (none_refused s (g ++ (declared_name s d ∷ [])) l) (find (declared_name s d) g) (first_unknown (resolve_declaration s g d)) refl refl e
  where
    rest : Option RefusedName
    rest = first_refused s (g ++ (declared_name s d ∷ [])) l

    go : (rest ≡ none → resolves (g ++ (declared_name s d ∷ [])) (map (named_declaration s) l) ≡ true)
        → (a : Option ℕ) (b : Option Label) → find (declared_name s d) g ≡ a → first_unknown (resolve_declaration s g d) ≡ b
        → ◌≡◌ {A = Option RefusedName} (elim a as (λ _. Option RefusedName) [
          | some i ↦ some (refused_name Class.DuplicateName d.start d.length)
          | none ↦ elim b as (λ _. Option RefusedName) [ some u ↦ some (refused_name Class.UnknownName u.start u.length) | none ↦ rest ]
        ]) none
        → resolves g (map (named_declaration s) (d ∷ l)) ≡ true
    go ih (some i) b p q f = none_some (sym f)
    go ih none (some u) p q f = none_some (sym f)
    go ih none none p q f = (and-eq-true_iff (new (find (declared_name s d) g)) _).1 (ap new p, (and-eq-true_iff (known (λ i. []) g (parts (named_declaration s d))) _).1 (known_of s g d q, ih f))
