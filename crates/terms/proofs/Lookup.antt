-- The lookup of a name with the row of what binds it: its count is what resolution counts.
use mathlib.Core.Path.{◌≡◌, refl, sym, ap, ◌∙◌}
use mathlib.Core.List.{List, [], ◌∷◌, ◌++◌, map}
use mathlib.Core.Option.{Option, none, some}
use Prim.Native.Nat.{ℕ, suc, ◌+◌}
use native.Mathlib.Omega.{arith}
use lib.ListN.{length}
use Rattle.terms.specs.Label.{Name}
use Rattle.terms.specs.Resolution.{next_number, find_local, Core, var, global as global-core, unknown as unknown-core, referent}
use Rattle.terms.proofs.Names.{called?, is_called, not_called, local_yes, local_no}
use Rattle.terms.specs.Lookup.{Local, Found, found, next_found, lookup, Referent, local, global, unknown, refers}

pub lookup_yes : (x : Name) (y : Local) (l : List Local) → some x ≡ y.name → lookup x (y ∷ l) ≡ some (found 0 y.row)
unfolding lookup
lookup_yes x y l e = rw (is_called x y.name e, lookup) refl

pub lookup_no : (x : Name) (y : Local) (l : List Local) → ¬ (some x ≡ y.name) → lookup x (y ∷ l) ≡ next_found (lookup x l)
unfolding lookup
lookup_no x y l e = rw (not_called x y.name e, lookup) refl

abbrev pub count_of : Option Found → Option ℕ
count_of none = none
count_of (some f) = some f.count

count_next : (o : Option Found) → count_of (next_found o) ≡ next_number (count_of o)
count_next none = refl
count_next (some f) = refl

-- "The lookup of a name shall give, beside its count, ..": the count is resolution's.
pub lookup_count : (x : Name) (l : List Local) → count_of (lookup x l) ≡ find_local x (map (λ y. y.name) l)
unfolding lookup find_local
lookup_count x [] = refl
lookup_count x (y ∷ l) = go (lookup_count x l) (called? x y.name)
  where
    go : count_of (lookup x l) ≡ find_local x (map (λ y. y.name) l) → Dec (some x ≡ y.name) → count_of (lookup x (y ∷ l)) ≡ find_local x (map (λ y. y.name) (y ∷ l))
    go ih (yes e) = ap count_of (lookup_yes x y l e) ∙ sym (local_yes x y.name (map (λ y. y.name) l) e)
    go ih (no e) = ap count_of (lookup_no x y l e) ∙ count_next (lookup x l) ∙ ap next_number ih ∙ sym (local_no x y.name (map (λ y. y.name) l) e)

-- What resolution makes of a reference.
abbrev pub as_core : Referent → Core
as_core (local f) = var f.count
as_core (global j) = global-core j
as_core unknown = unknown-core

pub refers_core : (a : Option Found) (g : Option ℕ) → as_core (refers a g) ≡ referent (count_of a) g
refers_core (some f) g = refl
refers_core none (some j) = refl
refers_core none none = refl

-- Behind other locals.
abbrev pub behind : ℕ → Option Found → Option Found
behind n none = none
behind n (some f) = some (found (n + f.count) f.row)

pub lookup_some : (x : Name) (l m : List Local) (f : Found) → lookup x l ≡ some f → lookup x (l ++ m) ≡ some f
unfolding lookup
lookup_some x [] m f e = absurd (let z : ◌≡◌ {A = ℕ} 0 1 = cc in omega arith)
lookup_some x (y ∷ l) m f e = go (lookup_some x l m) (lookup x l) refl (called? x y.name)
  where
    go : ((f : Found) → lookup x l ≡ some f → lookup x (l ++ m) ≡ some f) → (o : Option Found) → lookup x l ≡ o → Dec (some x ≡ y.name) → lookup x (y ∷ (l ++ m)) ≡ some f
    go ih o q (yes d) = lookup_yes x y (l ++ m) d ∙ sym (lookup_yes x y l d) ∙ e
    go ih none q (no d) = absurd (let h = sym e ∙ lookup_no x y l d ∙ ap next_found q in let z : ◌≡◌ {A = ℕ} 0 1 = cc in omega arith)
    go ih (some h) q (no d) = lookup_no x y (l ++ m) d ∙ ap next_found (ih h q) ∙ sym (ap next_found q) ∙ sym (lookup_no x y l d) ∙ e

pub lookup_none : (x : Name) (l m : List Local) → lookup x l ≡ none → lookup x (l ++ m) ≡ behind (length l) (lookup x m)
unfolding lookup
lookup_none x [] m e = go (lookup x m)
  where
    go : (o : Option Found) → o ≡ behind 0 o
    go none = refl
    go (some f) = ap (λ (c : ℕ). some (found c f.row)) (let q : f.count ≡ 0 + f.count = omega arith in q)
lookup_none x (y ∷ l) m e = go (lookup_none x l m) (lookup x l) refl (called? x y.name)
  where
    more : (o : Option Found) → next_found (behind (length l) o) ≡ behind (suc (length l)) o
    more none = refl
    more (some f) = ap (λ (c : ℕ). some (found c f.row)) (let q : suc (length l + f.count) ≡ suc (length l) + f.count = omega arith in q)

    go : (lookup x l ≡ none → lookup x (l ++ m) ≡ behind (length l) (lookup x m)) → (o : Option Found) → lookup x l ≡ o → Dec (some x ≡ y.name) → lookup x (y ∷ (l ++ m)) ≡ behind (suc (length l)) (lookup x m)
    go ih o q (yes d) = absurd (let h = sym e ∙ lookup_yes x y l d in let z : ◌≡◌ {A = ℕ} 0 1 = cc in omega arith)
    go ih none q (no d) = lookup_no x y (l ++ m) d ∙ ap next_found (ih q) ∙ more (lookup x m)
    go ih (some h) q (no d) = absurd (let k = sym e ∙ lookup_no x y l d ∙ ap next_found q in let z : ◌≡◌ {A = ℕ} 0 1 = cc in omega arith)
