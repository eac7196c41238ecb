-- Names in a list: where a name is found.
use mathlib.Core.Path.{◌≡◌, refl, sym, ap, ◌∙◌}
use mathlib.Core.List.{List, [], ◌∷◌, map}
use mathlib.Core.Option.{Option, none, some}
use mathlib.Core.Bool.{Bool, true, false}
use Prim.Native.Nat.{ℕ, zero, suc, ◌<◌}
use native.Mathlib.Omega.{arith}
use lib.ListN.{length, length-map}
use Rattle.words.specs.Words.{same_bytes}
use Rattle.words.proofs.Names.{eq_same, same_eq, same_ne, ne_same}
use Rattle.terms.specs.Label.{Name}
use Rattle.terms.specs.Resolution.{Locals, next_number, find, called, find_local}

pub none_some : {A B : Type 0} {a : A} → ◌≡◌ {A = Option A} none (some a) → B
none_some {A} {B} {a} e = let z : ◌≡◌ {A = ℕ} 0 1 = cc in absurd (omega arith)

pub some_inj : {A : Type 0} {a b : A} → ◌≡◌ {A = Option A} (some a) (some b) → a ≡ b
some_inj e = cc

-- Whether two names are equal.
pub same? : (x y : Name) → Dec (x ≡ y)
same? x y = go (same_bytes x y) refl
  where
    go : (b : Bool) → same_bytes x y ≡ b → Dec (x ≡ y)
    go true e = yes (same_eq x y e)
    go false e = no (same_ne x y e)

pub find_yes : (x y : Name) (l : List Name) → x ≡ y → find x (y ∷ l) ≡ some zero
unfolding find
find_yes x y l e = rw (eq_same x y e, find)

pub find_no : (x y : Name) (l : List Name) → ¬ (x ≡ y) → find x (y ∷ l) ≡ next_number (find x l)
unfolding find
find_no x y l e = rw (ne_same x y e, find)

-- Whether a local binder has a name.
pub called? : (x : Name) (o : Option Name) → Dec (some x ≡ o)
called? x none = no (λ e. none_some (sym e))
called? x (some y) = go (same? x y)
  where
    go : Dec (x ≡ y) → Dec (◌≡◌ {A = Option Name} (some x) (some y))
    go (yes e) = yes (ap {B = Option Name} some e)
    go (no e) = no (λ f. e (some_inj f))

pub is_called : (x : Name) (o : Option Name) → some x ≡ o → called x o ≡ true
is_called x none e = none_some (sym e)
is_called x (some y) e = eq_same x y (some_inj e)

pub not_called : (x : Name) (o : Option Name) → ¬ (some x ≡ o) → called x o ≡ false
not_called x none e = refl
not_called x (some y) e = ne_same x y (λ f. e (ap {B = Option Name} some f))

pub local_yes : (x : Name) (o : Option Name) (l : Locals) → some x ≡ o → find_local x (o ∷ l) ≡ some zero
unfolding find_local
local_yes x o l e = rw (is_called x o e, find_local)

pub local_no : (x : Name) (o : Option Name) (l : Locals) → ¬ (some x ≡ o) → find_local x (o ∷ l) ≡ next_number (find_local x l)
unfolding find_local
local_no x o l e = rw (not_called x o e, find_local)

pub not_first : (o : Option ℕ) → next_number o ≡ some zero → ⊥
not_first none e = none_some e
not_first (some i) e = let z : suc i ≡ zero = cc in omega arith

pub one_less : (o : Option ℕ) (i : ℕ) → next_number o ≡ some (suc i) → o ≡ some i
one_less none i e = none_some e
one_less (some j) i e = let z : suc j ≡ suc i = cc in ap {B = Option ℕ} some (omega arith)

pub still_none : (o : Option ℕ) → next_number o ≡ none → o ≡ none
still_none none e = refl
still_none (some i) e = none_some (sym e)

-- Of one list, what is found at one number is one name.
pub find_inj : (x y : Name) (l : List Name) (i : ℕ) → find x l ≡ some i → find y l ≡ some i → x ≡ y
unfolding find
find_inj x y [] i p q = none_some p
find_inj x y (z ∷ l) i p q = go (λ i. find_inj x y l i) (same? x z) (same? y z) i p q
  where
    go : ((i : ℕ) → find x l ≡ some i → find y l ≡ some i → x ≡ y) → Dec (x ≡ z) → Dec (y ≡ z) → (i : ℕ) → find x (z ∷ l) ≡ some i → find y (z ∷ l) ≡ some i → x ≡ y
    go ih (yes a) (yes b) i p q = cc
    go ih (yes a) (no b) i p q = absurd (not_first (find y l) (cc (find_yes x z l a, find_no y z l b)))
    go ih (no a) (yes b) i p q = absurd (not_first (find x l) (cc (find_yes y z l b, find_no x z l a)))
    go ih (no a) (no b) zero p q = absurd (not_first (find x l) (sym (find_no x z l a) ∙ p))
    go ih (no a) (no b) (suc i) p q = ih i (one_less (find x l) i (sym (find_no x z l a) ∙ p)) (one_less (find y l) i (sym (find_no y z l b) ∙ q))

-- What is found in a list stands in it.
pub local_below : (x : Name) (l : Locals) (i : ℕ) → find_local x l ≡ some i → i < length l
unfolding find_local
local_below x [] i e = none_some e
local_below x (y ∷ l) i e = go (local_below x l) (called? x y) (find_local x l) refl
  where
    go : ((i : ℕ) → find_local x l ≡ some i → i < length l) → Dec (some x ≡ y) → (o : Option ℕ) → find_local x l ≡ o → i < suc (length l)
    go ih (yes h) o f = let z = some_inj (sym (local_yes x y l h) ∙ e) in omega arith
    go ih (no h) none f = none_some (sym (ap next_number f) ∙ sym (local_no x y l h) ∙ e)
    go ih (no h) (some j) f = let z : suc j ≡ i = some_inj (sym (ap next_number f) ∙ sym (local_no x y l h) ∙ e) in omega (arith, ih j f)

-- Names are binders that all have one.
find_named : (x : Name) (l : List Name) → find_local x (map some l) ≡ find x l
unfolding find find_local
find_named x [] = refl
find_named x (y ∷ l) = ap (λ (o : Option ℕ). elim (same_bytes x y) as (λ _. Option ℕ) [ true ↦ some zero | false ↦ next_number o ]) (find_named x l)

pub find_below : (x : Name) (l : List Name) (i : ℕ) → find x l ≡ some i → i < length l
find_below x l i e = omega (arith, local_below x (map some l) i (find_named x l ∙ e), length-map l (λ y. some y))
