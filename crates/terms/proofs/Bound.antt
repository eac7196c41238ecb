-- To be bound by binders at the same place is to be bound by local binders of the same number.
use mathlib.Core.Path.{◌≡◌, refl, sym, ap, ◌∙◌}
use mathlib.Core.Logic.{inl, inr}
use mathlib.Core.List.{List, [], ◌∷◌, ◌++◌, map, tail-eq_of_cons-eq, append-nil}
use mathlib.Core.Option.{Option, none, some}
use mathlib.Core.Bool.{Bool, true, false, cond}
use Prim.Native.Nat.{ℕ, zero, suc}
use native.Mathlib.Omega.{arith}
use Rattle.terms.specs.Tree.{Place, then, maybe, pick, at}
use Rattle.terms.specs.Label.{Name, Term}
use Rattle.terms.specs.Agreement.{form_at, Agree}
use Rattle.terms.specs.Resolution.{Locals, find_local, covers, bound_name, next_number}
use Rattle.terms.proofs.Names.{none_some, some_inj, called?, local_yes, local_no, not_first, one_less, still_none}
use Rattle.terms.proofs.Arrow.{kinds_same}
use Rattle.terms.proofs.Binders.{Binder, down, own, scope, first, first_yes, first_no, SameFirst, agree_first}
use Rattle.terms.proofs.NamedCore.{inner}
use Rattle.terms.proofs.Indices.{names, RefIdx, AgreeIdx}

abbrev calls : List Binder → Locals
calls s = map (λ b. b.called) s

abbrev places : List Binder → List Place
places s = map (λ b. b.place) s

-- The local binders at a place are those around it.
calls_down : (i : ℕ) (s o : List Binder) (l : Locals) → calls (map (down i) s ++ o) ++ l ≡ calls s ++ (calls o ++ l)
calls_down i [] o l = refl
calls_down i (b ∷ s) o l = ap {B = Locals} (λ r. b.called ∷ r) (calls_down i s o l)

calls_own : (c : Bool) (n : Option Name) (l : Locals) → calls (cond c (record { called = n; place = [] } ∷ []) []) ++ l ≡ cond c (n ∷ l) l
calls_own true n l = refl
calls_own false n l = refl

names_calls : (p : Place) (l : Locals) (t : Term) → names l p t ≡ calls (scope p t) ++ l
names_calls [] l t = refl
names_calls (i ∷ p) l t = go (names_calls p) (pick t.args i)
  where
    go : ((l : Locals) (t : Term) → names l p t ≡ calls (scope p t) ++ l) → (x : Option Term)
        → maybe x l (names (inner t.label l i) p) ≡ calls (maybe x [] (λ u. map (down i) (scope p u) ++ own t.label i)) ++ l
    go ih none = refl
    go ih (some u) = ih (inner t.label l i) u ∙ ap (λ m. calls (scope p u) ++ m) (sym (calls_own (covers t.label.kind i) (bound_name t.label.kind t.label.name) l)) ∙ sym (calls_down i (scope p u) (own t.label i) l)

-- Terms with the same forms at the same places have their binders at the same places.
places_down : (i : ℕ) (s o : List Binder) → places (map (down i) s ++ o) ≡ map (λ q. i ∷ q) (places s) ++ places o
places_down i [] o = refl
places_down i (b ∷ s) o = ap {B = List Place} (λ r. (i ∷ b.place) ∷ r) (places_down i s o)

places_own : (c : Bool) (n o : Option Name) → places (cond c (record { called = n; place = [] } ∷ []) []) ≡ places (cond c (record { called = o; place = [] } ∷ []) [])
places_own true n o = refl
places_own false n o = refl

same_places : (p : Place) (t u : Term) → ((p : Place) → form_at (at p t) ≡ form_at (at p u)) → places (scope p t) ≡ places (scope p u)
same_places [] t u h = refl
same_places (i ∷ p) t u h = go (same_places p) (pick t.args i) (pick u.args i) (λ p. h (i ∷ p))
  where
    go : ((t u : Term) → ((p : Place) → form_at (at p t) ≡ form_at (at p u)) → places (scope p t) ≡ places (scope p u)) → (x y : Option Term)
        → ((p : Place) → form_at (then x (at p)) ≡ form_at (then y (at p)))
        → places (maybe x [] (λ v. map (down i) (scope p v) ++ own t.label i)) ≡ places (maybe y [] (λ v. map (down i) (scope p v) ++ own u.label i))
    go ih none none k = refl
    go ih none (some b) k = none_some (k [])
    go ih (some a) none k = none_some (sym (k []))
    go ih (some a) (some b) k =
        places_down i (scope p a) (own t.label i)
        ∙ ap (λ m. map (λ q. i ∷ q) m ++ places (own t.label i)) (ih a b k)
        ∙ ap (λ m. map (λ q. i ∷ q) (places (scope p b)) ++ m) (places_own (covers t.label.kind i) (bound_name t.label.kind t.label.name) (bound_name u.label.kind u.label.name) ∙ ap (λ (c : Bool). places (cond c (record { called = bound_name u.label.kind u.label.name; place = [] } ∷ []) [])) (kinds_same (λ j. covers j i) refl t.label.kind u.label.kind (some_inj (h []))))
        ∙ sym (places_down i (scope p b) (own u.label i))

-- The binders around a place stand at different places.
abbrev Fresh : Place → List Place → Type 0
Fresh q [] = Unit {0}
Fresh q (r ∷ l) = ¬ (q ≡ r) × Fresh q l

abbrev Distinct : List Place → Type 0
Distinct [] = Unit {0}
Distinct (q ∷ l) = Fresh q l × Distinct l

fresh_down : (i : ℕ) (q : Place) (s : List Binder) (c : Bool) (n : Option Name) → Fresh q (places s)
    → Fresh (i ∷ q) (places (map (down i) s ++ cond c (record { called = n; place = [] } ∷ []) []))
fresh_down i q [] true n h = (λ e. let z : ◌≡◌ {A = ℕ} 0 1 = cc in omega arith, tt)
fresh_down i q [] false n h = tt
fresh_down i q (b ∷ s) c n h = (λ e. h.0 (tail-eq_of_cons-eq e), fresh_down i q s c n h.1)

distinct_down : (i : ℕ) (s : List Binder) (c : Bool) (n : Option Name) → Distinct (places s)
    → Distinct (places (map (down i) s ++ cond c (record { called = n; place = [] } ∷ []) []))
distinct_down i [] true n h = (tt, tt)
distinct_down i [] false n h = tt
distinct_down i (b ∷ s) c n h = (fresh_down i b.place s c n h.0, distinct_down i s c n h.1)

distinct : (p : Place) (t : Term) → Distinct (places (scope p t))
distinct [] t = tt
distinct (i ∷ p) t = go (distinct p) (pick t.args i)
  where
    go : ((t : Term) → Distinct (places (scope p t))) → (x : Option Term) → Distinct (places (maybe x [] (λ v. map (down i) (scope p v) ++ own t.label i)))
    go ih none = tt
    go ih (some u) = distinct_down i (scope p u) (covers t.label.kind i) (bound_name t.label.kind t.label.name) (ih u)

-- The first of a name, by place and by index.
fresh_first : (x : Name) (q : Place) (s : List Binder) → Fresh q (places s) → first x s ≡ some q → ⊥
fresh_first x q [] h e = none_some e
fresh_first x q (b ∷ s) h e = go (fresh_first x q s h.1) (called? x b.called)
  where
    go : (first x s ≡ some q → ⊥) → Dec (some x ≡ b.called) → ⊥
    go ih (yes a) = h.0 (cc (first_yes x b s a))
    go ih (no a) = ih (sym (first_no x b s a) ∙ e)

first_to : (x y : Name) (s r : List Binder) (q : Place) → places s ≡ places r → Distinct (places s)
    → first x s ≡ some q → first y r ≡ some q → (i : ℕ) × (find_local x (calls s) ≡ some i) × (find_local y (calls r) ≡ some i)
first_to x y [] r q h d e f = none_some e
first_to x y (b ∷ s) [] q h d e f = none_some f
first_to x y (b ∷ s) (c ∷ r) q h d e f = go (first_to x y s r q (tail-eq_of_cons-eq h) d.1) (called? x b.called) (called? y c.called)
  where
    go : (first x s ≡ some q → first y r ≡ some q → (i : ℕ) × (find_local x (calls s) ≡ some i) × (find_local y (calls r) ≡ some i))
        → Dec (some x ≡ b.called) → Dec (some y ≡ c.called) → (i : ℕ) × (find_local x (calls (b ∷ s)) ≡ some i) × (find_local y (calls (c ∷ r)) ≡ some i)
    go ih (yes m) (yes n) = (zero, local_yes x b.called (calls s) m, local_yes y c.called (calls r) n)
    go ih (yes m) (no n) = absurd (fresh_first y b.place r (rw (tail-eq_of_cons-eq h) at d.0) (cc (first_yes x b s m, first_no y c r n)))
    go ih (no m) (yes n) = absurd (fresh_first x b.place s d.0 (cc (first_yes y c r n, first_no x b s m)))
    go ih (no m) (no n) =
        let w = ih (sym (first_no x b s m) ∙ e) (sym (first_no y c r n) ∙ f) in
        (suc w.0, local_no x b.called (calls s) m ∙ ap next_number w.1, local_no y c.called (calls r) n ∙ ap next_number w.2)

first_from : (x y : Name) (s r : List Binder) (i : ℕ) → places s ≡ places r
    → find_local x (calls s) ≡ some i → find_local y (calls r) ≡ some i → (q : Place) × (first x s ≡ some q) × (first y r ≡ some q)
unfolding find_local
first_from x y [] r i h e f = none_some e
first_from x y (b ∷ s) [] i h e f = none_some f
first_from x y (b ∷ s) (c ∷ r) i h e f = go (λ i. first_from x y s r i (tail-eq_of_cons-eq h)) (called? x b.called) (called? y c.called) i e f
  where
    go : ((i : ℕ) → find_local x (calls s) ≡ some i → find_local y (calls r) ≡ some i → (q : Place) × (first x s ≡ some q) × (first y r ≡ some q))
        → Dec (some x ≡ b.called) → Dec (some y ≡ c.called) → (i : ℕ) → find_local x (calls (b ∷ s)) ≡ some i → find_local y (calls (c ∷ r)) ≡ some i
        → (q : Place) × (first x (b ∷ s) ≡ some q) × (first y (c ∷ r) ≡ some q)
    go ih (yes m) (yes n) i e f = (b.place, first_yes x b s m, cc (first_yes y c r n))
    go ih (yes m) (no n) i e f = absurd (not_first (find_local y (calls r)) (cc (local_yes x b.called (calls s) m, local_no y c.called (calls r) n)))
    go ih (no m) (yes n) i e f = absurd (not_first (find_local x (calls s)) (cc (local_yes y c.called (calls r) n, local_no x b.called (calls s) m)))
    go ih (no m) (no n) zero e f = absurd (not_first (find_local x (calls s)) (sym (local_no x b.called (calls s) m) ∙ e))
    go ih (no m) (no n) (suc i) e f =
        let w = ih i (one_less (find_local x (calls s)) i (sym (local_no x b.called (calls s) m) ∙ e)) (one_less (find_local y (calls r)) i (sym (local_no y c.called (calls r) n) ∙ f)) in
        (w.0, first_no x b s m ∙ w.1, first_no y c r n ∙ w.2)

none_to : (x : Name) (s : List Binder) → first x s ≡ none → find_local x (calls s) ≡ none
unfolding find_local
none_to x [] e = refl
none_to x (b ∷ s) e = go (none_to x s) (called? x b.called)
  where
    go : (first x s ≡ none → find_local x (calls s) ≡ none) → Dec (some x ≡ b.called) → find_local x (calls (b ∷ s)) ≡ none
    go ih (yes m) = none_some (sym e ∙ first_yes x b s m)
    go ih (no m) = local_no x b.called (calls s) m ∙ ap next_number (ih (sym (first_no x b s m) ∙ e))

none_from : (x : Name) (s : List Binder) → find_local x (calls s) ≡ none → first x s ≡ none
none_from x [] e = refl
none_from x (b ∷ s) e = go (none_from x s) (called? x b.called)
  where
    go : (find_local x (calls s) ≡ none → first x s ≡ none) → Dec (some x ≡ b.called) → first x (b ∷ s) ≡ none
    go ih (yes m) = none_some (sym e ∙ local_yes x b.called (calls s) m)
    go ih (no m) = first_no x b s m ∙ ih (still_none (find_local x (calls s)) (sym (local_no x b.called (calls s) m) ∙ e))

-- Two refs at one place of terms with the same forms.
names_top : (p : Place) (t : Term) → names [] p t ≡ calls (scope p t)
names_top p t = names_calls p [] t ∙ append-nil (calls (scope p t))

ref_to : (t u : Term) (p : Place) (x y : Name) → ((p : Place) → form_at (at p t) ≡ form_at (at p u)) → SameFirst t u p x y → RefIdx (names [] p t) (names [] p u) x y
ref_to t u p x y h (inl (q, e, f)) = rw (names_top p t, names_top p u) (inl (first_to x y (scope p t) (scope p u) q (same_places p t u h) (distinct p t) e f))
ref_to t u p x y h (inr (e, f, g)) = rw (names_top p t, names_top p u) (inr (none_to x (scope p t) e, none_to y (scope p u) f, g))

ref_from : (t u : Term) (p : Place) (x y : Name) → ((p : Place) → form_at (at p t) ≡ form_at (at p u)) → RefIdx (names [] p t) (names [] p u) x y → SameFirst t u p x y
ref_from t u p x y h (inl (i, e, f)) = inl (first_from x y (scope p t) (scope p u) i (same_places p t u h) (rw (names_top p t) at e) (rw (names_top p u) at f))
ref_from t u p x y h (inr (e, f, g)) = inr (none_from x (scope p t) (rw (names_top p t) at e), none_from y (scope p u) (rw (names_top p u) at f), g)

pub agree_to : (t u : Term) → Agree t u → AgreeIdx [] [] t u
agree_to t u k p =
    let h = (agree_first t u).1 k in
    record {
      same_form = (h p).same_form;
      same_digits = (h p).same_digits;
      same_ref = λ a b e f g. ref_to t u p a.label.name b.label.name (λ q. (h q).same_form) ((h p).same_ref a b e f g);
    }

pub agree_from : (t u : Term) → AgreeIdx [] [] t u → Agree t u
agree_from t u h = (agree_first t u).0 (λ p. record {
  same_form = (h p).same_form;
  same_digits = (h p).same_digits;
  same_ref = λ a b e f g. ref_from t u p a.label.name b.label.name (λ q. (h q).same_form) ((h p).same_ref a b e f g);
})
