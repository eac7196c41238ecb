-- What binds a reference, computed: the list of the binders around a place.
use mathlib.Core.Path.{◌≡◌, refl, sym, ap, ◌∙◌}
use mathlib.Core.Logic.{◌⊎◌, inl, inr, ◌↔◌, ite, if_pos, if_neg, by_cases}
use mathlib.Core.List.{List, [], ◌∷◌, ◌++◌, map, head-eq_of_cons-eq, tail-eq_of_cons-eq, nil≢cons}
use mathlib.Core.Option.{Option, none, some}
use mathlib.Core.Bool.{Bool, true, false, ◌&&◌, ◌||◌, cond, and-eq-true_iff, true≢false}
use Prim.Native.Nat.{ℕ, suc, ◌≤◌}
use native.Mathlib.Omega.{arith}
use native.Mathlib.Nat.{suc_inj}
use lib.ListN.{length}
use lib.Dec.{eqb, eqb→eq}
use Rattle.terms.specs.Tree.{Place, then, maybe, pick, at}
use Rattle.terms.specs.Forms.{pi, lam, sigma, arrow}
use Rattle.terms.specs.Label.{Name, Named, Term}
use Rattle.terms.specs.Agreement.{Covers, Around, BoundBy, Free, SameRef, Alike, Agree}
use Rattle.terms.specs.Resolution.{covers, bound_name}
use Rattle.terms.proofs.Names.{none_some, some_inj, called?}

-- The test of resolution is what agreement says.
eqb_to : (m n : ℕ) → eqb m n ≡ true → m ≡ n
eqb_to m n e = eqb→eq m n (rw e tt)

or_to : (a b : Bool) → a || b ≡ true → (a ≡ true) ⊎ (b ≡ true)
or_to true b e = inl refl
or_to false b e = inr e

-- A kind that gives a name is no arrow, and the name is the term's.
named_by : (k : ℕ) (x n : Name) → some x ≡ bound_name k n → (eqb k arrow ≡ false) × (x ≡ n)
named_by k x n e = go (eqb k arrow) refl e
  where
    go : (b : Bool) → eqb k arrow ≡ b → some x ≡ cond b none (some n) → (eqb k arrow ≡ false) × (x ≡ n)
    go true a f = none_some (sym f)
    go false a f = (a, some_inj f)

covers_to : (k i : ℕ) → eqb k arrow ≡ false → covers k i ≡ true → Covers k i
covers_to k i n e = go (or_to (((eqb k pi || eqb k sigma) || eqb k arrow) && eqb i 1) (eqb k lam && eqb i 0) e)
  where
    pair : (eqb k pi ≡ true) ⊎ (eqb k sigma ≡ true) → (k ≡ pi) ⊎ (k ≡ sigma)
    pair (inl a) = inl (eqb_to k pi a)
    pair (inr a) = inr (eqb_to k sigma a)

    arm : (eqb k pi || eqb k sigma ≡ true) ⊎ (eqb k arrow ≡ true) → (k ≡ pi) ⊎ (k ≡ sigma)
    arm (inl a) = pair (or_to (eqb k pi) (eqb k sigma) a)
    arm (inr a) = absurd (true≢false (sym a ∙ n))

    go : (((eqb k pi || eqb k sigma) || eqb k arrow) && eqb i 1 ≡ true) ⊎ (eqb k lam && eqb i 0 ≡ true) → Covers k i
    go (inl a) = let w = (and-eq-true_iff ((eqb k pi || eqb k sigma) || eqb k arrow) (eqb i 1)).0 a in inl (arm (or_to (eqb k pi || eqb k sigma) (eqb k arrow) w.0), eqb_to i 1 w.1)
    go (inr a) = let w = (and-eq-true_iff (eqb k lam) (eqb i 0)).0 a in inr (eqb_to k lam w.0, eqb_to i 0 w.1)

-- Where it holds k and i are numerals, and the test computes.
covers_from : (k i : ℕ) (n : Name) → Covers k i → (some n ≡ bound_name k n) × (covers k i ≡ true)
covers_from k i n (inl (inl a, b)) = rw (a, b) (refl, refl)
covers_from k i n (inl (inr a, b)) = rw (a, b) (refl, refl)
covers_from k i n (inr (a, b)) = rw (a, b) (refl, refl)

pub record Binder : Type 0 where
  pub called : Option Name
  pub place : Place

abbrev pub down : ℕ → Binder → Binder
down i b = record { called = b.called; place = i ∷ b.place }

-- The term itself, if it counts in its argument i.
abbrev pub own : Named → ℕ → List Binder
own l i = cond (covers l.kind i) (record { called = bound_name l.kind l.name; place = [] } ∷ []) []

-- The pi, sigma, lam and arrow terms in whose codomain or body a place stands, innermost first; an arrow has no name.
abbrev pub scope : Place → Term → List Binder
scope [] t = []
scope (i ∷ p) t = maybe (pick t.args i) [] (λ u. map (down i) (scope p u) ++ own t.label i)

-- The place of the innermost of them that has a given name.
abbrev pub first : Name → List Binder → Option Place
first x [] = none
first x (b ∷ bs) = ite (called? x b.called) (some b.place) (first x bs)

-- The place of what binds the name x at the place p of t.
abbrev pub binder_place : Name → Place → Term → Option Place
binder_place x p t = first x (scope p t)

abbrev pub SameFirst : Term → Term → Place → Name → Name → Type 0
SameFirst t u p x y =
    ((q : Place) × (binder_place x p t ≡ some q) × (binder_place y p u ≡ some q))
    ⊎ ((binder_place x p t ≡ none) × (binder_place y p u ≡ none) × (x ≡ y))

abbrev pub AgreeFirst : Term → Term → Type 0
AgreeFirst t u = (p : Place) → Alike (SameFirst t u p) (at p t) (at p u)

pub first_yes : (x : Name) (b : Binder) (s : List Binder) → some x ≡ b.called → first x (b ∷ s) ≡ some b.place
first_yes x b s e = if_pos (called? x b.called) e _ _

pub first_no : (x : Name) (b : Binder) (s : List Binder) → ¬ (some x ≡ b.called) → first x (b ∷ s) ≡ first x s
first_no x b s e = if_neg (called? x b.called) e _ _

-- One step down.
around_in : (t u : Term) (x : Name) (i : ℕ) (p q : Place) → pick t.args i ≡ some u → Around u x p q → Around t x (i ∷ p) (i ∷ q)
around_in t u x i p q e h = record {
  binder = h.binder;
  stands = ap (λ (o : Option Term). then o (at q)) e ∙ h.stands;
  same_name = h.same_name;
  argument = h.argument;
  below = h.below;
  reached = ap {B = Place} (λ r. i ∷ r) h.reached;
  covered = h.covered;
}

around_out : (t u : Term) (x : Name) (i j : ℕ) (p q : Place) → pick t.args i ≡ some u → Around t x (i ∷ p) (j ∷ q) → Around u x p q
around_out t u x i j p q e h =
    let k : i ≡ j = head-eq_of_cons-eq h.reached in
    record {
      binder = h.binder;
      stands = sym (ap (λ (o : Option Term). then o (at q)) (sym (ap (pick t.args) k) ∙ e)) ∙ h.stands;
      same_name = h.same_name;
      argument = h.argument;
      below = h.below;
      reached = tail-eq_of_cons-eq h.reached;
      covered = h.covered;
    }

pub first_down : (x : Name) (i : ℕ) (s o : List Binder) → first x (map (down i) s ++ o) ≡ maybe (first x s) (first x o) (λ q. some (i ∷ q))
first_down x i [] o = refl
first_down x i (b ∷ s) o = go (first_down x i s o) (called? x b.called)
  where
    go : first x (map (down i) s ++ o) ≡ maybe (first x s) (first x o) (λ q. some (i ∷ q)) → Dec (some x ≡ b.called)
        → first x (map (down i) (b ∷ s) ++ o) ≡ maybe (first x (b ∷ s)) (first x o) (λ q. some (i ∷ q))
    go ih (yes e) = first_yes x (down i b) (map (down i) s ++ o) e ∙ ap (λ (r : Option Place). maybe r (first x o) (λ q. some (i ∷ q))) (sym (first_yes x b s e))
    go ih (no e) = first_no x (down i b) (map (down i) s ++ o) e ∙ ih ∙ ap (λ (r : Option Place). maybe r (first x o) (λ q. some (i ∷ q))) (sym (first_no x b s e))

-- A term's own binder.
own_some : (x : Name) (l : Named) (i : ℕ) (q : Place) → first x (own l i) ≡ some q → (q ≡ []) × (some x ≡ bound_name l.kind l.name) × (covers l.kind i ≡ true)
own_some x l i q e = go (covers l.kind i) refl e
  where
    go : (c : Bool) → covers l.kind i ≡ c → first x (cond c (record { called = bound_name l.kind l.name; place = [] } ∷ []) []) ≡ some q → (q ≡ []) × (some x ≡ bound_name l.kind l.name) × (covers l.kind i ≡ true)
    go true k f = by_cases (called? x (bound_name l.kind l.name))
        (λ y. (cc (first_yes x (record { called = bound_name l.kind l.name; place = [] }) [] y), y, k))
        (λ n. none_some (sym (first_no x (record { called = bound_name l.kind l.name; place = [] }) [] n) ∙ f))
    go false k f = none_some f

own_none : (x : Name) (l : Named) (i : ℕ) → first x (own l i) ≡ none → some x ≡ bound_name l.kind l.name → covers l.kind i ≡ true → ⊥
own_none x l i e y k = none_some (sym e ∙ ap (λ (c : Bool). first x (cond c (record { called = bound_name l.kind l.name; place = [] } ∷ []) [])) k ∙ first_yes x (record { called = bound_name l.kind l.name; place = [] }) [] y)

Says : Term → Name → Place → Type 0
Says t x p = ((q : Place) → binder_place x p t ≡ some q → BoundBy t x p q) × (binder_place x p t ≡ none → Free t x p)

not_nil : (q : Place) (i : ℕ) (l : Place) → ◌≡◌ {A = Place} [] (q ++ (i ∷ l)) → ⊥
not_nil [] i l e = nil≢cons e
not_nil (j ∷ q) i l e = nil≢cons e

-- Around a place of an argument stand the term itself, perhaps, and what stands around in the argument.
around_top : (t : Term) (x : Name) (i : ℕ) (p : Place) → Around t x (i ∷ p) [] → (some x ≡ bound_name t.label.kind t.label.name) × (covers t.label.kind i ≡ true)
around_top t x i p h =
    let w : t ≡ h.binder = some_inj h.stands in
    let j : i ≡ h.argument = head-eq_of_cons-eq h.reached in
    let c = covers_from t.label.kind i t.label.name (rw (w, j) h.covered) in
    (ap {B = Option Name} some (h.same_name ∙ ap (λ (u : Term). u.label.name) (sym w)) ∙ c.0, c.1)

step_some : (t u : Term) (x : Name) (i : ℕ) (p q : Place) → pick t.args i ≡ some u → BoundBy u x p q → BoundBy t x (i ∷ p) (i ∷ q)
step_some t u x i p q k h = record { around = around_in t u x i p q k h.around; innermost = most }
  where
    most : (r : Place) → Around t x (i ∷ p) r → length r ≤ suc (length q)
    most [] a = omega arith
    most (j ∷ r) a = omega (arith, h.innermost r (around_out t u x i j p r k a))

step_own : (t u : Term) (x : Name) (i : ℕ) (p : Place) → pick t.args i ≡ some u → Free u x p → some x ≡ bound_name t.label.kind t.label.name → covers t.label.kind i ≡ true → BoundBy t x (i ∷ p) []
step_own t u x i p k h n c = record {
  around = record { binder = t; stands = refl; same_name = (named_by t.label.kind x t.label.name n).1; argument = i; below = p; reached = refl; covered = covers_to t.label.kind i (named_by t.label.kind x t.label.name n).0 c };
  innermost = most;
}
  where
    most : (r : Place) → Around t x (i ∷ p) r → length r ≤ 0
    most [] a = omega arith
    most (j ∷ r) a = absurd (h r (around_out t u x i j p r k a))

step_free : (t u : Term) (x : Name) (i : ℕ) (p : Place) → pick t.args i ≡ some u → Free u x p → first x (own t.label i) ≡ none → Free t x (i ∷ p)
step_free t u x i p k h o [] a = let w = around_top t x i p a in own_none x t.label i o w.0 w.1
step_free t u x i p k h o (j ∷ q) a = h q (around_out t u x i j p q k a)

binder_step : (t u : Term) (x : Name) (i : ℕ) (p : Place) → pick t.args i ≡ some u
    → binder_place x (i ∷ p) t ≡ maybe (binder_place x p u) (first x (own t.label i)) (λ q. some (i ∷ q))
binder_step t u x i p k =
    ap (λ (o : Option Term). first x (maybe o [] (λ v. map (down i) (scope p v) ++ own t.label i))) k ∙ first_down x i (scope p u) (own t.label i)

says_step : (t u : Term) (x : Name) (i : ℕ) (p : Place) → pick t.args i ≡ some u → Says u x p → Says t x (i ∷ p)
unfolding Says
says_step t u x i p k ih = go (binder_place x p u) refl
  where
    go : (r : Option Place) → binder_place x p u ≡ r → Says t x (i ∷ p)
    go (some r) e =
        let b : binder_place x (i ∷ p) t ≡ some (i ∷ r) = binder_step t u x i p k ∙ ap (λ (o : Option Place). maybe o (first x (own t.label i)) (λ q. some (i ∷ q))) e in
        (λ q f. rw (← some_inj (sym b ∙ f)) (step_some t u x i p r k (ih.0 r e)), λ f. none_some (sym f ∙ b))
    go none e =
        let b : binder_place x (i ∷ p) t ≡ first x (own t.label i) = binder_step t u x i p k ∙ ap (λ (o : Option Place). maybe o (first x (own t.label i)) (λ q. some (i ∷ q))) e in
        (λ q f. let w = own_some x t.label i q (sym b ∙ f) in rw w.0 (step_own t u x i p k (ih.1 e) w.1 w.2), λ f. step_free t u x i p k (ih.1 e) (sym b ∙ f))

says : (p : Place) (x : Name) (t a : Term) → at p t ≡ some a → Says t x p
unfolding Says
says [] x t a e = (λ q f. none_some f, λ f q h. not_nil q h.argument h.below h.reached)
says (i ∷ p) x t a e = go (λ u. says p x u a) (pick t.args i) refl e
  where
    go : ((u : Term) → at p u ≡ some a → Says u x p) → (o : Option Term) → pick t.args i ≡ o → then o (at p) ≡ some a → Says t x (i ∷ p)
    go ih none k f = none_some f
    go ih (some u) k f = says_step t u x i p k (ih u f)

-- Two places on the way to one place, equally deep, are one.
prefix_same : (q r s t : Place) → q ++ s ≡ r ++ t → length q ≡ length r → q ≡ r
prefix_same [] [] s t e l = refl
prefix_same [] (j ∷ r) s t e l = absurd (omega arith)
prefix_same (i ∷ q) [] s t e l = absurd (omega arith)
prefix_same (i ∷ q) (j ∷ r) s t e l = let w = prefix_same q r s t (tail-eq_of_cons-eq e) (suc_inj l) in λ k. head-eq_of_cons-eq e k ∷ w k

pub bound_one : (t : Term) (x : Name) (p q r : Place) → BoundBy t x p q → BoundBy t x p r → q ≡ r
bound_one t x p q r h k = prefix_same q r (h.around.argument ∷ h.around.below) (k.around.argument ∷ k.around.below)
    (sym h.around.reached ∙ k.around.reached) (omega (arith, h.innermost r k.around, k.innermost q h.around))

-- `binder_place` computes what binds.
pub binder_some : (p : Place) (x : Name) (t a : Term) (q : Place) → at p t ≡ some a → (binder_place x p t ≡ some q) ↔ BoundBy t x p q
unfolding Says
binder_some p x t a q e = ((says p x t a e).0 q, λ h. go h (binder_place x p t) refl)
  where
    go : BoundBy t x p q → (o : Option Place) → binder_place x p t ≡ o → binder_place x p t ≡ some q
    go h none f = absurd ((says p x t a e).1 f q h.around)
    go h (some r) f = f ∙ ap {B = Option Place} some (bound_one t x p r q ((says p x t a e).0 r f) h)

pub binder_none : (p : Place) (x : Name) (t a : Term) → at p t ≡ some a → (binder_place x p t ≡ none) ↔ Free t x p
unfolding Says
binder_none p x t a e = ((says p x t a e).1, λ h. go h (binder_place x p t) refl)
  where
    go : Free t x p → (o : Option Place) → binder_place x p t ≡ o → binder_place x p t ≡ none
    go h none f = f
    go h (some r) f = absurd (h r ((says p x t a e).0 r f).around)

-- Agreement, word for word, is agreement by `binder_place`.
same_ref_to : (t u a b : Term) (p : Place) (x y : Name) → at p t ≡ some a → at p u ≡ some b → SameFirst t u p x y → SameRef t u p x y
same_ref_to t u a b p x y e f (inl (q, g, h)) = inl (q, (binder_some p x t a q e).0 g, (binder_some p y u b q f).0 h)
same_ref_to t u a b p x y e f (inr (g, h, k)) = inr ((binder_none p x t a e).0 g, (binder_none p y u b f).0 h, k)

same_ref_from : (t u a b : Term) (p : Place) (x y : Name) → at p t ≡ some a → at p u ≡ some b → SameRef t u p x y → SameFirst t u p x y
same_ref_from t u a b p x y e f (inl (q, g, h)) = inl (q, (binder_some p x t a q e).1 g, (binder_some p y u b q f).1 h)
same_ref_from t u a b p x y e f (inr (g, h, k)) = inr ((binder_none p x t a e).1 g, (binder_none p y u b f).1 h, k)

pub agree_first : (t u : Term) → AgreeFirst t u ↔ Agree t u
agree_first t u = (
  λ h p. record { same_form = (h p).same_form; same_digits = (h p).same_digits; same_ref = λ a b e f g. same_ref_to t u a b p _ _ e f ((h p).same_ref a b e f g) },
  λ h p. record { same_form = (h p).same_form; same_digits = (h p).same_digits; same_ref = λ a b e f g. same_ref_from t u a b p _ _ e f ((h p).same_ref a b e f g) },
)
