-- Equal cores are terms that agree by the numbers of their local binders.
use mathlib.Core.Path.{◌≡◌, refl, sym, ap, ◌∙◌, subst₂}
use mathlib.Core.Logic.{◌⊎◌, inl, inr, by_cases}
use mathlib.Core.List.{List, [], ◌∷◌}
use mathlib.Core.Option.{Option, none, some}
use mathlib.Core.Bool.{Bool, true, false, cond}
use Prim.Native.Nat.{ℕ, zero, suc}
use native.Mathlib.Decide.{ℕ_discrete}
use native.Mathlib.Omega.{arith}
use lib.Dec.{eqb}
use borrow.Author.Tests.{eqb-true, eq-eqb}
use Rattle.terms.specs.Forms.{universe, ref, counts_as}
use Rattle.terms.specs.Tree.{nil, node, Place, then, maybe, pick, at}
use Rattle.terms.specs.Label.{Name, Named, Terms, Term}
use Rattle.terms.specs.Agreement.{Alike}
use Rattle.terms.specs.Resolution.{Locals, find, find_local}
use Rattle.terms.proofs.Names.{none_some, some_inj, find_inj}
use Rattle.terms.proofs.Arrow.{kinds_same, kind_is}
use Rattle.terms.proofs.NamedCore.{form, found, digits_of, core_at, core_at_ref, core_at_form, inner, core, is_known, known, known_node}

-- The local binders at a place.
abbrev pub names : Locals → Place → Term → Locals
names l [] t = l
names l (i ∷ p) t = maybe (pick t.args i) l (names (inner t.label l i) p)

abbrev pub RefIdx : Locals → Locals → Name → Name → Type 0
RefIdx l m x y = ((i : ℕ) × (find_local x l ≡ some i) × (find_local y m ≡ some i)) ⊎ ((find_local x l ≡ none) × (find_local y m ≡ none) × (x ≡ y))

abbrev pub AgreeIdx : Locals → Locals → Term → Term → Type 0
AgreeIdx l m t u = (p : Place) → Alike (RefIdx (names l p t) (names m p u)) (at p t) (at p u)

abbrev pub PickIdx : Locals → Locals → Option Term → Option Term → Type 0
PickIdx l m none none = Unit {0}
PickIdx l m none (some u) = ⊥
PickIdx l m (some t) none = ⊥
PickIdx l m (some t) (some u) = AgreeIdx l m t u

-- The same, a place further down.
abbrev StepIdx : Locals → Locals → Locals → Locals → Option Term → Option Term → Place → Type 0
StepIdx l' m' l m x y p = Alike (RefIdx (maybe x l' (names l p)) (maybe y m' (names m p))) (then x (at p)) (then y (at p))

down_step : (l' m' l m : Locals) (x y : Option Term) → ((p : Place) → StepIdx l' m' l m x y p) → PickIdx l m x y
down_step l' m' l m none none h = tt
down_step l' m' l m none (some u) h = none_some (h []).same_form
down_step l' m' l m (some t) none h = none_some (sym (h []).same_form)
down_step l' m' l m (some t) (some u) h = h

up_step : (l' m' l m : Locals) (x y : Option Term) → PickIdx l m x y → (p : Place) → StepIdx l' m' l m x y p
up_step l' m' l m none none h p = record { same_form = refl; same_digits = λ a b e. none_some e; same_ref = λ a b e. none_some e }
up_step l' m' l m none (some u) h p = absurd h
up_step l' m' l m (some t) none h p = absurd h
up_step l' m' l m (some t) (some u) h p = h p

pub record HeadIdx (l m : Locals) (s t : Named) : Type 0 where
  pub kinds : counts_as s.kind ≡ counts_as t.kind
  pub digits : s.kind ≡ universe → s.name ≡ t.name
  pub refs : s.kind ≡ ref → RefIdx l m s.name t.name

abbrev ArgsIdx : Locals → Locals → Term → Term → Type 0
ArgsIdx l m t u = (i : ℕ) → PickIdx (inner t.label l i) (inner u.label m i) (pick t.args i) (pick u.args i)

node_down : (l m : Locals) (t u : Term) → AgreeIdx l m t u → HeadIdx l m t.label u.label × ArgsIdx l m t u
node_down l m t u h = (
  record { kinds = some_inj (h []).same_form; digits = (h []).same_digits t u refl refl; refs = (h []).same_ref t u refl refl },
  λ i. down_step l m _ _ (pick t.args i) (pick u.args i) (λ p. h (i ∷ p)),
)

node_up : (l m : Locals) (t u : Term) → HeadIdx l m t.label u.label → ArgsIdx l m t u → AgreeIdx l m t u
node_up l m t u h k [] = record {
  same_form = ap {B = Option ℕ} some h.kinds;
  same_digits = λ a b e f g. cc (h.digits (ap (λ (x : Term). x.label.kind) (some_inj e) ∙ g));
  same_ref = λ a b e f g. subst₂ (λ (x y : Term). RefIdx l m x.label.name y.label.name) (some_inj e) (some_inj f) (h.refs (ap (λ (x : Term). x.label.kind) (some_inj e) ∙ g));
}
node_up l m t u h k (i ∷ p) = up_step l m _ _ (pick t.args i) (pick u.args i) (k i) p

digits_from : (k j : ℕ) (n o : Name) → counts_as k ≡ counts_as j → (k ≡ universe → n ≡ o) → cond (eqb k universe) n [] ≡ cond (eqb j universe) o []
digits_from k j n o e h = go (eqb k universe) refl ∙ kinds_same (λ (i : ℕ). cond (eqb i universe) o []) refl k j e
  where
    go : (b : Bool) → eqb k universe ≡ b → cond b n [] ≡ cond b o []
    go true q = h (eqb-true k universe q)
    go false q = refl

digits_to : (k j : ℕ) (n o : Name) → counts_as k ≡ counts_as j → cond (eqb k universe) n [] ≡ cond (eqb j universe) o [] → k ≡ universe → n ≡ o
digits_to k j n o e h f =
    ap (λ (b : Bool). cond b n []) (sym (eq-eqb k universe f)) ∙ h ∙ ap (λ (b : Bool). cond b o []) (eq-eqb j universe (kind_is universe k j refl e f))

head_from : (l m : Locals) (g : List Name) (s t : Named) → HeadIdx l m s t → core_at l g s ≡ core_at m g t
head_from l m g s t h = by_cases (ℕ_discrete s.kind ref) (λ e. is_ref e (h.refs e)) is_plain
  where
    is_ref : s.kind ≡ ref → RefIdx l m s.name t.name → core_at l g s ≡ core_at m g t
    is_ref e (inl (i, p, q)) = cc (core_at_ref l g s e, core_at_ref m g t (kind_is ref s.kind t.kind refl h.kinds e))
    is_ref e (inr (p, q, r)) = cc (core_at_ref l g s e, core_at_ref m g t (kind_is ref s.kind t.kind refl h.kinds e))

    is_plain : ¬ (s.kind ≡ ref) → core_at l g s ≡ core_at m g t
    is_plain e =
        let d : digits_of s ≡ digits_of t = digits_from s.kind t.kind s.name t.name h.kinds h.digits in
        core_at_form l g s e ∙ (λ i. form (h.kinds i) (d i)) ∙ sym (core_at_form m g t (λ f. e (kind_is ref t.kind s.kind refl (sym h.kinds) f)))

FoundSame : Option ℕ → Option ℕ → Option ℕ → Option ℕ → Type 0
FoundSame a a' b b' = ((i : ℕ) × (a ≡ some i) × (a' ≡ some i)) ⊎ ((j : ℕ) × (a ≡ none) × (a' ≡ none) × (b ≡ some j) × (b' ≡ some j))

found_to : (a a' b b' : Option ℕ) → is_known (found a b) ≡ true → found a b ≡ found a' b' → FoundSame a a' b b'
unfolding FoundSame
found_to (some i) (some i') b b' k e = inl (i, refl, cc)
found_to (some i) none b (some j) k e = absurd (let z : ◌≡◌ {A = ℕ} 0 1 = cc in omega arith)
found_to (some i) none b none k e = absurd (let z : ◌≡◌ {A = ℕ} 0 1 = cc in omega arith)
found_to none (some i) (some j) b' k e = absurd (let z : ◌≡◌ {A = ℕ} 0 1 = cc in omega arith)
found_to none (some i) none b' k e = absurd (let z : ◌≡◌ {A = ℕ} 0 1 = cc in omega arith)
found_to none none (some j) (some j') k e = inr (j, refl, refl, refl, cc)
found_to none none (some j) none k e = absurd (let z : ◌≡◌ {A = ℕ} 0 1 = cc in omega arith)
found_to none none none b' k e = absurd (let z : ◌≡◌ {A = ℕ} 0 1 = cc in omega arith)

found_form : (a b : Option ℕ) (k : ℕ) (d : Name) → found a b ≡ form k d → ⊥
found_form (some i) b k d e = let z : ◌≡◌ {A = ℕ} 0 1 = cc in omega arith
found_form none (some j) k d e = let z : ◌≡◌ {A = ℕ} 0 1 = cc in omega arith
found_form none none k d e = let z : ◌≡◌ {A = ℕ} 0 1 = cc in omega arith

refs_to : (l m : Locals) (g : List Name) (n o : Name) → FoundSame (find_local n l) (find_local o m) (find n g) (find o g) → RefIdx l m n o
unfolding FoundSame
refs_to l m g n o (inl (i, p, q)) = inl (i, p, q)
refs_to l m g n o (inr (j, p, q, r, s)) = inr (p, q, find_inj n o g j r s)

head_to : (l m : Locals) (g : List Name) (s t : Named) → is_known (core_at l g s) ≡ true → core_at l g s ≡ core_at m g t → HeadIdx l m s t
head_to l m g s t kn h = go (ℕ_discrete s.kind ref) (ℕ_discrete t.kind ref)
  where
    go : Dec (s.kind ≡ ref) → Dec (t.kind ≡ ref) → HeadIdx l m s t
    go (yes a) (yes b) =
        record {
          kinds = ap counts_as (a ∙ sym b);
          digits = λ u. absurd (let z : ◌≡◌ {A = ℕ} 3 24 = cc in omega arith);
          refs = λ _. refs_to l m g s.name t.name (found_to (find_local s.name l) (find_local t.name m) (find s.name g) (find t.name g) (cc (core_at_ref l g s a)) (cc (core_at_ref l g s a, core_at_ref m g t b)));
        }
    go (yes a) (no b) = absurd (found_form (find_local s.name l) (find s.name g) _ _ (sym (core_at_ref l g s a) ∙ h ∙ core_at_form m g t b))
    go (no a) (yes b) = absurd (found_form (find_local t.name m) (find t.name g) _ _ (sym (core_at_ref m g t b) ∙ sym h ∙ core_at_form l g s a))
    go (no a) (no b) =
        let e : form (counts_as s.kind) (digits_of s) ≡ form (counts_as t.kind) (digits_of t) = sym (core_at_form l g s a) ∙ h ∙ core_at_form m g t b in
        record {
          kinds = cc;
          digits = digits_to s.kind t.kind s.name t.name (cc) (cc);
          refs = λ r. absurd (a r);
        }

-- Equal core terms are terms that agree by indices, term by term.
abbrev pub AllIdx : (ℕ → Locals) → (ℕ → Locals) → Terms → Terms → Type 0
AllIdx d e f g = (i : ℕ) → PickIdx (d i) (e i) (pick f i) (pick g i)

pub core_from : (g : List Name) (d e : ℕ → Locals) (s t : Terms) → AllIdx d e s t → core d g s ≡ core e g t
core_from g d e nil nil h = refl
core_from g d e nil (node m b t) h = absurd (h zero)
core_from g d e (node l a s) nil h = absurd (h zero)
core_from g d e (node l a s) (node m b t) h =
    let w = node_down (d zero) (e zero) (record { label = l; args = a }) (record { label = m; args = b }) (h zero) in
    let x = head_from (d zero) (e zero) g l m w.0 in
    let y = core_from g (inner l (d zero)) (inner m (e zero)) a b w.1 in
    let z = core_from g (λ i. d (suc i)) (λ i. e (suc i)) s t (λ i. h (suc i)) in
    λ i. node (x i) (y i) (z i)

pub core_to : (g : List Name) (d e : ℕ → Locals) (s t : Terms) → known d g s ≡ true → core d g s ≡ core e g t → AllIdx d e s t
core_to g d e nil nil kn h i = tt
core_to g d e nil (node m b t) kn h i = absurd (let z : ◌≡◌ {A = ℕ} 0 1 = cc in omega arith)
core_to g d e (node l a s) nil kn h i = absurd (let z : ◌≡◌ {A = ℕ} 0 1 = cc in omega arith)
core_to g d e (node l a s) (node m b t) kn h zero =
    let k = known_node d g l a s kn in
    node_up (d zero) (e zero) (record { label = l; args = a }) (record { label = m; args = b })
    (head_to (d zero) (e zero) g l m k.0 (cc))
    (core_to g (inner l (d zero)) (inner m (e zero)) a b k.1 (cc))
core_to g d e (node l a s) (node m b t) kn h (suc i) =
    core_to g (λ i. d (suc i)) (λ i. e (suc i)) s t (known_node d g l a s kn).2 (cc) i
