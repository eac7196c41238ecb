-- The room that a form's arguments take, and that they are less to do than the form.
use Prim.Native.Nat.{ℕ, zero, suc, ◌+◌, ◌-◌, ◌*◌, ◌≤◌, ◌<◌}
use mathlib.Core.Path.{◌≡◌, refl, ◌∙◌, ap, subst}
use mathlib.Core.List.{List, [], ◌∷◌}
use mathlib.Core.Bool.{Bool, true, false}
use native.Mathlib.Omega.{arith}
use native.Mathlib.Decide.{ℕ_discrete}
use native.Mathlib.Nat.{suc-mul, mul-le-mul_right}
use lib.ListN.{length}
use Rattle.terms.specs.Forms.{pi, lam, sigma, arrow, forms, forms_0_2, form_of_kind, arity_of}
use Rattle.terms.specs.Resolution.{covers}
use Rattle.rows.proofs.Arities.{arity_at_most_six}
use Rattle.stacks.specs.declared.Work.{Work}
use Rattle.elaborate.specs.Machine.{scheduled_one, scheduled, Room, form_weight, weight}
use Rattle.rows.proofs.Covering.{covers_none}

-- How many work items an argument is, and the arguments from i on.
abbrev pub items_one : Bool → ℕ
items_one true = 3
items_one false = 1

abbrev pub items : ℕ → ℕ → List ℕ → ℕ
items k i [] = 0
items k i (id ∷ ids) = items_one (covers k i) + items k (suc i) ids

length_one : (b : Bool) (form left id : ℕ) (works : List Work) → length (scheduled_one b form left id works) ≡ items_one b + length works
length_one true form left id works = omega arith
length_one false form left id works = omega arith

pub length_scheduled : (k form left i : ℕ) (ids : List ℕ) (works : List Work) → length (scheduled k form left i ids works) ≡ items k i ids + length works
unfolding scheduled
length_scheduled k form left i [] works = omega arith
length_scheduled k form left i (id ∷ ids) works =
    omega (arith, length_one (covers k i) form left id (scheduled k form left (suc i) ids works), length_scheduled k form left (suc i) ids works)

-- A form's arguments are at most six items: only pi, sigma, lam and arrow cover an argument, and they have few.
items_plain : (k i : ℕ) (ids : List ℕ) → ((j : ℕ) → covers k j ≡ false) → items k i ids ≡ length ids
items_plain k i [] h = refl
items_plain k i (id ∷ ids) h = omega (arith, ap items_one (h i), items_plain k (suc i) ids h)

items_two : (k : ℕ) (ids : List ℕ) → length ids ≡ 2 → covers k 0 ≡ false → items k 0 ids ≤ 6
items_two k [] e h = absurd (omega arith)
items_two k (x ∷ []) e h = absurd (omega arith)
items_two k (x ∷ y ∷ []) e h = go (covers k 1)
  where
    go : (b : Bool) → items_one (covers k 0) + (items_one b + 0) ≤ 6
    go true = omega (arith, ap items_one h)
    go false = omega (arith, ap items_one h)
items_two k (x ∷ y ∷ z ∷ ids) e h = absurd (omega arith)

items_single : (k : ℕ) (ids : List ℕ) → length ids ≡ 1 → items k 0 ids ≤ 6
items_single k [] e = absurd (omega arith)
items_single k (x ∷ []) e = go (covers k 0)
  where
    go : (b : Bool) → items_one b + 0 ≤ 6
    go true = omega arith
    go false = omega arith
items_single k (x ∷ y ∷ ids) e = absurd (omega arith)

arities : (arity_of pi ≡ 2) × (arity_of sigma ≡ 2) × (arity_of lam ≡ 1) × (arity_of arrow ≡ 2)
unfolding arity_of form_of_kind forms forms_0_2
arities = (refl, refl, refl, refl)

pub items_few : (k : ℕ) (ids : List ℕ) → length ids ≡ arity_of k → items k 0 ids ≤ 6
items_few k ids e = go (ℕ_discrete k pi) (ℕ_discrete k sigma) (ℕ_discrete k lam) (ℕ_discrete k arrow)
  where
    go : Dec (k ≡ pi) → Dec (k ≡ sigma) → Dec (k ≡ lam) → Dec (k ≡ arrow) → items k 0 ids ≤ 6
    go (yes p) q r u = items_two k ids (e ∙ ap arity_of p ∙ arities.0) (ap (λ (x : ℕ). covers x 0) p)
    go (no p) (yes q) r u = items_two k ids (e ∙ ap arity_of q ∙ arities.1) (ap (λ (x : ℕ). covers x 0) q)
    go (no p) (no q) (yes r) u = items_single k ids (e ∙ ap arity_of r ∙ arities.2)
    go (no p) (no q) (no r) (yes u) = items_two k ids (e ∙ ap arity_of u ∙ arities.3) (ap (λ (x : ℕ). covers x 0) u)
    go (no p) (no q) (no r) (no u) = omega (arith, items_plain k 0 ids (λ j. covers_none k j p q r u), arity_at_most_six k)

room_one : (b : Bool) (form left id : ℕ) (works : List Work) (v l : ℕ) → items_one b + length works + 7 * left ≤ 3585 → v + 5 * left ≤ 2560 → l + 1 + left ≤ 512
    → Room works (v + 1) l → Room (scheduled_one b form left id works) v l
unfolding Room
room_one true form left id works v l p q r h =
    (omega arith, (omega arith, omega arith, omega arith, (omega arith, subst (λ (x : ℕ). Room works (v + 1) x) (let z : l ≡ l + 1 - 1 = omega arith in z) h)))
room_one false form left id works v l p q r h = (omega arith, omega arith, omega arith, h)

pub room_scheduled : (k form left i : ℕ) (ids : List ℕ) (works : List Work) (v l : ℕ) → items k i ids + length works + 7 * left ≤ 3584 → v + length ids + 5 * left ≤ 2561
    → l + 1 + left ≤ 512 → Room works (v + length ids) l → Room (scheduled k form left i ids works) v l
unfolding scheduled
room_scheduled k form left i [] works v l p q r h = subst (λ (x : ℕ). Room works x l) (omega arith) h
room_scheduled k form left i (id ∷ ids) works v l p q r h =
    room_one (covers k i) form left id (scheduled k form left (suc i) ids works) v l
    (omega (arith, length_scheduled k form left (suc i) ids works)) (omega arith) r
    (room_scheduled k form left (suc i) ids works (v + 1) l (omega arith) (omega arith) r (subst (λ (x : ℕ). Room works x l) (omega arith) h))

weight_one : (b : Bool) (form left id : ℕ) (works : List Work) → weight (scheduled_one b form left id works) ≤ form_weight left + 2 + weight works
unfolding weight
weight_one true form left id works = omega arith
weight_one false form left id works = omega arith

weight_scheduled : (k form left i : ℕ) (ids : List ℕ) (works : List Work) → weight (scheduled k form left i ids works) ≤ length ids * (form_weight left + 2) + weight works
unfolding scheduled
weight_scheduled k form left i [] works = omega arith
weight_scheduled k form left i (id ∷ ids) works =
    omega (arith, weight_one (covers k i) form left id (scheduled k form left (suc i) ids works), weight_scheduled k form left (suc i) ids works, suc-mul (length ids) (form_weight left + 2))

pub weight_positive : (left : ℕ) → 0 < form_weight left
unfolding form_weight
weight_positive zero = omega arith
weight_positive (suc left) = omega arith

pub form_less : (k j left : ℕ) (ids : List ℕ) (id : ℕ) (works : List Work) → length ids ≤ 6
    → weight (scheduled k id left 0 ids (Work.Build j id ∷ works)) < weight (Work.Eval id (suc left) ∷ works)
unfolding weight form_weight
form_less k j left ids id works h =
    omega (arith, weight_scheduled k id left 0 ids (Work.Build j id ∷ works), mul-le-mul_right (form_weight left + 2) h)
