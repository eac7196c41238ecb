-- The table of the kinds agrees with the definitions, by one computed test.
use Prim.Native.Nat.{ℕ, zero, suc, ◌+◌, ◌≤◌, ◌<◌}
use mathlib.Core.Path.{◌≡◌, refl, ◌∙◌}
use mathlib.Core.Bool.{Bool, true, false, ◌&&◌}
use mathlib.Core.List.{List, [], ◌∷◌}
use mathlib.Core.Option.{none}
use native.Mathlib.Decide.{dec_lt}
use native.Mathlib.Omega.{arith}
use native.Mathlib.Nat.{add-zero, zero-add, add-suc, suc-add, le_of_suc-le-suc, not-suc-le-zero}
use lib.Dec.{leb, eqb}
use lib.ListN.{get_or, length, get_or-eq_default}
use borrow.Author.Tests.{ne_eqb, eqb-true, leb-true}
use Rattle.words.specs.Words.{same_bytes}
use Rattle.words.proofs.Names.{same_eq}
use Rattle.terms.specs.Forms.{Form, forms, forms_0_2, form_of_kind, arity_of}
use Rattle.terms.specs.Label.{part}
use Rattle.kind_words.specs.declared.Kind.{Kind}
use Rattle.kind_words.specs.KindWords.{words, word_of_kind, field_count}

left : (a b : Bool) → (a && b) ≡ true → a ≡ true
left true b e = refl
left false b e = e

right : (a b : Bool) → (a && b) ≡ true → b ≡ true
right true b e = e
right false b e = cc

-- What the table's entry for kind k must say, as a test and as a fact.
is_right : ℕ → Kind → Bool
is_right k x = same_bytes (part words x.0 x.1) (word_of_kind k) && eqb x.2 (field_count k)

abbrev pub Right : ℕ → Kind → Type 0
Right k x = (part words x.0 x.1 ≡ word_of_kind k) × (x.2 ≡ field_count k)

right_of : (k : ℕ) (x : Kind) → is_right k x ≡ true → Right k x
unfolding is_right
right_of k x t =
    let w = same_bytes (part words x.0 x.1) (word_of_kind k) in
    let n = eqb x.2 (field_count k) in
    (same_eq (part words x.0 x.1) (word_of_kind k) (left w n t), eqb-true x.2 (field_count k) (right w n t))

-- All entries, of which the first is for kind k.
all_right : ℕ → List Kind → Bool
all_right k [] = true
all_right k (x ∷ l) = is_right k x && all_right (suc k) l

right_at : (l : List Kind) (k : ℕ) → all_right k l ≡ true → (i : ℕ) → i < length l → (d : Kind) → Right (k + i) (get_or l i d)
unfolding all_right
right_at [] k t i h d = absurd (not-suc-le-zero h)
right_at (x ∷ l) k t zero h d = rw add-zero (right_of k x (left (is_right k x) (all_right (suc k) l) t))
right_at (x ∷ l) k t (suc i) h d =
    rw (add-suc, ← suc-add) (right_at l (suc k) (right (is_right k x) (all_right (suc k) l) t) i (le_of_suc-le-suc h) d)

unfoldable pub kinds : List Kind
kinds =
    (0, 0, 0) ∷ (0, 3, 1) ∷ (3, 6, 1) ∷ (9, 8, 0) ∷ (17, 2, 2) ∷ (19, 3, 1) ∷ (22, 3, 2) ∷
    (25, 5, 2) ∷ (30, 4, 2) ∷ (34, 3, 1) ∷ (37, 3, 1) ∷ (40, 2, 3) ∷ (42, 4, 1) ∷ (46, 1, 6) ∷
    (47, 5, 0) ∷ (52, 10, 2) ∷ (62, 4, 0) ∷ (66, 4, 0) ∷ (70, 9, 3) ∷ (79, 3, 0) ∷ (82, 4, 0) ∷
    (86, 4, 1) ∷ (90, 8, 4) ∷ (98, 3, 2) ∷ (101, 3, 0) ∷ (0, 0, 2) ∷ []

pub kind_right : (k : ℕ) → k < 26 → (d : Kind) → Right k (get_or kinds k d)
unfolding kinds all_right is_right same_bytes words word_of_kind field_count forms forms_0_2 form_of_kind arity_of
kind_right k h d = rw zero-add at (right_at kinds 0 refl k h d)

-- No form has a kind from 26 on.
all_below : List Form → Bool
all_below [] = true
all_below (f ∷ l) = leb f.kind 25 && all_below l

no_form : (l : List Form) → all_below l ≡ true → (k : ℕ) → 26 ≤ k → form_of_kind k l ≡ none
unfolding form_of_kind all_below
no_form [] t k h = refl
no_form (f ∷ l) t k h =
    let b = leb-true f.kind 25 (left (leb f.kind 25) (all_below l) t) in
    rw (ne_eqb k f.kind (λ e. omega arith), form_of_kind) (no_form l (right (leb f.kind 25) (all_below l) t) k h)

pub none_right : (k : ℕ) → 26 ≤ k → Right k (0, 0, 0)
unfolding all_below forms forms_0_2 word_of_kind field_count arity_of
none_right k h =
    let n = no_form forms refl k h in
    let m = no_form forms_0_2 refl k h in
    let a = ne_eqb k 1 (λ e. omega arith) in
    let b = ne_eqb k 2 (λ e. omega arith) in
    (rw (a, b, n, word_of_kind), rw (a, b, m, field_count, arity_of))

-- Any kind's entry, where a kind behind the table has that of no kind.
pub kind_any : (k : ℕ) (e : Kind) → e ≡ get_or kinds k (0, 0, 0) → Right k e
unfolding kinds
kind_any k e q = elim (dec_lt k 26) [
  | yes h ↦ rw q (kind_right k h (0, 0, 0))
  | no h ↦ rw (q ∙ get_or-eq_default kinds (0, 0, 0) {n = k} (omega arith)) (none_right k (omega arith))
]
