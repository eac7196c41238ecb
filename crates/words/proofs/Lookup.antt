-- The index of an atom from its number or its bytes, and 0 where it is none of the words that it could be.
use Prim.Native.Nat.{ℕ, zero, suc, ◌<◌}
use mathlib.Core.Path.{◌≡◌, refl, sym, ◌∙◌, ap}
use mathlib.Core.Bool.{Bool, true, false, not, ◌&&◌, ◌||◌, and-eq-true_iff, false≢true, cond}
use mathlib.Core.Logic.{inr}
use mathlib.Core.List.{List, [], ◌∷◌}
use native.Mathlib.Omega.{arith}
use native.Mathlib.Decide.{ℕ_discrete}
use lib.Dec.{eqb, ltb}
use borrow.Author.Tests.{ltb-true, ne_eqb, eqb-true}
use Rattle.differences.specs.inner.Digits.{digits}
use Rattle.differences.proofs.Digits.{Bytes, same_digits}
use Rattle.words.specs.Words.{same_bytes, reserved_words, word_index}
use Rattle.words.proofs.Every.{Every, at}
use Rattle.words.proofs.Names.{same_eq, same_ne}
use Rattle.words.proofs.Reserved.{word, word_of_index, index_of_word}

index_is : (w : List ℕ) (k : ℕ) → k < 28 → w ≡ word k → k ≡ word_index w
index_is w k h e = sym (ap word_index e ∙ index_of_word k h)

pub index_of_bytes : (w : List ℕ) (k : ℕ) → k < 28 → same_bytes w (word k) ≡ true → k ≡ word_index w
index_of_bytes w k h e = index_is w k h (same_eq w (word k) e)

abbrev all_bytes : List ℕ → Bool
all_bytes [] = true
all_bytes (b ∷ l) = ltb b 256 && all_bytes l

are_bytes : (l : List ℕ) → all_bytes l ≡ true → Bytes l
are_bytes [] e i = ltb-true 0 256 refl
are_bytes (b ∷ l) e zero = ltb-true b 256 ((and-eq-true_iff (ltb b 256) (all_bytes l)).0 e).0
are_bytes (b ∷ l) e (suc i) = are_bytes l ((and-eq-true_iff (ltb b 256) (all_bytes l)).0 e).1 i

words_of_bytes : Every (λ (k : ℕ). all_bytes (word k)) 28
unfolding reserved_words
words_of_bytes = record { computed = refl }

pub index_of_number : (w : List ℕ) (k : ℕ) → Bytes w → k < 28 → digits 1 w ≡ digits 1 (word k) → k ≡ word_index w
index_of_number w k p h e = index_is w k h (same_digits 1 w (word k) p (are_bytes (word k) (at words_of_bytes k h)) (inr (omega arith)) e)

abbrev among : ℕ → List ℕ → Bool
among k [] = false
among k (j ∷ js) = eqb k j || among k js

-- What is known of each of some words.
abbrev pub Each : (ℕ → Type 0) → List ℕ → Type 0
Each P [] = Unit {0}
Each P (k ∷ ks) = Each P ks × P k

each_is : (P : ℕ → Type 0) (k : ℕ) (ks : List ℕ) → among k ks ≡ true → Each P ks → P k
each_is P k [] a e = absurd (false≢true a)
each_is P k (j ∷ js) a e = by (eqb k j) refl a (λ b. each_is P k js b e.0)
  where
    by : (t : Bool) → eqb k j ≡ t → (t || among k js) ≡ true → (among k js ≡ true → P k) → P k
    by true q a later = rw (eqb-true k j q) e.1
    by false q a later = later a

-- Whether word k is one of some words, or fails a test.
abbrev pub covered : (List ℕ → Bool) → List ℕ → ℕ → Bool
covered q ks k = eqb k 0 || (not (q (word k)) || among k ks)

-- An atom that passes a test is none of the words if it is none of those that pass the test.
pub none_of : (q : List ℕ → Bool) (ks : List ℕ) (w : List ℕ) → Every (covered q ks) 28 → q w ≡ true → Each (λ k. w ≡ word k → ⊥) ks → 0 ≡ word_index w
none_of q ks w t e n =
    elim (ℕ_discrete (word_index w) 0) [
      | yes z ↦ sym z
      | no m ↦
          let i = word_of_index w m in
          let p : q (word (word_index w)) ≡ true = ap q (sym i.same) ∙ e in
          absurd (each_is (λ k. w ≡ word k → ⊥) (word_index w) ks (rw (ne_eqb (word_index w) 0 m, p) at (at t (word_index w) i.high)) n i.same)
    ]

-- Of the words that pass a test there are two.
pub one_of_two : (q : List ℕ → Bool) (k j : ℕ) (w : List ℕ) → k < 28 → j < 28 → Every (covered q (j ∷ k ∷ [])) 28 → q w ≡ true
    → cond (same_bytes w (word k)) k (cond (same_bytes w (word j)) j 0) ≡ word_index w
one_of_two q k j w hk hj t e = by (same_bytes w (word k)) refl (same_bytes w (word j)) refl
  where
    by : (a : Bool) → same_bytes w (word k) ≡ a → (b : Bool) → same_bytes w (word j) ≡ b → cond a k (cond b j 0) ≡ word_index w
    by true p b r = index_of_bytes w k hk p
    by false p true r = index_of_bytes w j hj r
    by false p false r = none_of q (j ∷ k ∷ []) w t e ((tt, same_ne w (word k) p), same_ne w (word j) r)
