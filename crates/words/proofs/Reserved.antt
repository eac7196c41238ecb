-- The reserved words by their index.
use Prim.Native.Nat.{ℕ, suc, ◌+◌, ◌<◌}
use mathlib.Core.Path.{◌≡◌, refl, sym, ◌∙◌, ap}
use mathlib.Core.Bool.{Bool, true, false, not}
use mathlib.Core.List.{List, [], ◌∷◌}
use native.Mathlib.Omega.{arith}
use lib.ListN.{length, get_or}
use lib.Dec.{eqb}
use borrow.Author.Tests.{eq-eqb, ne_eqb, eqb-true, eqb-false, not-true, not-false}
use Rattle.words.specs.Words.{same_bytes, reserved_words, place_in, word_index, reserved}
use Rattle.words.proofs.Every.{Every, at}
use Rattle.words.proofs.Names.{same_eq}

-- Place p holds w in a list of words, the first of which has place k.
record Holds (k : ℕ) (w : List ℕ) (vs : List (List ℕ)) (p : ℕ) : Type 0 where
  nth : ℕ
  place : p ≡ k + nth
  inside : nth < length vs
  same : w ≡ get_or vs nth []

place_holds : (k : ℕ) (w : List ℕ) (vs : List (List ℕ)) → (place_in k w vs ≡ 0 → ⊥) → Holds k w vs (place_in k w vs)
unfolding place_in
place_holds k w [] n = absurd (n refl)
place_holds k w (v ∷ vs) n = by (same_bytes w v) refl (place_holds (k + 1) w vs)
  where
    by : (t : Bool) → same_bytes w v ≡ t → ((place_in (k + 1) w vs ≡ 0 → ⊥) → Holds (k + 1) w vs (place_in (k + 1) w vs))
        → Holds k w (v ∷ vs) (place_in k w (v ∷ vs))
    by true e later = rw (e, place_in) (record { nth = 0; place = omega arith; inside = omega arith; same = same_eq w v e })
    by false e later =
        let h : Holds (k + 1) w vs (place_in (k + 1) w vs) = later (rw (e, place_in) at n) in
        rw (e, place_in) (record { nth = suc h.nth; place = omega arith; inside = omega arith; same = h.same })

-- Word k of the 27 reserved words, from 1; word 0 is the empty atom, which is none.
abbrev pub word : ℕ → List ℕ
word k = get_or ([] ∷ reserved_words) k []

pub record IsWord (w : List ℕ) (k : ℕ) : Type 0 where
  pub high : k < 28
  pub same : w ≡ word k

-- A reserved word is the word that its index says.
pub word_of_index : (w : List ℕ) → (word_index w ≡ 0 → ⊥) → IsWord w (word_index w)
unfolding word_index reserved_words
word_of_index w n =
    let h : Holds 1 w reserved_words (word_index w) = place_holds 1 w reserved_words n in
    let q : word_index w ≡ suc h.nth = omega arith in
    record { high = omega arith; same = h.same ∙ ap word (sym q) }

indices : Every (λ (k : ℕ). eqb (word_index (word k)) k) 28
unfolding word_index place_in same_bytes reserved_words
indices = record { computed = refl }

pub index_of_word : (k : ℕ) → k < 28 → word_index (word k) ≡ k
index_of_word k h = eqb-true (word_index (word k)) k (at indices k h)

-- The index of a reserved word determines it.
pub same_index : (v w : List ℕ) → word_index v ≡ word_index w → (word_index w ≡ 0 → ⊥) → v ≡ w
same_index v w e n = (word_of_index v (λ q. n (sym e ∙ q))).same ∙ ap word e ∙ sym (word_of_index w n).same

-- An atom is reserved exactly if its index is not 0.
pub reserved_index : (w : List ℕ) → reserved w ≡ true → word_index w ≡ 0 → ⊥
unfolding reserved
reserved_index w e = eqb-false (word_index w) 0 (not-true (eqb (word_index w) 0) e)

pub index_reserved : (w : List ℕ) → (word_index w ≡ 0 → ⊥) → reserved w ≡ true
unfolding reserved
index_reserved w n = ap not (ne_eqb (word_index w) 0 n)

pub unreserved_index : (w : List ℕ) → reserved w ≡ false → word_index w ≡ 0
unfolding reserved
unreserved_index w e = eqb-true (word_index w) 0 (not-false (eqb (word_index w) 0) e)

pub index_unreserved : (w : List ℕ) → word_index w ≡ 0 → reserved w ≡ false
unfolding reserved
index_unreserved w z = ap not (eq-eqb (word_index w) 0 z)
