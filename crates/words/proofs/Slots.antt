-- The slots of the short reserved words: what the table of entries says, shown by computed tests of all of it.
use Prim.Native.Nat.{ℕ, ◌+◌, ◌*◌, ◌/◌, ◌%◌, ◌≤◌, ◌<◌}
use mathlib.Core.Path.{◌≡◌, refl, sym, ◌∙◌, ap}
use mathlib.Core.Bool.{true, not, ◌&&◌, ◌||◌, and-eq-true_iff}
use mathlib.Core.List.{List}
use native.Mathlib.Omega.{arith}
use native.Mathlib.Decide.{ℕ_discrete}
use lib.Dec.{eqb, ltb}
use lib.ListN.{length, get_or, get_or-eq_default}
use borrow.Author.Tests.{lt-ltb, ltb-true, ne_eqb, eqb-true}
use Rattle.differences.specs.inner.Digits.{digits}
use Rattle.differences.proofs.Digits.{Bytes}
use Rattle.words.specs.Words.{reserved_words, word_index}
use Rattle.words.specs.Slots.{word_slot, slot_places, place_unit, slot_entry}
use Rattle.words.proofs.Every.{Every, at}
use Rattle.words.proofs.Reserved.{word, word_of_index}
use Rattle.words.proofs.Lookup.{index_of_number}

-- The place of the word in a slot, and what that makes of the entry.
abbrev placed : ℕ → ℕ
placed k = get_or slot_places k 0

abbrev entry_of : ℕ → ℕ
entry_of p = digits 1 (word p) + p * place_unit

-- Behind the slots that have an arm there is no word.
pub entry_behind : (k : ℕ) → 31 ≤ k → 1 ≡ slot_entry k
unfolding slot_entry digits
entry_behind k h = ap entry_of (sym (get_or-eq_default slot_places 0 h))

-- An entry can be taken apart.
apart : Every (λ (k : ℕ). ltb (placed k) 28 && (eqb (slot_entry k / place_unit) (placed k) && eqb (slot_entry k % place_unit) (digits 1 (word (placed k))))) 32
unfolding slot_entry digits reserved_words
apart = record { computed = refl }

-- A short word is in the slot of its number.
found : Every (λ (p : ℕ). eqb p 0 || (not (ltb (length (word p)) 8) || eqb (placed (word_slot (digits 1 (word p)))) p)) 28
unfolding digits reserved_words
found = record { computed = refl }

record Apart (k : ℕ) : Type 0 where
  low : placed k < 28
  place : slot_entry k / place_unit ≡ placed k
  number : slot_entry k % place_unit ≡ digits 1 (word (placed k))

entry_apart : (k : ℕ) → k < 32 → Apart k
entry_apart k h =
    let t = (and-eq-true_iff (ltb (placed k) 28) (eqb (slot_entry k / place_unit) (placed k) && eqb (slot_entry k % place_unit) (digits 1 (word (placed k))))).0 (at apart k h) in
    let u = (and-eq-true_iff (eqb (slot_entry k / place_unit) (placed k)) (eqb (slot_entry k % place_unit) (digits 1 (word (placed k))))).0 t.1 in
    record { low = ltb-true _ _ t.0; place = eqb-true _ _ u.0; number = eqb-true _ _ u.1 }

-- What the entry of the slot of an atom's number tells.
module _ (w : List ℕ) (number slot entry : ℕ) (n : number ≡ digits 1 w) (k : slot ≡ word_slot number) (e : entry ≡ slot_entry slot) where
  in_table : Apart slot
  in_table = entry_apart slot (omega (arith, k))

  pub place_found : Bytes w → entry % place_unit ≡ number → entry / place_unit ≡ word_index w
  place_found b f =
      ap (λ x. x / place_unit) e
      ∙ in_table.place
      ∙ index_of_number w (placed slot) b in_table.low (sym n ∙ sym f ∙ ap (λ x. x % place_unit) e ∙ in_table.number)

  pub none_found : length w < 8 → (entry % place_unit ≡ number → ⊥) → 0 ≡ word_index w
  none_found h f = elim (ℕ_discrete (word_index w) 0) [ yes z ↦ sym z | no m ↦ absurd (is_word m) ]
    where
      is_word : (word_index w ≡ 0 → ⊥) → ⊥
      is_word m =
          let p = word_index w in
          let i = word_of_index w m in
          let short : ltb (length (word p)) 8 ≡ true = ap (λ v. ltb (length v) 8) (sym i.same) ∙ lt-ltb (length w) 8 h in
          let q : placed (word_slot (digits 1 (word p))) ≡ p = eqb-true _ _ (rw (ne_eqb p 0 m, short) at (at found p i.high)) in
          let d : number ≡ digits 1 (word p) = n ∙ ap (digits 1) i.same in
          let r : placed slot ≡ p = ap placed (k ∙ ap word_slot d) ∙ q in
          f (ap (λ x. x % place_unit) e ∙ in_table.number ∙ ap (λ x. digits 1 (word x)) r ∙ sym d)
