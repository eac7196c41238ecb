-- Ours: the slots in which the reserved words of fewer than eight bytes are looked for. No promise of an entry point cites them.
use Rattle.std.specs.Prelude.{ℕ, ◌+◌, ◌*◌, ◌/◌, ◌%◌, List, [], ◌∷◌, get_or}
use Rattle.differences.specs.inner.Digits.{digits}
use Rattle.words.specs.Words.{reserved_words}

-- The slot of a word, by its number.
abbrev pub word_slot : ℕ → ℕ
word_slot n = n % 4294967296 * 5011 / 1048576 % 32

-- The places of the words in their slots; 0 where there is none.
abbrev pub slot_places : List ℕ
slot_places =
    9 ∷ 17 ∷ 0 ∷ 24 ∷ 5 ∷ 16 ∷ 13 ∷ 1 ∷ 0 ∷ 27 ∷ 18 ∷ 12 ∷ 0 ∷ 14 ∷ 0 ∷ 2 ∷
    23 ∷ 0 ∷ 0 ∷ 11 ∷ 15 ∷ 6 ∷ 0 ∷ 0 ∷ 0 ∷ 21 ∷ 8 ∷ 20 ∷ 0 ∷ 25 ∷ 10 ∷ []

-- 2^58: what a place counts in an entry, above the number of the word.
abbrev pub place_unit : ℕ
place_unit = 288230376151711744

-- The entry of a slot: the number of its word, and the word's place above it. At place 0 is the empty atom.
unfoldable pub slot_entry : ℕ → ℕ
slot_entry k = let p : ℕ = get_or slot_places k 0 in digits 1 (get_or ([] ∷ reserved_words) p []) + p * place_unit
