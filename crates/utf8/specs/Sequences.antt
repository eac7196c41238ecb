-- Ours: a sequence by itself, which `valid_up_to` passes over at once.
use Rattle.std.specs.Prelude.{◌≡◌, List, [], ◌∷◌, Bool, true, false, ◌&&◌, cond, ℕ, suc, ◌+◌, ◌≤◌, ◌<◌, eqb, length, get_or, drop}
use Rattle.std.proofs.Math.Option.{none, some}
use Rattle.utf8.specs.Utf8.{Range, range, in_range, table_3_7, following, valid_from}

-- Whether a list begins with one byte out of each range.
unfoldable pub begins : List Range → List ℕ → Bool
begins [] l = true
begins (r ∷ rs) [] = false
begins (r ∷ rs) (b ∷ l) = in_range r b && begins rs l

-- The length of the sequence that a list begins with, by table 3-7; 0 where it begins with none.
unfoldable pub sequence : List ℕ → ℕ
sequence [] = 0
sequence (b ∷ l) = elim (following b table_3_7) [ none ↦ 0 | some rs ↦ cond (begins rs l) (suc (length rs)) 0 ]

-- The second byte of a sequence of three or four bytes, by the first: the table has an own line for each of four first bytes.
unfoldable pub second : ℕ → Range
second b =
    cond (eqb b 0xE0) (range 0xA0 0xBF)
    (cond (eqb b 0xED) (range 0x80 0x9F)
    (cond (eqb b 0xF0) (range 0x90 0xBF)
    (cond (eqb b 0xF4) (range 0x80 0x8F) (range 0x80 0xBF))))

-- n bytes stand at an offset, of which the first is one from low to high.
pub record First (s : List ℕ) (at n low high : ℕ) : Type 0 where
  pub inside : at + n ≤ length s
  pub least : low ≤ get_or s at 0
  pub greatest : get_or s at 0 ≤ high

-- What is valid from r on is valid from `at` on; where a first byte of two, or none, stands at r, no sequence does.
pub record Pairs (s : List ℕ) (at r : ℕ) : Type 0 where
  pub low : at ≤ r
  pub high : r ≤ length s
  pub same : valid_from at at [] (drop at s) ≡ valid_from r r [] (drop r s)
  pub stop : r < length s → 0x80 ≤ get_or s r 0 → get_or s r 0 < 0xE0 → ◌≡◌ {A = ℕ} 0 (sequence (drop r s))
