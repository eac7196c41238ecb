-- Ours: runs of ASCII bytes, which `valid_up_to` passes over in blocks.
use Rattle.std.specs.Prelude.{◌≡◌, List, [], ◌∷◌, Bool, true, false, ◌&&◌, ℕ, ◌+◌, ◌≤◌, ltb, length, drop}

-- Whether every byte is ASCII.
unfoldable pub ascii : List ℕ → Bool
ascii [] = true
ascii (b ∷ l) = ltb b 0x80 && ascii l

-- Where the ASCII bytes end that stand at an offset, before the bytes of a list.
unfoldable pub ascii_end : ℕ → List ℕ → ℕ
ascii_end at [] = at
ascii_end at (b ∷ l) = elim (ltb b 0x80) [ true ↦ ascii_end (at + 1) l | false ↦ at ]

-- The ASCII bytes from r on end where those from `at` on do.
pub record SameEnd (s : List ℕ) (at r : ℕ) : Type 0 where
  pub low : at ≤ r
  pub high : r ≤ length s
  pub same : ascii_end at (drop at s) ≡ ascii_end r (drop r s)
