-- Ours: bytes that all pass a test, which are passed over in blocks.
use Rattle.std.specs.Prelude.{ℕ, ◌≤◌, ◌<◌, List, [], ◌∷◌, ◌≡◌, Bool, true, ◌&&◌, length, get_or}

-- Whether every byte of a list passes a test.
unfoldable pub every : (ℕ → Bool) → List ℕ → Bool
every p [] = true
every p (b ∷ l) = p b && every p l

-- Every byte from `at` up to r passes a test.
pub record Passed (p : ℕ → Bool) (s : List ℕ) (at r : ℕ) : Type 0 where
  pub low : at ≤ r
  pub high : r ≤ length s
  pub bytes : (i : ℕ) → at ≤ i → i < r → p (get_or s i 0) ≡ true
