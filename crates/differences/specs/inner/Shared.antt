-- Ours: how far the search has come.
use Rattle.std.specs.Prelude.{ℕ, ◌+◌, ◌≤◌, ◌≡◌, List, length, drop}
use Rattle.differences.specs.Differences.{first_difference}

-- Two names do not differ before i: their first difference is that of what is left of them.
pub record Shared (a b : List ℕ) (i : ℕ) : Type 0 where
  pub high : i ≤ length a
  pub same : first_difference a b ≡ i + first_difference (drop i a) (drop i b)
