-- Ours: a comment by itself, which `skip_layout` passes over at once.
use Rattle.std.specs.Prelude.{ℕ, ◌+◌, ◌≤◌, List, [], ◌∷◌, ◌≡◌, Bool, true, false, not, eqb, length, drop}

-- Where a comment ends that goes on at an offset, before the bytes of a list: at byte 10, or the end.
unfoldable pub comment_end : ℕ → List ℕ → ℕ
comment_end at [] = at
comment_end at (b ∷ l) = elim (eqb b 10) [ true ↦ at | false ↦ comment_end (at + 1) l ]

-- Whether a comment goes on over a byte.
abbrev pub no_end : ℕ → Bool
no_end b = not (eqb b 10)

-- A comment that goes on at `at` ends where one does that goes on at r.
pub record SameComment (s : List ℕ) (at r : ℕ) : Type 0 where
  pub low : at ≤ r
  pub high : r ≤ length s
  pub same : comment_end at (drop at s) ≡ comment_end r (drop r s)
