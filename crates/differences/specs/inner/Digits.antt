-- Ours: a few bytes as a number, by which blocks of two names are compared and short reserved words are told.
use Rattle.std.specs.Prelude.{ℕ, ◌+◌, ◌*◌, List, [], ◌∷◌}

-- They are digits of base 256, the first byte last, behind a first digit.
unfoldable pub digits : ℕ → List ℕ → ℕ
digits first [] = first
digits first (b ∷ l) = digits first l * 256 + b
