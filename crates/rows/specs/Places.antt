-- A table of words as places of equal width: rows of eight words, declaration records of five.
use Rattle.std.specs.Prelude.{ℕ, ◌*◌, ◌/◌, List, Bool, cond, ltb, length}
use Rattle.tables.specs.Tables.{with_words}

-- "surface row table (words divided by 8, rounded down)", "declaration list (words divided by 5, rounded down)": whether there is a place k.
abbrev pub has_place : ℕ → List ℕ → ℕ → Bool
has_place width t k = ltb k (length t / width)

-- The table with the words at place k; without such a place it stays.
unfoldable pub stored_at : ℕ → List ℕ → ℕ → List ℕ → List ℕ
stored_at width t k ws = cond (has_place width t k) (with_words t (k * width) ws) t
