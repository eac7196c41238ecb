-- What stands in a table of words after words were stored or cleared.
use Rattle.std.specs.Prelude.{ℕ, ◌+◌, ◌-◌, List, ◌++◌, Bool, cond, leb, length, take, drop, replicate}

-- Whether a run of words fits from word `at` on.
abbrev pub fits : List ℕ → ℕ → List ℕ → Bool
fits t at ws = leb (at + length ws) (length t)

-- The table with the words from word `at` on.
abbrev pub with_words : List ℕ → ℕ → List ℕ → List ℕ
with_words t at ws = take at t ++ ws ++ drop (at + length ws) t

-- A run that does not fit changes nothing.
unfoldable pub stored : List ℕ → ℕ → List ℕ → List ℕ
stored t at ws = cond (fits t at ws) (with_words t at ws) t

-- The table with 0 from word `from` on.
unfoldable pub cleared : List ℕ → ℕ → List ℕ
cleared t from = take from t ++ replicate (length t - from) 0
