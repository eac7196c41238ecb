-- The rows of a declaration, by a declaration list.
use Rattle.std.specs.Prelude.{List, ℕ, zero, suc, ◌+◌, ◌*◌, max, get_or}

-- The row behind those of declaration i: its last row is its body's, or its type's.
unfoldable pub row_behind : List ℕ → ℕ → ℕ
row_behind declarations i = max (get_or declarations (i * 5 + 3) 0) (get_or declarations (i * 5 + 4) 0) + 1

unfoldable pub first_row : List ℕ → ℕ → ℕ
first_row declarations zero = 0
first_row declarations (suc i) = row_behind declarations i
