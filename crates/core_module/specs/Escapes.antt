-- Document 02, Req 03: what a string says and how it is spelled, the two sides of `lex_string` and `write_string`. No other definition rests on
-- these: names are kept, compared and printed as they are spelled, and `OneSpelling` says that this is no loss.
use Rattle.std.specs.Prelude.{List, [], ◌∷◌, Bool, true, false, ◌||◌, ℕ, eqb}

-- `lex_string`: the characters that a spelling stands for; true: behind a backslash. `\` is 92.
unfoldable pub said : Bool → List ℕ → List ℕ
said c [] = []
said true (b ∷ l) = b ∷ said false l
said false (b ∷ l) = elim (eqb b 92) [ true ↦ said true l | false ↦ b ∷ said false l ]

abbrev pub says : List ℕ → List ℕ
says l = said false l

-- `write_string`: `"` and `\` behind a backslash, every other character as it is.
unfoldable pub written : List ℕ → List ℕ
written [] = []
written (b ∷ l) = elim (eqb b 34 || eqb b 92) [ true ↦ 92 ∷ b ∷ written l | false ↦ b ∷ written l ]
