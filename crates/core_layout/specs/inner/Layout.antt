-- The layout of a print: what stands between its tokens.
use Rattle.std.specs.Prelude.{List, [], ◌∷◌, Bool, true, false, ◌&&◌, ◌||◌, ℕ, zero, suc, ◌-◌, length, Ok, Err}
use Rattle.token.specs.declared.TokenKind.{TokenKind}
use Rattle.core_token.specs.CoreToken.{next_core_token}
use Rattle.words.specs.Words.{same_bytes}
use Rattle.terms.specs.Label.{part}
use Rattle.surface.specs.Text.{is_open, is_end}

-- What a print has in front of a token of a kind, which stands at the text's start or behind an opening parenthesis (true), or behind another
-- token (false): nothing behind `(` and before `)`, byte 10 before the end, else one space.
abbrev pub gap : Bool → TokenKind → List ℕ
gap true k = []
gap false TokenKind.LParen = 32 ∷ []
gap false TokenKind.RParen = []
gap false TokenKind.Atom = 32 ∷ []
gap false TokenKind.String = 32 ∷ []
gap false TokenKind.Eof = 10 ∷ []

module _ (t : List ℕ) where
  -- Whether the tokens from an offset on stand as in a print. At most so many are looked at.
  unfoldable pub laid_out : ℕ → Bool → ℕ → Bool
  laid_out zero tight at = false
  laid_out (suc n) tight at =
      elim (next_core_token t at) [
        | Err r ↦ false
        | Ok u ↦ same_bytes (part t at (u.start - at)) (gap tight u.kind) && (is_end u.kind || laid_out n (is_open u.kind) u.end)
      ]

-- Whether a text has the layout of a print. Each token but the last has a byte.
unfoldable pub canonical_layout : List ℕ → Bool
canonical_layout t = laid_out t (suc (length t)) true 0
