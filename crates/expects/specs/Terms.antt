-- The parts of a term's beginning that have functions of their own.
use Rattle.expects.specs.Answers.{Begun}
use Rattle.token.specs.Token.{Lexed}
use Rattle.std.specs.Prelude.{◌≡◌, List, ℕ, ◌-◌, ◌≤◌, ◌<◌, length}
use Rattle.token.specs.declared.TokenKind.{TokenKind}
use Rattle.token.specs.declared.Token.{Token}
use Rattle.terms.specs.Forms.{Edition, form_of_word}
use Rattle.terms.specs.Label.{Label}
use Rattle.surface.specs.Reader.{after, ◌>>=◌, pure}
use Rattle.surface.specs.Text.{text}
use Rattle.surface.specs.Reading.{leaf, lexed, closing, known, tagged, beginning_on}
use Rattle.expects.specs.Expects.{position_at, begun}
use Rattle.expects.specs.Tokens.{TokenInside}

-- The label of a term of a kind, with its name, numeral or binder x.
abbrev pub label_of : ℕ → Token → ℕ → Label
label_of kind x offset = record { kind = kind; start = x.start; length = x.end - x.start; offset = offset }

-- l is that label, where the words of a row can hold the offsets.
abbrev pub LabelWith : ℕ → Token → ℕ → Label → Type 0
LabelWith kind x offset l = x.end < 4294967296 → offset < 4294967296 → l ≡ label_of kind x offset

-- The same where the form has no such atom.
abbrev pub LabelAlone : ℕ → ℕ → Label → Type 0
LabelAlone kind offset l = offset < 4294967296 → l ≡ record { kind = kind; start = 0; length = 0; offset = offset }

module _ (E : Edition) (s : List ℕ) where
  -- What a term begins with, of which the first token is t, of a kind.
  abbrev pub BeginsOn : Token → TokenKind → Begun → Type 0
  BeginsOn t k r = length s ≤ 4294967295 → TokenInside (length s) t → (n : ℕ) → beginning_on E s t k (position_at t.end n) ≡ begun n r

  -- The same, of which the first tokens are the parenthesis o and the word w.
  abbrev pub BeginsWith : Token → Token → Begun → Type 0
  BeginsWith o w r =
      length s ≤ 4294967295 → TokenInside (length s) o → (n : ℕ)
      → known E s (λ f. tagged E s o w f f.shape) w (form_of_word (text s w) E.forms) (position_at w.end n) ≡ begun n r

-- The rest of a term with the name or numeral x: its closing parenthesis.
abbrev pub ClosesLeaf : Edition → List ℕ → ℕ → ℕ → Lexed → Begun → Type 0
ClosesLeaf E s kind offset x r =
    length s ≤ 4294967295 → offset ≤ length s → (n : ℕ) → after (lexed n x) (λ t. closing (E.tokens s) >>= (λ c. pure (leaf (label_of kind t offset)))) ≡ begun n r
