-- Tokens by the number of their kind, and their place in a source.
use Rattle.token.specs.declared.Class.{Class}
use Rattle.token.specs.Token.{Lexed}
use Rattle.std.specs.Prelude.{◌≡◌, ◌⊎◌, List, ℕ, ◌≤◌, ◌<◌, eqb, Ok, Err}
use Rattle.token.specs.declared.TokenKind.{TokenKind}
use Rattle.token.specs.declared.Token.{Token}
use Rattle.surface.specs.Reader.{Reader, ◌>>=◌, ◌>>◌, pure, require, at_token}
use Rattle.surface.specs.Reading.{token}
use Rattle.token.specs.Classes.{NameAt}
use Rattle.expects.specs.declared.Format.{Format}
use Rattle.expects.specs.Formats.{OfSource}
use Rattle.expects.specs.Expects.{Reads}

abbrev pub kind_number : TokenKind → ℕ
kind_number TokenKind.LParen = 0
kind_number TokenKind.RParen = 1
kind_number TokenKind.Atom = 2
kind_number TokenKind.Eof = 3
kind_number TokenKind.String = 4

-- A token of a wanted kind: `opening`, `closing` and `atom` are this.
unfoldable pub of_kind : (ℕ → Lexed) → TokenKind → Reader Token
of_kind next wanted = do
  t ← token next
  require (eqb (kind_number t.kind) (kind_number wanted)) (at_token Class.Malformed t)
  pure t

-- r is that token, where l stands next at an offset.
abbrev pub OfKind : Lexed → TokenKind → Lexed → Type 0
OfKind l wanted r = (next : ℕ → Lexed) (at : ℕ) → l ≡ next at → Reads (of_kind next wanted) at r

-- A token that stands in a source of so many bytes.
pub record TokenInside (hi : ℕ) (t : Token) : Type 0 where
  pub order : t.start ≤ t.end
  pub high : t.end ≤ hi

-- The same, if it is a token at all.
abbrev pub LexedInside : ℕ → Lexed → Type 0
LexedInside hi (Ok t) = TokenInside hi t
LexedInside hi (Err r) = Unit

-- The byte of a parenthesis, and the kind of its token.
abbrev pub IsParen : ℕ → TokenKind → Type 0
IsParen b k = ((b ≡ 40) × (k ≡ TokenKind.LParen)) ⊎ ((b ≡ 41) × (k ≡ TokenKind.RParen))

-- t is a word at an offset of a source, and an identifier there.
pub record IsWordAt (f : Format) (s : List ℕ) (at : ℕ) (t : Token) : Type 0 where
  pub kind : t.kind ≡ TokenKind.Atom
  pub start : t.start ≡ at
  pub some : at < t.end
  pub of_source : OfSource f
  pub name : NameAt s at t.end
