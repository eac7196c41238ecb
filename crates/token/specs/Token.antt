-- Document 01, "The token".
use Rattle.token.specs.declared.Class.{Class}
use Rattle.std.specs.Prelude.{ℕ, ◌+◌, List, [], ◌∷◌, Bool, true, false, ◌&&◌, ◌||◌, cond, drop, leb, eqb, Option, Result, Ok, Err, Some}
use Rattle.token.specs.declared.ByteClass.{ByteClass}
use Rattle.token.specs.declared.ByteClass.TheVariants.{Layout, Comment, LParen, RParen, Atom, Refused}
use Rattle.token.specs.declared.TokenKind.{TokenKind}
use Rattle.token.specs.declared.Token.{Token}
use Rattle.token.specs.declared.Refusal.{Refusal}

-- A token that was read, or the refusal.
abbrev pub Lexed : Type 0
Lexed = Result Token Refusal

-- "A refusal carries its class and a place, which is an offset or nowhere."
abbrev pub Place : Type 0
Place = Option ℕ

-- The bytes from low to high.
abbrev pub within : ℕ → ℕ → ℕ → Bool
within low high b = leb low b && leb b high

-- "Letters A to Z and a to z"
abbrev pub letter : ℕ → Bool
letter b = within 65 90 b || within 97 122 b

-- "digits"
abbrev pub digit : ℕ → Bool
digit b = within 48 57 b

-- "Layout is bytes 9, 10, 13, 32 and comments."
abbrev pub layout_byte : ℕ → Bool
layout_byte b = eqb b 9 || (eqb b 10 || (eqb b 13 || eqb b 32))

-- "Letters A to Z and a to z, digits, `_` and `-` make atoms."
abbrev pub atom_byte : ℕ → Bool
atom_byte b = letter b || (digit b || (eqb b 95 || eqb b 45))

-- What a byte is for; `;` is 59, `(` is 40, `)` is 41.
unfoldable pub byte_class : ℕ → ByteClass
byte_class b =
    cond (layout_byte b) ByteClass.Layout
    (cond (eqb b 59) ByteClass.Comment
    (cond (eqb b 40) ByteClass.LParen
    (cond (eqb b 41) ByteClass.RParen
    (cond (atom_byte b) ByteClass.Atom ByteClass.Refused))))

-- Where the layout ends that stands at an offset, before the bytes of a list; true: inside a comment.
-- "A comment runs from `;` up to byte 10 or the end; byte 13 does not end it."
unfoldable pub layout_end : Bool → ℕ → List ℕ → ℕ
layout_end c at [] = at
layout_end true at (b ∷ l) = elim (eqb b 10) [ true ↦ layout_end false (at + 1) l | false ↦ layout_end true (at + 1) l ]
layout_end false at (b ∷ l) =
    elim (byte_class b) [
      | Layout ↦ layout_end false (at + 1) l
      | Comment ↦ layout_end true (at + 1) l
      | LParen ↦ at
      | RParen ↦ at
      | Atom ↦ at
      | Refused ↦ at
    ]

abbrev pub malformed : ℕ → Lexed
malformed at = Err (record { class = Class.Malformed; place = Some at })

abbrev pub token : TokenKind → ℕ → ℕ → Lexed
token k start end = Ok (record { kind = k; start = start; end = end })

-- "An atom ends before a parenthesis, `;`, layout or the end; another byte inside it .. is refused at that byte's own offset."
unfoldable pub atom_from : ℕ → ℕ → List ℕ → Lexed
atom_from start at [] = token TokenKind.Atom start at
atom_from start at (b ∷ l) =
    elim (byte_class b) [
      | Layout ↦ token TokenKind.Atom start at
      | Comment ↦ token TokenKind.Atom start at
      | LParen ↦ token TokenKind.Atom start at
      | RParen ↦ token TokenKind.Atom start at
      | Atom ↦ atom_from start (at + 1) l
      | Refused ↦ malformed at
    ]

-- "another byte .. where a token should start, is refused at that byte's own offset. The end token's offset is the source length."
unfoldable pub token_here : ℕ → List ℕ → Lexed
token_here at [] = token TokenKind.Eof at at
token_here at (b ∷ l) =
    elim (byte_class b) [
      | Layout ↦ malformed at
      | Comment ↦ malformed at
      | LParen ↦ token TokenKind.LParen at (at + 1)
      | RParen ↦ token TokenKind.RParen at (at + 1)
      | Atom ↦ atom_from at (at + 1) l
      | Refused ↦ malformed at
    ]

-- The first token of a source at or behind an offset.
unfoldable pub next_token : List ℕ → ℕ → Lexed
next_token s at = let p : ℕ = layout_end false at (drop at s) in token_here p (drop p s)
