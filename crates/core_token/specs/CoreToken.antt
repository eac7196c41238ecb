-- Document 02, Req 03: the tokens of a core text, as `Lexer` in format/parser.rs has them. There are no comments.
use Rattle.std.specs.Prelude.{ℕ, ◌+◌, List, [], ◌∷◌, true, false, ◌||◌, cond, drop, leb, ltb, eqb}
use Rattle.token.specs.Token.{within, layout_byte, malformed, token, Lexed}
use Rattle.token.specs.declared.TokenKind.{TokenKind}
use Rattle.core_token.specs.declared.CoreClass.{CoreClass}
use Rattle.core_token.specs.declared.CoreClass.TheVariants.{Layout, LParen, RParen, Quote, Atom, Refused}
use Rattle.core_token.specs.declared.StringClass.{StringClass}
use Rattle.core_token.specs.declared.StringClass.TheVariants.{Quote as InQuote, Backslash, Control, Lead, Direct}

-- `skip_whitespace`, `is_ascii_atom_byte`: layout is bytes 9, 10, 13, 32; `(` is 40, `)` is 41, `"` is 34; every other byte from 21 to 7E
-- makes atoms.
unfoldable pub core_class : ℕ → CoreClass
core_class b =
    cond (layout_byte b) CoreClass.Layout
    (cond (eqb b 40) CoreClass.LParen
    (cond (eqb b 41) CoreClass.RParen
    (cond (eqb b 34) CoreClass.Quote
    (cond (within 0x21 0x7E b) CoreClass.Atom CoreClass.Refused))))

-- `allowed_direct_string_scalar`: `\` is 92. Forbidden are 00 to 1F and 7F, and U+0080 to U+009F, which are C2 and then 80 to 9F.
unfoldable pub string_class : ℕ → StringClass
string_class b =
    cond (eqb b 34) StringClass.Quote
    (cond (eqb b 92) StringClass.Backslash
    (cond (ltb b 0x20 || eqb b 0x7F) StringClass.Control
    (cond (eqb b 0xC2) StringClass.Lead StringClass.Direct)))

-- `lex_atom`: an atom ends before a parenthesis, a quote, layout or the end; another byte inside it is refused at that byte's own offset.
unfoldable pub core_atom_from : ℕ → ℕ → List ℕ → Lexed
core_atom_from start at [] = token TokenKind.Atom start at
core_atom_from start at (b ∷ l) =
    elim (core_class b) [
      | Layout ↦ token TokenKind.Atom start at
      | LParen ↦ token TokenKind.Atom start at
      | RParen ↦ token TokenKind.Atom start at
      | Quote ↦ token TokenKind.Atom start at
      | Atom ↦ core_atom_from start (at + 1) l
      | Refused ↦ malformed at
    ]

-- What stands open inside a string: nothing, a backslash at an offset, or the byte C2 at an offset.
pub data Open : Type 0 where
  nothing : Open
  backslash : (at : ℕ) → Open
  lead : (at : ℕ) → Open

-- The quote at an offset closes the string that starts at another: an empty string is refused at its own quote.
abbrev pub closed : ℕ → ℕ → Lexed
closed start at = cond (eqb at (start + 1)) (malformed start) (token TokenKind.String start (at + 1))

-- `lex_string`, from an offset on. One that is not closed is refused at its quote; a backslash before anything but `"` and `\`, at the
-- backslash; a forbidden character, at its first byte. A string's bytes are its quotes and what stands between them.
unfoldable pub string_from : ℕ → Open → ℕ → List ℕ → Lexed
string_from start nothing at [] = malformed start
string_from start (backslash e) at [] = malformed e
string_from start (lead e) at [] = malformed start
string_from start nothing at (b ∷ l) =
    elim (string_class b) [
      | InQuote ↦ closed start at
      | Backslash ↦ string_from start (backslash at) (at + 1) l
      | Control ↦ malformed at
      | Lead ↦ string_from start (lead at) (at + 1) l
      | Direct ↦ string_from start nothing (at + 1) l
    ]
string_from start (backslash e) at (b ∷ l) = elim (eqb b 34 || eqb b 92) [ true ↦ string_from start nothing (at + 1) l | false ↦ malformed e ]
string_from start (lead e) at (b ∷ l) = elim (leb b 0x9F) [ true ↦ malformed e | false ↦ string_from start nothing (at + 1) l ]

-- The first token at or behind an offset, before the bytes of a list. The end token's offset is the text's length.
unfoldable pub core_token_from : ℕ → List ℕ → Lexed
core_token_from at [] = token TokenKind.Eof at at
core_token_from at (b ∷ l) =
    elim (core_class b) [
      | Layout ↦ core_token_from (at + 1) l
      | LParen ↦ token TokenKind.LParen at (at + 1)
      | RParen ↦ token TokenKind.RParen at (at + 1)
      | Quote ↦ string_from at nothing (at + 1) l
      | Atom ↦ core_atom_from at (at + 1) l
      | Refused ↦ malformed at
    ]

-- `next_token`: the first token of a core text at or behind an offset.
unfoldable pub next_core_token : List ℕ → ℕ → Lexed
next_core_token t at = core_token_from at (drop at t)
