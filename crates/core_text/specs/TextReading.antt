-- Document 02, Req 03: the reading order of a core text, as `Parser` in format/parser.rs has it. The readers of terms and declarations are
-- those of a source, with other tokens, other forms, and strings for names. Inside, 1 stands for malformed and 8 for a full table, as in a
-- source; what a call answers has document 02's numbers.
use Rattle.token.specs.declared.Class.{Class}
use Rattle.token.specs.Token.{Lexed}
use Rattle.std.specs.Prelude.{List, Bool, false, ◌&&◌, ℕ, ◌+◌, ◌-◌}
use Rattle.token.specs.declared.TokenKind.{TokenKind}
use Rattle.token.specs.declared.Token.{Token}
use Rattle.core_token.specs.CoreToken.{next_core_token}
use Rattle.words.specs.Words.{ascii, same_bytes}
use Rattle.terms.specs.Forms.{Edition}
use Rattle.terms.specs.TextForms.{text_forms}
use Rattle.terms.specs.Label.{Declaration}
use Rattle.surface.specs.Text.{text, is_string, is_close, is_end}
use Rattle.surface.specs.Reader.{Reader, ◌>>=◌, ◌>>◌, pure, require, nowhere, at_token}
use Rattle.surface.specs.Reading.{term, token, opening, closing, word, natural, beginning, declarations}

-- The tokens and forms of core text. No word is reserved, since names are strings.
unfoldable pub text_edition : Edition
text_edition = record { tokens = next_core_token; forms = text_forms; reserved = λ w. false }

-- `parse_string`: a string. What is kept of it are the bytes between its quotes, as they stand.
unfoldable pub string : (ℕ → Lexed) → Reader Token
string next = do
  t ← token next
  require (is_string t.kind) (at_token Class.Malformed t)
  pure (record { kind = TokenKind.String; start = t.start + 1; end = t.end - 1 })

-- The end token.
unfoldable pub end_token : (ℕ → Lexed) → Reader Token
end_token next = do
  t ← token next
  require (is_end t.kind) (at_token Class.Malformed t)
  pure t

-- Whether two numerals are 0 and 1.
abbrev pub zero_one : List ℕ → Token → Token → Bool
zero_one s a b = same_bytes (text s a) (ascii "0") && same_bytes (text s b) (ascii "1")

module _ (s : List ℕ) where
  -- `(hott-core (format 0 1) (theory "mltt-core" 0 1)`: 2, nowhere, for any other numerals or name, given behind the theory's parenthesis.
  -- Req 10, of refusal 2: "for core text it stays as in Req 03".
  unfoldable pub text_head : Reader (Unit {0})
  text_head = do
    o ← opening (next_core_token s)
    w ← word (next_core_token s) s (ascii "hott-core")
    p ← opening (next_core_token s)
    v ← word (next_core_token s) s (ascii "format")
    a ← natural (next_core_token s) s
    b ← natural (next_core_token s) s
    c ← closing (next_core_token s)
    q ← opening (next_core_token s)
    u ← word (next_core_token s) s (ascii "theory")
    n ← string (next_core_token s)
    d ← natural (next_core_token s) s
    e ← natural (next_core_token s) s
    f ← closing (next_core_token s)
    require (zero_one s a b && (same_bytes (text s n) (ascii "mltt-core") && zero_one s d e)) (nowhere Class.Version)

  -- `(declarations`
  unfoldable pub declarations_line : Reader Token
  declarations_line = do
    o ← opening (next_core_token s)
    word (next_core_token s) s (ascii "declarations")

  -- A core text, where there is room for so many rows and declarations, and so many frames may be open in one term: the head, the
  -- declarations up to a closing parenthesis, the one of the whole text, and the end.
  unfoldable pub read_text : ℕ → ℕ → ℕ → Reader (List Declaration)
  read_text rows room frames = do
    h ← text_head
    w ← declarations_line
    ds ← declarations text_edition s (term (beginning text_edition s) (closing (next_core_token s)) rows frames) (string (next_core_token s)) is_close room
    c ← closing (next_core_token s)
    e ← end_token (next_core_token s)
    pure ds
