-- Tokens: their bytes, their kinds, and what is kept of a term.
use Rattle.std.specs.Prelude.{List, Bool, true, false, ℕ, ◌-◌}
use Rattle.token.specs.declared.TokenKind.{TokenKind}
use Rattle.token.specs.declared.Token.{Token}
use Rattle.terms.specs.Forms.{Form}
use Rattle.terms.specs.Label.{Name, part, Label}

abbrev pub text : List ℕ → Token → Name
text s t = part s t.start (t.end - t.start)

-- The label of a term of a form, with its name, numeral or binder x, and its first byte's offset.
abbrev pub label_with : Form → Token → ℕ → Label
label_with f x offset = record { kind = f.kind; start = x.start; length = x.end - x.start; offset = offset }

-- The same where the form has no such atom.
abbrev pub label_alone : Form → ℕ → Label
label_alone f offset = record { kind = f.kind; start = 0; length = 0; offset = offset }

abbrev pub is_open : TokenKind → Bool
is_open TokenKind.LParen = true
is_open TokenKind.RParen = false
is_open TokenKind.Atom = false
is_open TokenKind.String = false
is_open TokenKind.Eof = false

abbrev pub is_close : TokenKind → Bool
is_close TokenKind.LParen = false
is_close TokenKind.RParen = true
is_close TokenKind.Atom = false
is_close TokenKind.String = false
is_close TokenKind.Eof = false

abbrev pub is_atom : TokenKind → Bool
is_atom TokenKind.LParen = false
is_atom TokenKind.RParen = false
is_atom TokenKind.Atom = true
is_atom TokenKind.String = false
is_atom TokenKind.Eof = false

abbrev pub is_string : TokenKind → Bool
is_string TokenKind.LParen = false
is_string TokenKind.RParen = false
is_string TokenKind.Atom = false
is_string TokenKind.String = true
is_string TokenKind.Eof = false

abbrev pub is_end : TokenKind → Bool
is_end TokenKind.LParen = false
is_end TokenKind.RParen = false
is_end TokenKind.Atom = false
is_end TokenKind.String = false
is_end TokenKind.Eof = true
