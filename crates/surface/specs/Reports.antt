-- Document 01, "When an answer is an enum, a definition provides this paper's number and values for each of the enum's cases." Here those
-- of the answers of loading and of the token function.
use Rattle.token.specs.Refusals.{number}
use Rattle.token.specs.Token.{Lexed, Place}
use Rattle.std.specs.Prelude.{List, [], ◌∷◌, ℕ, Ok, Err, Some, None}
use Rattle.token.specs.declared.Refusal.{Refusal}
use Rattle.token.specs.declared.TokenKind.{TokenKind}
use Rattle.surface.specs.Answer.{Answer}

pub record Report : Type 0 where
  pub number : ℕ
  pub values : List ℕ

-- Acceptance is 0.
abbrev pub accepted : List ℕ → Report
accepted values = record { number = 0; values = values }

-- "A refusal carries its class and a place, which is an offset or nowhere."
abbrev pub offsets : Place → List ℕ
offsets (Some p) = p ∷ []
offsets None = []

abbrev pub report_refusal : Refusal → Report
report_refusal r = record { number = number r.class; values = offsets r.place }

-- Loading: the counts of rows and declarations.
abbrev pub report : Answer → Report
report (Ok l) = accepted (l.rows ∷ l.declarations ∷ [])
report (Err r) = report_refusal r

-- The token function: a token's kind, in the order in which the Rust names them, its start and its end. A source has no strings.
abbrev pub token_number : TokenKind → ℕ
token_number TokenKind.LParen = 1
token_number TokenKind.RParen = 2
token_number TokenKind.Atom = 3
token_number TokenKind.Eof = 4
token_number TokenKind.String = 5

abbrev pub report_token : Lexed → Report
report_token (Ok t) = accepted (token_number t.kind ∷ t.start ∷ t.end ∷ [])
report_token (Err r) = report_refusal r
