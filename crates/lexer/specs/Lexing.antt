-- Document 01, "a record that refers to the source and holds a position": how the position moves.
use Rattle.std.specs.Prelude.{ℕ, List, Ok, Err, Some, None}
use Rattle.token.specs.Token.{next_token, Lexed, Place}
use Rattle.lexer.specs.declared.Stepped.{Stepped}

abbrev pub offset_or : ℕ → Place → ℕ
offset_or at (Some pos) = pos
offset_or at None = at

-- Ours, as in the Rust: the position is behind the token, or at the refused byte, so that a lexer which refused refuses again.
abbrev pub position_after : Lexed → ℕ → ℕ
position_after (Ok t) at = t.end
position_after (Err r) at = offset_or at r.place

-- What stands at or behind a position of a source, and the position after it.
abbrev pub step_at : List ℕ → ℕ → Stepped
step_at s at = record { lexed = next_token s at; pos = position_after (next_token s at) at }
