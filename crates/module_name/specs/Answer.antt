-- The answer of the question for the module's name: where the name stands, or the refusal.
use Rattle.std.specs.Prelude.{ℕ, Result, Ok}
use Rattle.token.specs.declared.Refusal.{Refusal}
use Rattle.module_name.specs.declared.Span.{Span}

abbrev pub ModuleName : Type 0
ModuleName = Result Span Refusal

-- So many bytes from `start` on.
abbrev pub named_at : ℕ → ℕ → ModuleName
named_at start length = Ok (record { start = start; length = length })
