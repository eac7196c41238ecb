-- The answer of printing: the text's length, or the refusal.
use Rattle.std.specs.Prelude.{ℕ, Result}
use Rattle.token.specs.declared.Refusal.{Refusal}

abbrev pub Printed : Type 0
Printed = Result ℕ Refusal
