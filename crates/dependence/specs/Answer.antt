-- The answer of the dependence question: the row that a yes shows, none for a no; or the refusal.
use Rattle.std.specs.Prelude.{ℕ, Option, Result}
use Rattle.token.specs.declared.Refusal.{Refusal}

abbrev pub Dependence : Type 0
Dependence = Result (Option ℕ) Refusal
