-- The answer of the same-core question: none for the same core, the place where the two part; or which source is refused, and its refusal.
use Rattle.std.specs.Prelude.{ℕ, Option, Result}
use Rattle.same.specs.declared.Unloaded.{Unloaded}

abbrev pub Comparison : Type 0
Comparison = Result (Option ℕ) Unloaded
