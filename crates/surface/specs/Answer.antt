-- The answer of loading: the counts of rows and of declarations, or the refusal.
use Rattle.std.specs.Prelude.{ℕ, Result, Ok}
use Rattle.token.specs.declared.Refusal.{Refusal}
use Rattle.surface.specs.declared.Loaded.{Loaded}

abbrev pub Answer : Type 0
Answer = Result Loaded Refusal

abbrev pub loaded : (rows declarations : ℕ) → Answer
loaded rows declarations = Ok (record { rows = rows; declarations = declarations })
