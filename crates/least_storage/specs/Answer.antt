-- The answer of the question for the least storage: what the source needs, or the refusal.
use Rattle.std.specs.Prelude.{ℕ, Result, Ok}
use Rattle.token.specs.declared.Refusal.{Refusal}
use Rattle.least_storage.specs.declared.Needs.{Needs}

abbrev pub Storage : Type 0
Storage = Result Needs Refusal

abbrev pub needs : ℕ → ℕ → ℕ → Storage
needs rows declarations frames = Ok (record { rows = rows; declarations = declarations; frames = frames })
