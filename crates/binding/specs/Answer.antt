-- The answer of the question for the binder: what binds the reference, or the refusal.
use Rattle.std.specs.Prelude.{Result}
use Rattle.token.specs.declared.Refusal.{Refusal}
use Rattle.binding.specs.declared.Binder.{Binder}

abbrev pub Binding : Type 0
Binding = Result Binder Refusal
