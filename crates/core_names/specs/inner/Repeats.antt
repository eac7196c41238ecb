-- Names used twice, by the records of a declaration list.
use Rattle.std.specs.Prelude.{ℕ, zero, suc, ◌+◌, List, Bool, true, false, cond}
use Rattle.std.proofs.Math.Option.{none, some}
use Rattle.terms.specs.Resolution.{find}
use Rattle.scope.specs.Scope.{declared_names}
use Rattle.scope.specs.Index.{name_at}

-- Whether the name in the record at place d is one of those before it.
unfoldable pub is_used : List ℕ → List ℕ → ℕ → Bool
is_used s declarations d = elim (find (name_at s declarations d) (declared_names s declarations 0 d)) [ some i ↦ true | none ↦ false ]

-- The same of any of n records from place d on.
unfoldable pub repeats : List ℕ → List ℕ → ℕ → ℕ → Bool
repeats s declarations d zero = false
repeats s declarations d (suc n) = cond (is_used s declarations d) true (repeats s declarations (d + 1) n)
