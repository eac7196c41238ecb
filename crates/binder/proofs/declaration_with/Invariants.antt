-- `declaration_with` meets its contract.
use Prim.Native.Nat.{◌-◌}
use mathlib.Core.Path.{◌≡◌}
use lib.Dec.{ltb}
use Rattle.rows.specs.DeclarationRows.{row_behind}
use Rattle.binder.specs.inner.Walk.{first_from, declaration_with}
use Rattle.binder.proofs.declaration_with.Given as goal

abbrev pub invariant-loop-j : goal.invariant-loop-j
invariant-loop-j l = declaration_with l.declarations l.count l.k ≡ first_from (λ i. ltb l.k (row_behind l.declarations i)) (l.count - l.j) l.j
