-- `elaborate_surface` meets its contract.
use native.Mathlib.Omega.{arith}
use Rattle.scope.specs.Index.{all_slots}
use Rattle.scope.proofs.Index.{blank}
use Rattle.elaborate.proofs.ModuleRows.{loaded_fitting}
use Rattle.elaborate.proofs.elaborate_surface.Goals as goal

pub returns-then-not-fitting : goal.returns-then-not-fitting
returns-then-not-fitting c = λ ds h.
    let fits = c.fitting.ensures.1 (loaded_fitting h (λ i. omega (arith, c.type_inv.declarations i))) in
    let not = c.if-not-fitting.true in
    absurd cc

pub elaborate_declarations-requires-2-clause-blank : goal.elaborate_declarations-requires-2-clause-blank
elaborate_declarations-requires-2-clause-blank c = blank all_slots
