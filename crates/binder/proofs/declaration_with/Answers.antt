-- `declaration_with` meets its contract.
use mathlib.Core.Path.{◌∙◌}
use native.Mathlib.Omega.{arith}
use lib.Dec.{ltb}
use borrow.Author.Tests.{le-ltb}
use Rattle.rows.specs.DeclarationRows.{row_behind}
use Rattle.binder.proofs.First.{passed}
use Rattle.binder.proofs.declaration_with.Goals as goal

pub loop-j-preserved : goal.loop-j-preserved
loop-j-preserved c =
    let a = c.args in
    let l = c.loop-j in
    l.invariant ∙ passed (λ i. ltb a.k (row_behind a.declarations.now i)) a.count l.j (le-ltb a.k (row_behind a.declarations.now l.j) (omega (arith, c.row_behind.ensures, c.if-k-row_behind.false))) (omega arith)
