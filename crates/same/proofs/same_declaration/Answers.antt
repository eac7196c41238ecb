-- `same::same_declaration` meets its contract.
use native.Mathlib.Omega.{arith}
use borrow.Author.Tests.{not-true, not-false}
use Rattle.same.proofs.Declarations.{behind_small, declaration_no, declaration_by_rows}
use Rattle.same.proofs.same_declaration.Goals as goal

pub returns-then-not-same_record : goal.returns-then-not-same_record
returns-then-not-same_record c =
    let a = c.args in
    declaration_no a.s.now a.core1.now a.declarations1.now a.t.now a.core2.now a.declarations2.now a.k c.same_record.result c.same_record.ensures (not-true _ c.if-not-same_record.true-raw)

pub same_rows-requires : goal.same_rows-requires
same_rows-requires c =
    let a = c.args in
    omega (arith, c.row_behind-to.ensures, behind_small a.declarations1.now a.k (λ i. omega (arith, c.type_inv.declarations1 i)))

pub returns : goal.returns
returns c =
    let a = c.args in
    declaration_by_rows a.s.now a.core1.now a.declarations1.now a.t.now a.core2.now a.declarations2.now a.k c.same_record.result c.same_record.ensures (not-false _ c.if-not-same_record.false-raw)
    c.first_row-from.result c.row_behind-to.result c.first_row-from.ensures c.row_behind-to.ensures c.same_rows.result c.same_rows.ensures
