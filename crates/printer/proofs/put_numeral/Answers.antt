-- `printer::put_numeral` meets its contract.
use mathlib.Core.Path.{sym, ◌∙◌}
use Rattle.printer.proofs.Ends.{puts_as}
use Rattle.printer.proofs.Words.{numeral_universe, numeral_number}
use borrow.Author.Rules.{rules}
use Rattle.printer.proofs.put_numeral.Goals as goal

pub returns-then-kind-eq3 : goal.returns-then-kind-eq3
returns-then-kind-eq3 c =
    let a = c.args in
    puts_as (c.atom.ensures ∙ sym (numeral_universe a.s.now a.kind a.a a.b (search rules))) c.put.ensures

pub returns : goal.returns
returns c =
    let a = c.args in
    puts_as (sym (numeral_number a.s.now a.kind a.a a.b (search rules))) c.put_decimal.ensures
