-- `printer::put_declaration_word` meets its contract.
use borrow.Author.Tests.{ne_eqb}
use Rattle.printing.specs.Printing.{declaration_word}
use Rattle.printer.proofs.put_declaration_word.Goals as goal

pub returns-in-1 : goal.returns-in-1
unfolding declaration_word
returns-in-1 c = rw c.in-1.is c.put.ensures

pub returns-in-2 : goal.returns-in-2
unfolding declaration_word
returns-in-2 c = rw c.in-2.is c.put-in-2.ensures

pub returns-in_default : goal.returns-in_default
unfolding declaration_word
returns-in_default c =
    let k = c.args.kind in
    let m = c.in_default.in_default-own.rest in
    rw (ne_eqb k 1 m.0.1, ne_eqb k 2 m.1, declaration_word) c.put-in_default.ensures
