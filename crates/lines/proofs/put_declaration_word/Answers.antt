-- `lines::put_declaration_word` meets its contract.
use borrow.Author.Tests.{ne_eqb}
use Rattle.lines.specs.Listing.{declaration_word}
use Rattle.lines.proofs.put_declaration_word.Goals as goal

pub returns-in-1 : goal.returns-in-1
unfolding declaration_word
returns-in-1 c = record { out_after = rw c.in-1.is c.put.ensures.out_after; value = rw c.in-1.is c.put.ensures.value }

pub returns-in-2 : goal.returns-in-2
unfolding declaration_word
returns-in-2 c = record { out_after = rw c.in-2.is c.put-in-2.ensures.out_after; value = rw c.in-2.is c.put-in-2.ensures.value }

pub returns-in-3 : goal.returns-in-3
unfolding declaration_word
returns-in-3 c = record { out_after = rw c.in-3.is c.put-in-3.ensures.out_after; value = rw c.in-3.is c.put-in-3.ensures.value }

pub returns-in_default : goal.returns-in_default
unfolding declaration_word
returns-in_default c =
    let k = c.args.kind in
    let m = c.in_default.in_default-own.rest in
    record { out_after = rw (ne_eqb k 1 m.0.0.1, ne_eqb k 2 m.0.1, ne_eqb k 3 m.1, declaration_word) c.put-in_default.ensures.out_after; value = rw (ne_eqb k 1 m.0.0.1, ne_eqb k 2 m.0.1, ne_eqb k 3 m.1, declaration_word) c.put-in_default.ensures.value }
