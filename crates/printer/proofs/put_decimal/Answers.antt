-- `printer::put_decimal` meets its contract.
use mathlib.Core.Path.{refl}
use Rattle.printer.proofs.Digits.{digits_start, digits_next, digits_end}
use borrow.Author.Rules.{rules}
use Rattle.printer.proofs.put_decimal.Goals as goal

pub loop-rest-init : goal.loop-rest-init
loop-rest-init c = let a = c.args in (refl, digits_start a.out.now a.at a.n)

pub loop-rest-preserved : goal.loop-rest-preserved
loop-rest-preserved c =
    let k = c.put_byte-pos in
    let l = c.loop-rest in
    let a = c.args in
    (search rules, digits_next a.out.now a.at a.n l.out l.pos l.rest k.new.out k.result (search rules) l.invariant.1 k.ensures)

pub returns : goal.returns
returns c =
    let k = c.put_byte in
    let l = c.loop-rest in
    let a = c.args in
    digits_end a.out.now a.at a.n l.out l.pos l.rest k.new.out k.result (search rules) l.invariant.1 k.ensures
