-- `printer::put_leaf` meets its contract.
use native.Mathlib.Omega.{arith}
use mathlib.Core.Path.{sym}
use Rattle.printer.proofs.Ends.{◌then◌, puts_as}
use Rattle.printer.proofs.Words.{leaf_numeral, leaf_alone}
use borrow.Author.Rules.{rules}
use Rattle.printer.proofs.put_leaf.Goals as goal
use Rattle.printer.proofs.put_leaf.Goals.{in_default-via-then-kind-lt1, in_default-via-else-kind-lt1+else-kind-lt4}

pub returns-in-1-to-3 : goal.returns-in-1-to-3
returns-in-1-to-3 c =
    let a = c.args in
    λ e. puts_as (sym (leaf_numeral a.s.now a.kind a.a a.b (search rules) (search rules)))
    (c.put_byte-pos.ensures then c.put_numeral-pos.ensures then c.put_byte-pos-in-1-to-3.ensures then c.put_opening.ensures)

pub returns-in_default : goal.returns-in_default
returns-in_default c =
    let a = c.args in
    λ e. puts_as (sym (leaf_alone a.s.now a.kind a.a a.b e (λ w. elim c.in_default.branch [ in_default-via-then-kind-lt1 x ↦ omega (arith, w.0) | in_default-via-else-kind-lt1+else-kind-lt4 x ↦ omega (arith, w.1) ])))
    (c.put_word-next.ensures then c.put_byte.ensures)
