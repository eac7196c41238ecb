-- `printer::enter_term` meets its contract.
use mathlib.Core.Path.{◌≡◌, refl}
use native.Mathlib.Omega.{arith}
use Rattle.terms.specs.Forms.{arity_of}
use Rattle.rows.proofs.Arities.{arity_at_most_six}
use Rattle.printer.proofs.Words.{frame_kind}
use Rattle.printer.proofs.Turning.{leaf_turn, frame_turn}
use borrow.Author.Rules.{rules}
use Rattle.printer.proofs.enter_term.Goals as goal

pub returns-then-n-eq0 : goal.returns-then-n-eq0
returns-then-n-eq0 c =
    let a = c.args in
    let p = c.put_leaf-at in
    let k = c.take_argument in
    let e : arity_of a.row.kind ≡ 0 = omega (arith, c.arity-n.ensures) in
    record { turn = leaf_turn a.work.now a.out.now a.marks.at a.marks.top _ _ k.new.work k.ensures e p.new.out p.result (p.ensures e) }

pub overflow_mul-kind : goal.overflow_mul-kind
overflow_mul-kind c = let n = c.arity-n in omega (arith, frame_kind c.args.row.kind n.result n.ensures (search rules))

pub overflow_add-kind : goal.overflow_add-kind
overflow_add-kind c = let n = c.arity-n in omega (arith, n.ensures, arity_at_most_six c.args.row.kind, frame_kind c.args.row.kind n.result n.ensures (search rules))

pub returns : goal.returns
returns c =
    let a = c.args in
    let n = c.arity-n in
    let k = c.take_argument in
    let p = c.put_byte-at in
    let q = c.push-top in
    record { turn = frame_turn a.work.now a.out.now a.marks.at a.marks.top _ _ k.new.work k.ensures n.result _ n.ensures (search rules) refl (search rules) p.new.out p.result p.ensures q.new.work q.result q.ensures }
