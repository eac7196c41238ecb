-- `printer::move_front` meets its contract.
use mathlib.Core.Path.{◌≡◌, ap, ◌∙◌}
use Prim.Native.Nat.{ℕ, ◌-◌}
use native.Mathlib.Omega.{arith}
use lib.ListN.{length, take}
use Rattle.printer.proofs.Buffer.{move_none, move_more, move_all}
use Rattle.printer.proofs.move_front.Goals as goal

pub loop-i-init : goal.loop-i-init
loop-i-init c = let a = c.args in move_none a.out.now (length a.out.now - a.n)

pub loop-i-preserved : goal.loop-i-preserved
loop-i-preserved c =
    let l = c.loop-i in
    let a = c.args in
    move_more a.out.now (length a.out.now - a.n) l.out l.i l.invariant (omega arith)

pub returns : goal.returns
returns c =
    let l = c.loop-i in
    let a = c.args in
    let e : a.n ≡ l.i = omega arith in
    ap (λ (k : ℕ). take k l.out) e ∙ move_all a.out.now (length a.out.now - a.n) l.out l.i l.invariant (omega (arith, c.requires))
