-- `walk` meets its contract.
use Prim.Native.Nat.{◌+◌, ◌*◌}
use native.Mathlib.Omega.{arith}
use lib.ListN.{get_or}
use Rattle.binder.specs.inner.Walk.{behind_span, argument_with}
use Rattle.binder.proofs.Going.{begins, arrived, ended, went}
use Rattle.binder.proofs.walk.Goals as goal

pub loop-init : goal.loop-init
loop-init c = let a = c.args in (begins a.surface.now a.k a.root a.work.now, omega arith)

pub returns-then-way-k : goal.returns-then-way-k
returns-then-way-k c =
    let a = c.args in
    let l = c.loop in
    (omega (arith, l.invariant.0.few), arrived a.surface.now a.k a.root l.work l.way l.counter l.invariant.0 c.if-way-k.true)

pub loop-preserved : goal.loop-preserved
loop-preserved c =
    let a = c.args in
    let l = c.loop in
    let d = c.down-way in
    (went a.surface.now a.k a.root l.work l.way l.counter l.invariant.0 c.if-way-k.false c.loop-test.true d.result d.new.work d.ensures, (let i = l.way.row * 8 + behind_span (get_or a.surface.now (l.way.row * 8) 0) + argument_with a.surface.now a.k l.way.row in omega (arith, d.ensures.row, c.type_inv.surface i)))

pub returns : goal.returns
returns c =
    let a = c.args in
    let l = c.loop in
    (omega (arith, l.invariant.0.few), ended a.surface.now a.k a.root l.work l.way l.counter l.invariant.0 (omega arith))
