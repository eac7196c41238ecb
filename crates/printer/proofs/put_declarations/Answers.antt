-- `printer::put_declarations` meets its contract.
use native.Mathlib.Omega.{arith}
use mathlib.Core.Path.{refl, ap}
use Prim.Native.Nat.{ℕ, ◌-◌}
use lib.ListN.{length}
use Rattle.printer.specs.inner.Machine.{step_declaration, down}
use Rattle.printer.proofs.Turning.{onward_start, turns_as, down_more, down_all}
use borrow.Author.Rules.{rules}
use Rattle.printer.proofs.put_declarations.Goals as goal

pub loop-i-init : goal.loop-i-init
loop-i-init c =
    let a = c.args in
    (refl, refl, onward_start a.work.now a.out.now a.marks.at a.marks.top (down (step_declaration a.s.now a.core.now a.declarations.now (length a.work.now)) 0 a.count))

pub loop-i-preserved : goal.loop-i-preserved
loop-i-preserved c =
    let a = c.args in
    let l = c.loop-i in
    let p = c.put_declaration-here in
    let f = step_declaration a.s.now a.core.now a.declarations.now in (
      search rules,
      search rules,
      down_more _ (f (length a.work.now)) 0 a.work.now a.out.now a.marks.at a.marks.top l.work l.out l.here l.i l.invariant.2
          (l.i - 1) (l.i - 1) (omega arith) (omega arith) p.new.work p.new.out p.result
          (turns_as (λ m. ap (λ (n : ℕ). f n (l.i - 1) m) l.invariant.0) p.ensures),
    )

pub returns : goal.returns
returns c =
    let a = c.args in
    let l = c.loop-i in
    record { turn = down_all _ (step_declaration a.s.now a.core.now a.declarations.now (length a.work.now)) 0 a.work.now a.out.now a.marks.at a.marks.top l.work l.out l.here l.i l.invariant.2 (omega arith) }
