-- `printer::put_rows` meets its contract.
use native.Mathlib.Omega.{arith}
use mathlib.Core.Path.{refl, ap}
use Prim.Native.Nat.{ℕ, ◌-◌}
use lib.ListN.{length}
use Rattle.printer.specs.inner.Machine.{step_row, down}
use Rattle.printer.proofs.Turning.{onward_start, turns_as, down_more, down_all}
use borrow.Author.Rules.{rules}
use Rattle.printer.proofs.put_rows.Goals as goal

pub loop-k-init : goal.loop-k-init
loop-k-init c =
    let a = c.args in
    (refl, refl, onward_start a.work.now a.out.now a.marks.at a.marks.top (down (step_row a.s.now a.core.now (length a.work.now)) a.from (a.to - a.from)))

pub loop-k-preserved : goal.loop-k-preserved
loop-k-preserved c =
    let a = c.args in
    let l = c.loop-k in
    let p = c.put_row-here in
    let f = step_row a.s.now a.core.now in (
      search rules,
      search rules,
      down_more _ (f (length a.work.now)) a.from a.work.now a.out.now a.marks.at a.marks.top l.work l.out l.here (l.k - a.from) l.invariant.2
          (l.k - 1) (l.k - 1 - a.from) (omega arith) (omega arith) p.new.work p.new.out p.result
          (turns_as (λ m. ap (λ (n : ℕ). f n (l.k - 1) m) l.invariant.0) p.ensures),
    )

pub returns : goal.returns
returns c =
    let a = c.args in
    let l = c.loop-k in
    record { turn = down_all _ (step_row a.s.now a.core.now (length a.work.now)) a.from a.work.now a.out.now a.marks.at a.marks.top l.work l.out l.here (l.k - a.from) l.invariant.2 (omega arith) }
