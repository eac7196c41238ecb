-- `printer::open_frames` meets its contract.
use mathlib.Core.Path.{refl}
use Rattle.printer.specs.inner.Machine.{settle}
use Rattle.printer.proofs.Turning.{onward_start, open_next, open_stop, open_last}
use borrow.Author.Rules.{rules}
use Rattle.printer.proofs.open_frames.Goals as goal

pub loop-top-init : goal.loop-top-init
loop-top-init c = let a = c.args in (refl, refl, onward_start a.work.now a.out.now a.marks.at a.marks.top settle)

pub returns-then-word-ne0 : goal.returns-then-word-ne0
returns-then-word-ne0 c =
    let a = c.args in
    let l = c.loop-top in
    let f = c.top_frame-word in
    record { turn = open_stop a.work.now a.out.now a.marks.at a.marks.top l.work l.out l.at l.top l.invariant.2 (search rules) f.result f.ensures (search rules) }

pub loop-top-preserved : goal.loop-top-preserved
loop-top-preserved c =
    let a = c.args in
    let l = c.loop-top in
    let f = c.top_frame-word in
    let p = c.put_opening-at in
    let q = c.set_top in (
      search rules,
      search rules,
      open_next a.work.now a.out.now a.marks.at a.marks.top l.work l.out l.at l.top l.invariant.2 (search rules) f.result f.ensures (search rules)
          p.new.out p.result p.ensures q.new.work q.ensures,
    )

pub returns : goal.returns
returns c =
    let a = c.args in
    let l = c.loop-top in
    record { turn = open_last a.work.now a.out.now a.marks.at a.marks.top l.work l.out l.at l.top l.invariant.2 (search rules) }
