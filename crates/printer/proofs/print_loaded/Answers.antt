-- `printer::print_loaded` meets its contract.
use mathlib.Core.Path.{ap}
use Rattle.std.specs.Prelude.{Err}
use Rattle.printer.proofs.Finishing.{finish_fits, finish_over}
use borrow.Author.Rules.{rules}
use Rattle.printer.proofs.print_loaded.Goals as goal

pub returns-then-text-n : goal.returns-then-text-n
returns-then-text-n c =
    λ h.
    let a = c.args in
    let p = c.put_module-marks in
    let r = c.clear_lent in
    let e = r.ensures in
    finish_over _ a.surface.now a.core.now a.declarations.now a.work.now a.text.now p.new.work p.new.out p.result.at p.result.top (p.ensures h)
    (search rules) (search rules) (search rules) _ r.new.surface r.new.core r.new.declarations r.new.text (ap Err c.nowhere.ensures) e.surface_after e.core_after e.declarations_after e.text_after

pub returns : goal.returns
returns c =
    λ h.
    let a = c.args in
    let p = c.put_module-marks in
    finish_fits _ a.surface.now a.core.now a.declarations.now a.work.now a.text.now p.new.work p.new.out p.result.at p.result.top (p.ensures h)
    (search rules) (search rules) (search rules) c.finish.new.text c.finish.ensures
