-- `printer::print` meets its contract.
use mathlib.Core.Path.{refl, ◌∙◌}
use lib.ListN.{length}
use Rattle.surface.specs.Tables.{tables, lengths}
use Rattle.loader.proofs.Cleared.{cleared_whole}
use Rattle.printer.proofs.Finishing.{print_refused, print_done}
use Rattle.printer.proofs.print.Goals as goal

pub returns-in-Err : goal.returns-in-Err
returns-in-Err c =
    let a = c.args in
    let k = c.load in
    let f = c.clear_bytes in
    let z = lengths (tables a.surface.now a.core.now a.declarations.now a.work.now) in
    print_refused a.s.now z (length a.text.now) k.result k.new.surface k.new.core k.new.declarations k.new.work k.ensures c.in-Err.refusal _ f.new.out c.in-Err.is
    refl (f.ensures ∙ cleared_whole a.text.now)

pub returns-in-Ok : goal.returns-in-Ok
returns-in-Ok c =
    let a = c.args in
    let k = c.load in
    let f = c.print_loaded in
    let z = lengths (tables a.surface.now a.core.now a.declarations.now a.work.now) in
    print_done a.s.now z (length a.text.now) k.result k.new.surface k.new.core k.new.declarations k.new.work k.ensures c.in-Ok.loaded.rows c.in-Ok.loaded.declarations a.text.now f.result
    (tables f.new.surface f.new.core f.new.declarations f.new.work) f.new.text c.in-Ok.is refl f.ensures
