-- `core_loader::read_canonical` meets its contract.
use mathlib.Core.Path.{◌∙◌}
use mathlib.Core.List.{[]}
use native.Mathlib.Omega.{arith}
use Rattle.surface.specs.Reader.{start}
use Rattle.surface.specs.Tables.{tables, lengths, leaves}
use Rattle.core_module.specs.CoreText.{reading_canonical, read_canonical}
use Rattle.core_loader.proofs.Cleared.{left}
use Rattle.core_loader.proofs.OwnPrint.{own_stored}
use Rattle.core_loader.proofs.read_canonical.Goals as goal

pub clear_behind-requires : goal.clear_behind-requires
clear_behind-requires c =
    let j = c.canonical-answer in
    let k = c.read_tables-read in
    let a = c.args in
    let n = (own_stored a.t.now a.core.now a.declarations.now k.new.core k.new.declarations (lengths (tables [] a.core.now a.declarations.now a.work.now)) k.result j.result j.ensures k.ensures.stores_text k.ensures.counts_text).1 in
    record { rows = omega (arith, n.rows, k.auto.core); records = omega (arith, n.records, k.auto.declarations) }

pub returns : goal.returns
unfolding read_canonical
returns c =
    let l = c.clear_behind in
    let j = c.canonical-answer in
    let k = c.read_tables-read in
    let a = c.args in
    let n = own_stored a.t.now a.core.now a.declarations.now k.new.core k.new.declarations (lengths (tables [] a.core.now a.declarations.now a.work.now)) k.result j.result j.ensures k.ensures.stores_text k.ensures.counts_text in
    (λ i. leaves j.result (tables [] (l.ensures.core_after i) (l.ensures.declarations_after i) (l.ensures.work_after i)))
    ∙ left a.core.now a.declarations.now a.work.now j.result k.new.core k.new.declarations k.new.work k.auto.core k.auto.declarations k.auto.work
    n.1 (reading_canonical a.t.now (lengths (tables [] a.core.now a.declarations.now a.work.now)) start) n.0
