-- `core_loader::read_core` meets its contract.
use mathlib.Core.Path.{◌∙◌}
use mathlib.Core.List.{[]}
use Rattle.surface.specs.Reader.{start}
use Rattle.surface.specs.Tables.{tables, lengths, leaves}
use Rattle.core_module.specs.CoreText.{reading_text, read_core}
use Rattle.core_loader.proofs.Cleared.{left}
use Rattle.core_loader.proofs.read_core.Goals as goal

pub returns : goal.returns
unfolding read_core
returns c =
    let l = c.clear_behind in
    let k = c.read_tables-answer in
    let a = c.args in
    (λ i. leaves k.result (tables [] (l.ensures.core_after i) (l.ensures.declarations_after i) (l.ensures.work_after i)))
    ∙ left a.core.now a.declarations.now a.work.now k.result k.new.core k.new.declarations k.new.work k.auto.core k.auto.declarations k.auto.work
    k.ensures.counts_text (reading_text a.t.now (lengths (tables [] a.core.now a.declarations.now a.work.now)) start) k.ensures.stores_text
