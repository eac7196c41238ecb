-- `loader::load_by` meets its contract.
use Prim.Native.Nat.{ℕ, ◌*◌}
use mathlib.Core.Path.{ap, ◌∙◌}
use Rattle.tables.specs.Tables.{cleared}
use Rattle.loader.specs.Leaving.{leaving}
use Rattle.loader.proofs.Left.{left_by_load}
use Rattle.loader.proofs.load_by.Goals as goal

pub returns : goal.returns
returns g c =
    let a = c.args in
    let k = c.load_tables-answer in
    let m = c.row_count-rows.ensures in
    let n = c.declaration_count-count.ensures in
    let w = left_by_load a.s.now a.surface.now a.core.now a.declarations.now a.work.now k.result
    k.new.surface k.new.core k.new.declarations k.new.work k.auto.surface k.auto.core k.auto.declarations k.auto.work
    k.ensures.counts k.ensures.stores in
    let t = c.clear_from.ensures ∙ ap (λ (j : ℕ). cleared k.new.surface (j * 8)) m in
    let u = c.clear_from-2.ensures ∙ ap (λ (j : ℕ). cleared k.new.core (j * 8)) m in
    let v = c.clear_from-3.ensures ∙ ap (λ (j : ℕ). cleared k.new.declarations (j * 5)) n in
    let x = c.clear_from-4.ensures in
    (λ i. leaving k.result (t i) (u i) (v i) (x i)) ∙ w
