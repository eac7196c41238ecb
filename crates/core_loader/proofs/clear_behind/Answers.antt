-- `core_loader::clear_behind` meets its contract.
use Prim.Native.Nat.{ℕ, ◌*◌}
use mathlib.Core.Path.{ap, ◌∙◌}
use Rattle.tables.specs.Tables.{cleared}
use Rattle.core_loader.proofs.clear_behind.Goals as goal

pub returns : goal.returns
returns c =
    let a = c.args in
    let m = c.row_count-rows.ensures in
    let n = c.declaration_count-count.ensures in record { core_after = c.clear_from.ensures ∙ ap (λ (j : ℕ). cleared a.core.now (j * 8)) m; declarations_after = c.clear_from-2.ensures ∙ ap (λ (j : ℕ). cleared a.declarations.now (j * 5)) n; work_after = c.clear_from-3.ensures }
