-- `core_loader::judge` meets its contract.
use Rattle.std.specs.Prelude.{Err}
use mathlib.Core.Path.{refl, sym, ap, ◌∙◌}
use mathlib.Core.Bool.{true, false}
use Rattle.core_loader.proofs.Judged.{judged_refused, judged_done}
use Rattle.core_loader.proofs.judge.Goals as goal

pub returns-then-is_repeated : goal.returns-then-is_repeated
returns-then-is_repeated c = judged_done _ _ _ _ c.in-Ok.loaded.rows c.in-Ok.loaded.declarations c.in-Ok.is true (λ ds p q r s. sym c.if-is_repeated.true ∙ c.is_repeated.ensures ds p q r s) (ap Err c.at.ensures)

pub returns-in-Err : goal.returns-in-Err
returns-in-Err c = judged_refused _ _ _ _ _ c.in-Err.is (ap Err c.told.ensures)

pub returns-else-is_repeated : goal.returns-else-is_repeated
returns-else-is_repeated c = judged_done _ _ _ _ c.in-Ok.loaded.rows c.in-Ok.loaded.declarations c.in-Ok.is false (λ ds p q r s. sym c.if-is_repeated.false ∙ c.is_repeated.ensures ds p q r s) refl
