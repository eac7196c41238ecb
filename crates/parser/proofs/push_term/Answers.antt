-- `parser::push_term` meets its contract.
use mathlib.Core.Path.{◌∙◌, ap}
use Rattle.std.specs.Prelude.{Err}
use Rattle.parser.proofs.States.{pushed_yes, pushed_no}
use Rattle.parser.proofs.push_term.Goals as goal

pub returns-then-rows-limit : goal.returns-then-rows-limit
returns-then-rows-limit c =
    let y = pushed_yes _ _ _ _ _ _ _ c.if-rows-limit.true in
    record { value = y.0; table_after = c.store_row.ensures.table_after ∙ y.1 }

pub returns : goal.returns
returns c =
    let y = pushed_no _ _ _ _ _ _ _ c.if-rows-limit.false in
    record { value = ap Err c.nowhere.ensures ∙ y.0; table_after = y.1 }
