-- `is_name` meets its contract.
use mathlib.Core.Path.{◌∙◌}
use native.Mathlib.Omega.{arith}
use Rattle.scope.proofs.Search.{nothing_left}
use Rattle.scope.proofs.is_name.Goals as goal

pub returns-then-s-a-2 : goal.returns-then-s-a-2
returns-then-s-a-2 c =
    let a = c.args in
    c.is_empty.ensures ∙ nothing_left a.x.now a.s.now a.start a.length (omega arith)
