-- `depends::find_shown` meets its contract.
use mathlib.Core.Path.{◌∙◌, ap}
use Rattle.std.specs.Prelude.{Ok}
use Rattle.dependence.specs.Answer.{Dependence}
use Rattle.depends.proofs.Searching.{shown_below}
use Prim.Native.Nat.{ℕ}
use borrow.Author.Rules.{rules}
use Rattle.depends.proofs.find_shown.Goals as goal

pub returns : goal.returns
returns c =
    let a = c.args in
    ap {B = Dependence} Ok c.then_some.ensures
    ∙ shown_below a.core.now a.declarations.now a.work.now a.i _ _ _ c.first_row-from.ensures c.row_behind-to.ensures c.first_marked-row.ensures _ (search rules)
