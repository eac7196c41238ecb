-- `depends::find_dependence` meets its contract.
use mathlib.Core.List.{List}
use mathlib.Core.Path.{ap, ◌∙◌}
use Prim.Native.Nat.{ℕ}
use Rattle.tables.specs.Tables.{cleared}
use Rattle.depends.specs.inner.Search.{shown_row}
use Rattle.depends.proofs.find_dependence.Goals as goal

pub returns : goal.returns
returns c =
    let a = c.args in
    let e = c.look_at_places.ensures in record { value = c.find_shown-found.ensures ∙ ap (λ (w : List ℕ). shown_row a.core.now a.declarations.now w a.i) e; work_after = c.clear_from.ensures ∙ ap (λ (w : List ℕ). cleared w 0) e }
