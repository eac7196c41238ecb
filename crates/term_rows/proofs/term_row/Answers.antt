-- `term_rows::term_row` meets its contract.
use mathlib.Core.Path.{ap, ◌∙◌}
use mathlib.Core.Bool.{Bool, cond}
use mathlib.Core.List.{[], ◌++◌}
use lib.ListN.{take}
use Rattle.terms.specs.Rows.{row, span}
use Rattle.term_rows.proofs.term_row.Goals as goal

pub returns : goal.returns
returns c =
    let a = c.args in
    c.row_words.ensures
    ∙ ap (λ (b : Bool). row a.label.kind (cond b (span a.label) [] ++ take a.len a.args) a.label.offset) c.holds_span-span.ensures
