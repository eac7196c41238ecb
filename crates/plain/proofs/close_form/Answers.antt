-- `plain::close_form` meets its contract.
use mathlib.Core.Path.{◌∙◌, ap}
use Rattle.term_rows.specs.TermRows.{pushed_row}
use Rattle.plain.proofs.Forms.{closed}
use Rattle.plain.proofs.close_form.Goals as goal

pub returns : goal.returns
returns c =
    let a = c.args in
    let k = c.store_term in
    closed a.input.now.format a.input.now.bytes.now a.limit a.label _ a.frames a.at a.rows a.table.now _ c.expect_rparen.ensures _ _ _ c.in_ok-close.was k.ensures.value (k.ensures.table_after ∙ ap (pushed_row a.limit a.table.now a.rows) c.term_row-row.ensures)
