-- `plain::store_term` meets its contract.
use mathlib.Core.Path.{◌∙◌, sym}
use borrow.Author.Tests.{lt-ltb, le-ltb}
use Rattle.term_rows.specs.TermRows.{pushed_row}
use Rattle.plain.proofs.store_term.Goals as goal

pub returns-then-rows-limit-clause-table_after : goal.returns-then-rows-limit-clause-table_after
unfolding pushed_row
returns-then-rows-limit-clause-table_after c = c.store_row.ensures.table_after ∙ sym (rw (lt-ltb _ _ c.if-rows-limit.true, pushed_row))

pub returns-clause-table_after : goal.returns-clause-table_after
unfolding pushed_row
returns-clause-table_after c = sym (rw (le-ltb _ _ c.if-rows-limit.false, pushed_row))
