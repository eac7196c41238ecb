-- `lines::put_declaration_rows` meets its contract.
use mathlib.Core.Path.{sym, ◌∙◌}
use Rattle.lines.proofs.Rows.{rows_one, rows_two}
use Rattle.lines.proofs.put_declaration_rows.Goals as goal

pub returns-then-word_at-eq1 : goal.returns-then-word_at-eq1
returns-then-word_at-eq1 c =
    let a = c.args in
    record { out_after = rw (rows_one a.declaration.now 0 (sym c.word_at.ensures ∙ c.if-word_at-eq1.true)) c.put_numbers.ensures.out_after; value = rw (rows_one a.declaration.now 0 (sym c.word_at.ensures ∙ c.if-word_at-eq1.true)) c.put_numbers.ensures.value }

pub returns : goal.returns
returns c =
    let a = c.args in
    record { out_after = rw (rows_two a.declaration.now 0 (λ e. c.if-word_at-eq1.false (c.word_at.ensures ∙ e))) c.put_numbers-2.ensures.out_after; value = rw (rows_two a.declaration.now 0 (λ e. c.if-word_at-eq1.false (c.word_at.ensures ∙ e))) c.put_numbers-2.ensures.value }
