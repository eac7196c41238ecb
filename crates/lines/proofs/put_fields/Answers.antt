-- `lines::put_fields` meets its contract.
use mathlib.Core.Path.{sym, ◌∙◌}
use Rattle.lines.proofs.Rows.{fields_span, fields_numbers}
use Rattle.lines.proofs.put_fields.Goals as goal

pub returns-then-kind-eq3 : goal.returns-then-kind-eq3
returns-then-kind-eq3 c =
    let a = c.args in
    record { out_after = rw (fields_span a.s.now a.row.now 0 (sym c.word_at-kind.ensures ∙ c.if-kind-eq3.true)) c.put_span.ensures.out_after; value = rw (fields_span a.s.now a.row.now 0 (sym c.word_at-kind.ensures ∙ c.if-kind-eq3.true)) c.put_span.ensures.value }

pub returns : goal.returns
returns c =
    let a = c.args in
    let k = c.word_at-kind.ensures in
    record { out_after = rw (fields_numbers a.s.now a.row.now 0 (λ e. c.if-kind-eq3.false (k ∙ e)), ← k, ← c.kind_at-k.ensures.result_value_2) c.put_numbers.ensures.out_after; value = rw (fields_numbers a.s.now a.row.now 0 (λ e. c.if-kind-eq3.false (k ∙ e)), ← k, ← c.kind_at-k.ensures.result_value_2) c.put_numbers.ensures.value }
