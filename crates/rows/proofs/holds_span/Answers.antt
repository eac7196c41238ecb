-- `rows::holds_span` meets its contract: its bits say which kinds below 25 have a span.
use mathlib.Core.Path.{refl, sym, ◌∙◌}
use native.Mathlib.Omega.{arith}
use borrow.Author.Tests.{lt-leb}
use Rattle.terms.specs.Forms.{forms, forms_0_2, form_of_kind, holds_span_in}
use Rattle.rows.proofs.Arities.{span_bit, no_span}
use Rattle.rows.proofs.holds_span.Goals as goal

pub returns-then-kind-le24 : goal.returns-then-kind-le24
unfolding forms forms_0_2 form_of_kind holds_span_in
returns-then-kind-le24 c = span_bit _ c.args.kind refl (omega arith)

pub returns-else-kind-le24 : goal.returns-else-kind-le24
returns-else-kind-le24 c = lt-leb c.args.kind 24 (omega arith) ∙ sym (no_span c.args.kind (omega arith))
