-- `term_rows::holds_span` meets its contract.
use Rattle.term_rows.proofs.Spans.{source_holds, text_holds}
use Rattle.term_rows.proofs.holds_span.Goals as goal

pub returns-in-Core01 : goal.returns-in-Core01
returns-in-Core01 c = text_holds _ _ _ c.in-Core01.is c.holds_numeral.ensures

pub returns-in_default : goal.returns-in_default
returns-in_default c = source_holds c.args.format _ _ c.in_default.not-Core01 c.holds_span.ensures
