-- `printer::clear_lent` meets its contract.
use Rattle.printer.proofs.clear_lent.Goals as goal

pub returns : goal.returns
returns c = record { surface_after = c.clear_from.ensures; core_after = c.clear_from-2.ensures; declarations_after = c.clear_from-3.ensures; text_after = c.clear_bytes.ensures }
