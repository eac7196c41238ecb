-- `printer::put_opening` meets its contract.
use Rattle.printer.specs.inner.Machine.{opening}
use Rattle.printer.proofs.Ends.{◌then◌}
use Rattle.printer.proofs.put_opening.Goals as goal

pub returns : goal.returns
unfolding opening
returns c = c.put_word-next.ensures then c.put.ensures
