-- `printer::put_start` meets its contract.
use Rattle.printer.specs.inner.Machine.{declaration_start}
use Rattle.printer.proofs.Ends.{◌then◌, puts_as}
use Rattle.printer.proofs.put_start.Goals as goal

pub returns : goal.returns
unfolding declaration_start
returns c =
    c.put_byte-pos.ensures then puts_as c.atom.ensures c.put-pos.ensures then c.put-pos-2.ensures
    then c.put_declaration_word-pos.ensures then c.put.ensures
