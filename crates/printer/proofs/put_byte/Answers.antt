-- `printer::put_byte` meets its contract.
use Rattle.printer.proofs.Ends.{byte_fits, byte_over}
use borrow.Author.Rules.{rules}
use Rattle.printer.proofs.put_byte.Goals as goal

pub returns-then-at-n : goal.returns-then-at-n
returns-then-at-n c = byte_fits c.args.out.now c.args.at c.args.b (search rules)

pub returns : goal.returns
returns c = byte_over c.args.out.now c.args.at c.args.b (search rules)
