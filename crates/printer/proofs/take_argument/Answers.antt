-- `printer::take_argument` meets its contract.
use Rattle.printer.proofs.Frames.{take_one, take_none, take_empty}
use borrow.Author.Rules.{rules}
use Rattle.printer.proofs.take_argument.Goals as goal

pub returns-then-word-gt0 : goal.returns-then-word-gt0
returns-then-word-gt0 c =
    let a = c.args in
    let f = c.top_frame-word in
    take_one a.work.now a.top c.set_top.new.work f.result (search rules) f.ensures c.set_top.ensures

pub returns-else-word-gt0 : goal.returns-else-word-gt0
returns-else-word-gt0 c =
    let a = c.args in
    let f = c.top_frame-word in
    take_none a.work.now a.top f.result (search rules) (search rules) f.ensures

pub returns-else-top-gt0 : goal.returns-else-top-gt0
returns-else-top-gt0 c = let a = c.args in take_empty a.work.now a.top (search rules)
