-- `printer::push` meets its contract.
use Rattle.printer.proofs.Frames.{push_room, push_full}
use borrow.Author.Rules.{rules}
use Rattle.printer.proofs.push.Goals as goal

pub returns-then-top-work : goal.returns-then-top-work
returns-then-top-work c = let a = c.args in push_room a.work.now c.set_top.new.work a.top a.word (search rules) c.set_top.ensures

pub returns : goal.returns
returns c = let a = c.args in push_full a.work.now a.top a.word (search rules)
