-- `printer::words_at` meets its contract.
use Rattle.printer.proofs.RowWords.{holds_none}
use borrow.Author.Rules.{rules}
use Rattle.printer.proofs.words_at.Goals as goal

pub returns-then-t-at : goal.returns-then-t-at
returns-then-t-at c = let a = c.args in holds_none a.t.now a.at (search rules)
