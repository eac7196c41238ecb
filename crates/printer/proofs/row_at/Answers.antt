-- `printer::row_at` meets its contract.
use Prim.Native.Nat.{◌*◌}
use lib.ListN.{length}
use Rattle.printer.proofs.RowWords.{holds_behind}
use borrow.Author.Rules.{rules}
use Rattle.printer.proofs.row_at.Goals as goal

pub returns-then-core-k : goal.returns-then-core-k
returns-then-core-k c =
    let a = c.args in
    holds_behind a.core.now (length a.core.now) (a.k * 8) c.words_at.result (search rules) (search rules) c.words_at.ensures
