-- `printer::record_at` meets its contract.
use Prim.Native.Nat.{◌*◌}
use lib.ListN.{length}
use Rattle.printer.proofs.RowWords.{holds_behind}
use borrow.Author.Rules.{rules}
use Rattle.printer.proofs.record_at.Goals as goal

pub returns-then-declarations-i : goal.returns-then-declarations-i
returns-then-declarations-i c =
    let a = c.args in
    holds_behind a.declarations.now (length a.declarations.now) (a.i * 5) c.words_at.result (search rules) (search rules) c.words_at.ensures
