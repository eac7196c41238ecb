-- `kind_words::kind_at` meets its contract.
use borrow.Author.Rules.{rules}
use Rattle.kind_words.proofs.KindWords.{kinds, kind_any}
use Rattle.kind_words.proofs.kind_at.Goals as goal

pub returns : goal.returns
unfolding kinds
returns c = let whole = kind_any c.args.kind c.unwrap_or.result (search rules) in record { result_value = whole.0; result_value_2 = whole.1 }
