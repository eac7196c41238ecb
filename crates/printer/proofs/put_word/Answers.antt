-- `printer::put_word` meets its contract.
use mathlib.Core.Path.{sym, ◌∙◌}
use Rattle.kind_words.specs.KindWords.{words}
use Rattle.printer.proofs.Ends.{puts_as, puts_nothing}
use Rattle.printer.proofs.Words.{word_behind, word_below}
use borrow.Author.Rules.{rules}
use Rattle.printer.proofs.put_word.Goals as goal

pub returns-then-kind-gt23 : goal.returns-then-kind-gt23
returns-then-kind-gt23 c =
    let a = c.args in
    puts_as (sym (word_behind a.kind (search rules))) puts_nothing

pub returns : goal.returns
unfolding words
returns c =
    let a = c.args in
    puts_as (c.atom.ensures ∙ c.kind_at-k.ensures.result_value ∙ sym (word_below a.kind (search rules))) c.put.ensures
