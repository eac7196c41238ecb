-- `lines::put_kind_word` meets its contract.
use Rattle.kind_words.specs.KindWords.{words, word_of_kind}
use Rattle.lines.specs.Listing.{kind_word}
use Rattle.lines.proofs.put_kind_word.Goals as goal

pub returns : goal.returns
unfolding words word_of_kind kind_word
returns c = record { out_after = rw (← c.kind_at-k.ensures.result_value) c.put_part.ensures.out_after; value = rw (← c.kind_at-k.ensures.result_value) c.put_part.ensures.value }
