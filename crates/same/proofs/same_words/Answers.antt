-- `same::same_words` meets its contract: the words before i are equal.
use mathlib.Core.Path.{sym, ◌∙◌}
use native.Mathlib.Omega.{arith}
use borrow.Author.Count.{below_more}
use Rattle.same.proofs.Words.{words_same, words_differ}
use Rattle.same.proofs.same_words.Goals as goal

pub returns-then-word_at : goal.returns-then-word_at
returns-then-word_at c =
    let a = c.args in
    words_differ a.n a.a.now a.b.now a.from c.loop-i.i (omega arith) (λ e. c.if-word_at.true (c.word_at.ensures ∙ e ∙ sym c.word_at-in-loop-i.ensures))

pub loop-i-preserved : goal.loop-i-preserved
loop-i-preserved c = below_more _ _ c.loop-i.invariant (sym c.word_at.ensures ∙ c.if-word_at.false ∙ c.word_at-in-loop-i.ensures)

pub returns : goal.returns
returns c =
    let a = c.args in
    words_same a.n a.a.now a.b.now a.from (λ j h. c.loop-i.invariant j (omega arith))
