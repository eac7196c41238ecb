-- `same::same_record` meets its contract.
use mathlib.Core.Path.{sym, ◌∙◌}
use borrow.Author.Tests.{not-true, not-false}
use Rattle.same.proofs.Contents.{record_kinds, record_names, record_rows}
use Rattle.same.proofs.same_record.Goals as goal

pub returns-then-word_at : goal.returns-then-word_at
returns-then-word_at c =
    let a = c.args in
    record_kinds a.s.now a.declarations1.now a.t.now a.declarations2.now a.k (λ e. c.if-word_at.true (c.word_at.ensures ∙ e ∙ sym c.word_at-2.ensures))

pub returns-then-not-same_atom : goal.returns-then-not-same_atom
returns-then-not-same_atom c =
    let a = c.args in
    record_names a.s.now a.declarations1.now a.t.now a.declarations2.now a.k c.same_atom.result c.same_atom.ensures (not-true _ c.if-not-same_atom.true-raw)

pub returns : goal.returns
returns c =
    let a = c.args in
    let e = sym c.word_at.ensures ∙ c.if-word_at.false ∙ c.word_at-2.ensures in
    record_rows a.s.now a.declarations1.now a.t.now a.declarations2.now a.k c.same_atom.result c.same_atom.ensures e (not-false _ c.if-not-same_atom.false-raw) c.same_words.result c.same_words.ensures
