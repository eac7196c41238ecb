-- `same::same_row` meets its contract.
use mathlib.Core.Path.{sym, ◌∙◌}
use borrow.Author.Tests.{not-true, not-false}
use Rattle.same.proofs.Contents.{row_kinds, row_plain, row_digits, row_universe}
use Rattle.same.proofs.same_row.Goals as goal

pub returns-then-kind-word_at : goal.returns-then-kind-word_at
returns-then-kind-word_at c =
    let a = c.args in
    row_kinds a.s.now a.core1.now a.t.now a.core2.now a.i (λ e. c.if-kind-word_at.true (c.word_at-kind.ensures ∙ e ∙ sym c.word_at.ensures))

pub returns-then-kind-ne3 : goal.returns-then-kind-ne3
returns-then-kind-ne3 c =
    let a = c.args in
    let e = sym c.word_at-kind.ensures ∙ c.if-kind-word_at.false ∙ c.word_at.ensures in
    row_plain a.s.now a.core1.now a.t.now a.core2.now a.i e (λ u. c.if-kind-ne3.true (c.word_at-kind.ensures ∙ u)) c.same_words.result c.same_words.ensures

pub returns-then-not-same_atom : goal.returns-then-not-same_atom
returns-then-not-same_atom c =
    let a = c.args in
    let e = sym c.word_at-kind.ensures ∙ c.if-kind-word_at.false ∙ c.word_at.ensures in
    let u = sym c.word_at-kind.ensures ∙ c.if-kind-ne3.false in
    row_digits a.s.now a.core1.now a.t.now a.core2.now a.i e u c.same_atom.result c.same_atom.ensures (not-true _ c.if-not-same_atom.true-raw)

pub returns : goal.returns
returns c =
    let a = c.args in
    let e = sym c.word_at-kind.ensures ∙ c.if-kind-word_at.false ∙ c.word_at.ensures in
    let u = sym c.word_at-kind.ensures ∙ c.if-kind-ne3.false in
    row_universe a.s.now a.core1.now a.t.now a.core2.now a.i e u c.same_atom.result c.same_atom.ensures (not-false _ c.if-not-same_atom.false-raw) c.same_words-2.result c.same_words-2.ensures
