-- `same::same_atom` meets its contract.
use mathlib.Core.Path.{◌∙◌, ap₂}
use Rattle.terms.specs.Label.{part}
use Rattle.words.specs.Words.{same_bytes}
use Rattle.same.proofs.Words.{bytes_decide}
use Rattle.same.proofs.same_atom.Goals as goal

pub returns : goal.returns
returns c =
    let a = c.args in
    let x = c.atom-x.ensures ∙ ap₂ (part a.s.now) c.word_at.ensures c.word_at-2.ensures in
    let y = c.atom-y.ensures ∙ ap₂ (part a.t.now) c.word_at-3.ensures c.word_at-4.ensures in
    bytes_decide c.same_bytes.result _ _ (c.same_bytes.ensures ∙ ap₂ same_bytes x y)
