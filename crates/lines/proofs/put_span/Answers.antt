-- `lines::put_span` meets its contract.
use mathlib.Core.List.{[], ◌∷◌}
use Rattle.terms.specs.Label.{part}
use Rattle.text.proofs.Writing.{piece, ensured, ◌then◌}
use Rattle.lines.proofs.put_span.Goals as goal

pub returns : goal.returns
returns c =
    let a = c.args in
    let name = part a.s.now c.word_at-start.result c.word_at-len.result in
    let pair = ensured a.out.now a.at _ (piece (32 ∷ []) (c.put_byte-next.ensures.out_after, c.put_byte-next.ensures.value) then piece name (c.put_part.ensures.out_after, c.put_part.ensures.value)) in
    record { out_after = rw (← c.word_at-start.ensures, ← c.word_at-len.ensures) pair.0; value = rw (← c.word_at-start.ensures, ← c.word_at-len.ensures) pair.1 }
