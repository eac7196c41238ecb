-- `lines::put_first_line` meets its contract.
use mathlib.Core.List.{[], ◌∷◌}
use Rattle.words.specs.Words.{ascii}
use Rattle.text.proofs.Writing.{piece, ensured, ◌then◌}
use Rattle.text.specs.Text.{decimal}
use Rattle.lines.specs.Listing.{first_line}
use Rattle.lines.proofs.put_first_line.Goals as goal

pub returns : goal.returns
unfolding first_line
returns c =
    let whole = let a = c.args in
    ensured a.out.now a.at _
    (piece (ascii "nodes ") (c.put-pos.ensures.out_after, c.put-pos.ensures.value)
    then piece (decimal a.rows) (c.put_decimal-pos.ensures.out_after, c.put_decimal-pos.ensures.value)
    then piece (ascii " declarations ") (c.put-pos-2.ensures.out_after, c.put-pos-2.ensures.value)
    then piece (decimal a.count) (c.put_decimal-pos-2.ensures.out_after, c.put_decimal-pos-2.ensures.value)
    then piece (10 ∷ []) (c.put_byte.ensures.out_after, c.put_byte.ensures.value)) in record { out_after = whole.0; value = whole.1 }
