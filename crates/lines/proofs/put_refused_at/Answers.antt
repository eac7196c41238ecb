-- `lines::put_refused_at` meets its contract.
use mathlib.Core.List.{[], ◌∷◌}
use Rattle.words.specs.Words.{ascii}
use Rattle.text.specs.Text.{decimal}
use Rattle.text.proofs.Writing.{piece, ensured, ◌then◌}
use Rattle.lines.specs.Listing.{refused_line, place_text}
use Rattle.lines.proofs.put_refused_at.Goals as goal

pub returns : goal.returns
unfolding refused_line
returns c =
    let a = c.args in
    let whole = ensured a.out.now a.at (refused_line a.class a.place)
    (piece (ascii "refused ") (c.put-pos.ensures.out_after, c.put-pos.ensures.value)
    then piece (decimal a.class) (c.put_decimal-pos.ensures.out_after, c.put_decimal-pos.ensures.value)
    then piece (place_text a.place) (c.put_place-pos.ensures.out_after, c.put_place-pos.ensures.value)
    then piece (10 ∷ []) (c.put_byte.ensures.out_after, c.put_byte.ensures.value)) in
    record { out_after = whole.0; value = whole.1 }
