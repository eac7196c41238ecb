-- `lines::put_place` meets its contract.
use Rattle.words.specs.Words.{ascii}
use Rattle.text.proofs.Writing.{piece, ensured, ◌then◌}
use Rattle.text.specs.Text.{decimal}
use Rattle.lines.specs.Listing.{place_text}
use Rattle.lines.proofs.put_place.Goals as goal

pub returns-in-Some : goal.returns-in-Some
unfolding place_text
returns-in-Some c =
    let a = c.args in
    let pair = ensured a.out.now a.at _ (piece (ascii " at ") (c.put-next.ensures.out_after, c.put-next.ensures.value) then piece (decimal c.in-Some.p) (c.put_decimal.ensures.out_after, c.put_decimal.ensures.value)) in
    record { out_after = rw c.in-Some.is pair.0; value = rw c.in-Some.is pair.1 }

pub returns-in-None : goal.returns-in-None
unfolding place_text
returns-in-None c = record { out_after = rw c.in-None.is c.put.ensures.out_after; value = rw c.in-None.is c.put.ensures.value }
