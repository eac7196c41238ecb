-- `text::put_digits` meets its contract, by a measure of the places.
use Rattle.std.proofs.Common.{[], ◌∷◌, ◌+◌, ◌-◌, ◌/◌, ◌%◌}
use borrow.Author.Rules.{rules}
use Rattle.text.specs.Text.{digits}
use Rattle.text.proofs.Digits.{digits_more}
use Rattle.text.proofs.Writing.{Ensured, piece, ensured, ◌then◌}
use Rattle.text.proofs.+put_digits.Goals as goal

pub returns : goal.returns
returns t c =
    let a = c.args in
    let k = c.put_digits-next.ensures in
    let e = c.put_byte-2.ensures in
    let both : Ensured a.out.now a.at (digits a.places a.n) c.put_byte-2.new.out c.put_byte-2.result =
    rw (digits_more a.places a.n (search rules) (search rules))
    (ensured a.out.now a.at _
    (piece (digits (a.places - 1) (a.n / 10)) (k.out_after, k.value)
    then piece ((48 + a.n % 10) ∷ []) (e.out_after, e.value))) in
    record { out_after = both.0; value = both.1 }
