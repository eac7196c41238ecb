-- `lines::put_number` meets its contract.
use mathlib.Core.List.{[], ◌∷◌}
use Rattle.text.proofs.Writing.{piece, ensured, ◌then◌}
use Rattle.text.specs.Text.{decimal}
use Rattle.lines.proofs.put_number.Goals as goal

pub returns : goal.returns
returns c =
    let whole = let a = c.args in
    ensured a.out.now a.at _ (piece (32 ∷ []) (c.put_byte-next.ensures.out_after, c.put_byte-next.ensures.value) then piece (decimal a.n) (c.put_decimal.ensures.out_after, c.put_decimal.ensures.value)) in record { out_after = whole.0; value = whole.1 }
