-- `listing::answer` meets its contract: the text for what was read is the text for the input.
use Rattle.std.proofs.Common.{arith}
use Rattle.listing.proofs.Moving.{answered, same_ok, on_ok}
use Rattle.listing.proofs.answer.Goals as goal

pub returns : goal.returns
returns g c =
    let e = c.read_input.ensures in
    let q = same_ok c.read_input.result c.map_err.result c.in_ok-n.n _ c.map_err.ensures.cases c.in_ok-n.was in
    on_ok c.print_listing.result c.map_err-2.result c.map_err-2.ensures.variant c.print_listing.ensures
    (answered _ _ _ _ c.read_input.new.buf c.in_ok-n.n (omega arith) (rw q at e.within) (rw q at e.bytes))
