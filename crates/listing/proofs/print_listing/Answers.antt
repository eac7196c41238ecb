-- `listing::print_listing` meets its contract: what is written is the text, since every text fits the buffer.
use Rattle.std.proofs.Common.{arith, sym, subst}
use lib.Seq.{length-take-le}
use Rattle.std.specs.Prelude.{OnOk}
use Rattle.std.specs.Io.KnownBytes.{Appends}
use Rattle.listing.proofs.Fits.{within_buffer}
use Rattle.listing.proofs.Moving.{text_whole}
use Rattle.listing.proofs.print_listing.Goals as goal

pub slice_bounds-text-end : goal.slice_bounds-text-end
slice_bounds-text-end g c = omega (arith, within_buffer _ _ _ _ c.list-length.ensures)

pub slice_bounds-write_output-end : goal.slice_bounds-write_output-end
slice_bounds-write_output-end g c =
    let k = c.list-length in
    sym (length-take-le k.result k.new.text (omega (arith, within_buffer _ _ _ _ k.ensures)))

pub returns : goal.returns
returns g c =
    let k = c.list-length in
    let w = c.write_output in
    subst (λ t. OnOk w.result (Appends (g.W.Write.contents c.args.output.now) (g.W.Write.contents w.new.output) t))
    (text_whole _ _ _ _ (omega arith) k.ensures)
    w.ensures
