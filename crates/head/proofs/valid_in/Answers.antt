-- `head::valid_in` meets its contract.
use mathlib.Core.Path.{sym}
use lib.Seq.{length-take-le}
use Rattle.head.proofs.valid_in.Goals as goal

pub slice_bounds-valid_up_to-end : goal.slice_bounds-valid_up_to-end
slice_bounds-valid_up_to-end c = sym (length-take-le c.args.end c.args.s.now c.requires)
