-- `tables::clear_from` meets its contract.
use Rattle.tables.proofs.Clearing.{clear_part}
use Rattle.tables.proofs.clear_from.Goals as goal

pub returns : goal.returns
returns c = clear_part _ _ _ _ c.min-kept.ensures (c.fill.ensures.after (λ y e. e))
