-- `core_layout::is_nothing` meets its contract.
use Rattle.core_layout.proofs.Gaps.{no_byte}
use Rattle.core_layout.proofs.is_nothing.Goals as goal

pub returns : goal.returns
returns c = no_byte _ _ _ c.requires.0 c.requires.1
