-- `token::skip_spaces` meets its contract: the layout goes on over each block of spaces.
use Rattle.std.proofs.Common.{rules}
use Rattle.token.specs.Classes.{space}
use Rattle.token.proofs.SpaceBlocks.{layout_blocks}
use Rattle.token.proofs.skip_spaces.Goals as goal

pub returns : goal.returns
returns c = layout_blocks _ _ _ (c.skip_blocks.ensures space (λ b r k. search rules))
