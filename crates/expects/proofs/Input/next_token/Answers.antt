-- `expects::next_token` meets its contract.
use mathlib.Core.Path.{◌∙◌}
use Rattle.expects.proofs.Input.next_token.Goals as goal

pub returns : goal.returns
returns c = c.open_at.ensures ∙ c.behind_space.ensures c.args.self.now.format
