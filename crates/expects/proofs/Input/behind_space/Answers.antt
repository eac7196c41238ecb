-- `Input::behind_space` meets its contract.
use borrow.Author.Rules.{rules}
use Rattle.expects.proofs.Formats.{space_first}
use Rattle.expects.proofs.Input.behind_space.Goals as goal

pub returns-then-self-at-eq32 : goal.returns-then-self-at-eq32
returns-then-self-at-eq32 c = λ f. space_first _ _ (search rules) f c.if-self-at-eq32.true
