-- `Input::paren_at` meets its contract.
use borrow.Author.Rules.{rules}
use Rattle.expects.proofs.Formats.{paren_first}
use Rattle.expects.proofs.Input.paren_at.Goals as goal

pub returns-then-self-at : goal.returns-then-self-at
returns-then-self-at c = paren_first _ _ _ _ c.args.self.now.format c.requires c.if-self-at.true (search rules)
