-- `token::next_token_by` meets its contract.
use mathlib.Core.Path.{sym, ◌∙◌}
use borrow.Author.Rules.{rules}
use Rattle.token.proofs.Runs.{here_end, next_at}
use Rattle.token.proofs.next_token_by.Goals as goal

pub returns-then-start-s : goal.returns-then-start-s
returns-then-start-s c = sym (next_at _ _ _ c.skip_layout-start.ensures ∙ here_end _ _ (search rules))

pub returns : goal.returns
returns c = c.token_at.ensures ∙ sym (next_at _ _ _ c.skip_layout-start.ensures)
