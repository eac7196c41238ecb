-- `head::name_in_long` meets its contract.
use mathlib.Core.Path.{sym}
use Rattle.head.proofs.Answers.{first_long, long_answer}
use borrow.Author.Rules.{rules}
use Rattle.head.proofs.name_in_long.Goals as goal

pub slice_bounds-name_in_head-end : goal.slice_bounds-name_in_head-end
slice_bounds-name_in_head-end c = sym (first_long c.args.s.now c.requires)

pub returns : goal.returns
returns c = long_answer c.args.s.now c.requires _ (sym c.name_in_head.ensures) _ _ c.map_err.ensures.cases (λ e r p. search rules)
