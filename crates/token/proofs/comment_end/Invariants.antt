-- `token::comment_end` meets its contract.
use Rattle.token.specs.Comments.{SameComment}
use Rattle.token.proofs.comment_end.Given as goal

abbrev pub invariant-loop-pos : goal.invariant-loop-pos
invariant-loop-pos l = SameComment l.s l.at l.pos
