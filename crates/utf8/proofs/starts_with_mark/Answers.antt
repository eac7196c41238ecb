-- `utf8::starts_with_mark` meets its contract.
use Rattle.std.proofs.Common.{◌∙◌}
use Rattle.utf8.proofs.Mark.{mark_is}
use Rattle.utf8.proofs.starts_with_mark.Goals as goal

pub returns : goal.returns
returns c = c.starts_with.ensures.value ∙ mark_is c.args.s.now
