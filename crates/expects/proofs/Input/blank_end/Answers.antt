-- `expects::blank_end` meets its contract.
use Rattle.expects.proofs.Formats.{source_tokens}
use Rattle.expects.proofs.Identifiers.{blank_same}
use Rattle.expects.proofs.Input.blank_end.Goals as goal

pub returns-in_default : goal.returns-in_default
returns-in_default c = blank_same c.args.self.now.format (source_tokens c.args.self.now.format c.in_default.not-Core01) _ _ _ c.skip_blank.ensures.same_layout
