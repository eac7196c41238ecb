-- `expects::name_end` meets its contract.
use native.Mathlib.Omega.{arith}
use Rattle.expects.proofs.Formats.{source_tokens}
use Rattle.expects.proofs.Input.name_end.Goals as goal

pub returns-in-Core01 : goal.returns-in-Core01
returns-in-Core01 c = λ h. absurd (omega arith)

pub returns-in_default : goal.returns-in_default
returns-in_default c = λ h. (source_tokens c.args.self.now.format c.in_default.not-Core01, c.name_end.ensures h)
