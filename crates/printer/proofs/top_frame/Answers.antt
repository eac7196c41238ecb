-- `printer::top_frame` meets its contract.
use mathlib.Core.Path.{◌∙◌}
use native.Mathlib.Omega.{arith}
use Rattle.printer.proofs.Frames.{stacked_room, stacked_top}
use Rattle.printer.proofs.top_frame.Goals as goal

pub returns-then-n-top : goal.returns-then-n-top
returns-then-n-top c = λ w l s. absurd (omega (arith, s.told, stacked_room s))

pub returns : goal.returns
returns c = λ w l s. let a = c.args in c.word_at.ensures ∙ stacked_top a.work.now w l a.top s
