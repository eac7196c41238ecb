-- `printer::set_top` meets its contract.
use mathlib.Core.Logic.{⊎_elim}
use native.Mathlib.Omega.{arith}
use Rattle.printer.proofs.Frames.{stacked_room, stacked_set}
use Rattle.printer.proofs.set_top.Goals as goal

pub returns-then-top-n : goal.returns-then-top-n
returns-then-top-n c = λ w l s. let a = c.args in stacked_set a.work.now w l a.top s a.word

pub returns-else-top-gt0 : goal.returns-else-top-gt0
returns-else-top-gt0 c =
    λ w l s. absurd (⊎_elim (λ d. omega (arith, s.told, stacked_room s, d.1)) (λ d. omega (arith, s.told)) c.else-top-gt0.either)
