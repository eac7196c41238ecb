-- `printer::put_module` meets its contract.
use mathlib.Core.List.{[], ◌∷◌}
use Rattle.printer.specs.inner.Machine.{machine, whole}
use Rattle.printer.proofs.Ends.{written_none}
use Rattle.printer.proofs.put_module.Goals as goal

pub returns : goal.returns
unfolding whole
returns c =
    λ h.
    let a = c.args in
    let w = c.put-end.ensures.front [] (written_none a.out.now) in
    let d = c.put_declarations-inner.ensures.turn (machine [] (41 ∷ 41 ∷ 10 ∷ [])) (record { frames = h; written = w }) in
    record { frames = d.frames; written = c.put-at.ensures.front _ d.written }
