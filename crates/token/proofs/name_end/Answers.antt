-- `token::name_end` meets its contract.
use mathlib.Core.Path.{sym, ap, ◌∙◌}
use Rattle.token.specs.Classes.{class_number}
use Rattle.token.proofs.ClassRuns.{name_here}
use Rattle.token.proofs.name_end.Goals as goal

pub returns-then-stops : goal.returns-then-stops
returns-then-stops c =
    let h = c.in-Some.ensures.lookup.3 in
    λ l. name_here _ _ _ h.0 (sym (c.of.ensures ∙ ap class_number (h.1 0)) ∙ c.if-of-eq-BEGINS.true) c.run_end-end.ensures (sym c.stops.ensures ∙ c.if-stops.true)
