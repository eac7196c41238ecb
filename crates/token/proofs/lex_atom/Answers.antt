-- `token::lex_atom` meets its contract.
use mathlib.Core.Path.{sym, ap, ◌∙◌}
use Rattle.std.specs.Prelude.{Err}
use native.Mathlib.Omega.{arith}
use Rattle.token.proofs.ClassRuns.{run_stops, run_refused}
use Rattle.token.proofs.lex_atom.Goals as goal

pub returns-then-stops : goal.returns-then-stops
returns-then-stops c = sym (run_stops _ _ 5 _ (omega arith) c.requires c.run_end-end.ensures (sym c.stops.ensures ∙ c.if-stops.true))

pub returns-else-stops : goal.returns-else-stops
returns-else-stops c = ap Err c.at.ensures ∙ sym (run_refused _ _ _ c.requires c.run_end-end.ensures (sym c.stops.ensures ∙ c.if-stops.false))
