-- `rows::holds_numeral` meets its contract.
use mathlib.Core.Path.{sym, ◌∙◌}
use native.Mathlib.Omega.{arith}
use borrow.Author.Tests.{eq-eqb, ne_eqb, le-leb, lt-leb}
use Rattle.rows.proofs.Arities.{holds_numeral}
use Rattle.rows.proofs.holds_numeral.Goals as goal

pub returns-in-1-to-3 : goal.returns-in-1-to-3
returns-in-1-to-3 c = let k = c.args.kind in sym (holds_numeral k ∙ rw (ne_eqb k 0 (λ e. omega arith), le-leb k 3 (omega arith)))

pub returns-in_default : goal.returns-in_default
returns-in_default c = let k = c.args.kind in sym (holds_numeral k ∙ rw (eq-eqb k 0 (omega arith)))

pub returns-in_default-2 : goal.returns-in_default-2
returns-in_default-2 c = let k = c.args.kind in sym (holds_numeral k ∙ rw (ne_eqb k 0 (λ e. omega arith), lt-leb k 3 (omega arith)))
