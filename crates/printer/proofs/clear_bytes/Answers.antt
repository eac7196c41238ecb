-- `printer::clear_bytes` meets its contract.
use mathlib.Core.Path.{sym, ◌∙◌}
use native.Mathlib.Omega.{arith}
use Rattle.printer.proofs.Buffer.{clear_next, clear_last}
use Rattle.printer.proofs.clear_bytes.Goals as goal

pub loop-i-preserved : goal.loop-i-preserved
loop-i-preserved c = let l = c.loop-i in l.invariant ∙ sym (clear_next l.out l.i (omega arith))

pub returns : goal.returns
returns c = let l = c.loop-i in clear_last l.out l.i (omega arith) ∙ sym l.invariant
