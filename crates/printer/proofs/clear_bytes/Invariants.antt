-- `printer::clear_bytes` meets its contract.
use mathlib.Core.Path.{◌≡◌}
use Rattle.tables.specs.Tables.{cleared}
use Rattle.printer.proofs.clear_bytes.Given as goal

abbrev pub invariant-loop-i : goal.invariant-loop-i
invariant-loop-i l = cleared l.initial.out l.from ≡ cleared l.out l.i
