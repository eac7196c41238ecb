-- `reader::read_declarations` meets its contract. The loop ends since each declaration that is read takes a record.
use Prim.Native.Nat.{◌-◌}
use Rattle.reader.proofs.Loop.{Reading}
use Rattle.reader.proofs.read_declarations.Given as goal

abbrev pub invariant-loop-next : goal.invariant-loop-next
invariant-loop-next g l = Reading l.input.format l.limits l.input.bytes.now l.initial.table l.initial.list l.initial.work l.from l.table l.list l.work l.at l.rows l.k l.frames

abbrev pub decreases-loop-next : goal.decreases-loop-next
decreases-loop-next g l = l.limits.declarations - l.k
