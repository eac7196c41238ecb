-- `printer::put_declaration` meets its contract.
use mathlib.Core.List.{[], ◌∷◌}
use Prim.Native.Nat.{◌-◌}
use lib.ListN.{length}
use Rattle.printer.specs.inner.Machine.{declaration_start, start_at, aside, step_row, step_declaration, down}
use Rattle.printer.proofs.Turning.{turns_then, turns_as, turns_aside}
use Rattle.printer.proofs.put_declaration.Goals as goal

pub returns : goal.returns
unfolding step_declaration start_at
returns c =
    let a = c.args in
    let f = c.first_row-from.ensures in
    let b = c.row_behind-to.ensures in
    let r = c.record_at-row.ensures in
    let g = step_row a.s.now a.core.now (length a.work.now) in
    turns_as (λ m i. aside (declaration_start a.s.now (r.kind i) (r.a i) (r.b i)) (down g (f i) (b i - f i) (aside (41 ∷ []) m)))
    (turns_then (turns_then (turns_aside c.put_byte-at.ensures) c.put_rows-inner.ensures) (turns_aside c.put_start-start.ensures))
