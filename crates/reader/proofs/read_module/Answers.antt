-- `reader::read_module` meets its contract: the tables hold what they have places for.
use Prim.Native.Nat.{◌/◌}
use native.Mathlib.Omega.{arith}
use lib.ListN.{length}
use Rattle.std.proofs.lemmas.Result.{err_from_is_err_and}
use Rattle.surface.specs.Reader.{start}
use Rattle.surface.specs.Reading.{read_module}
use Rattle.reader.specs.declared.Limits.{Limits}
use Rattle.reader.proofs.Modules.{whole_refused, whole_done}
use Rattle.reader.proofs.read_module.Goals as goal

pub returns-in_err-size : goal.returns-in_err-size
returns-in_err-size g c =
    let m = c.measure_within in
    let a = c.args in
    let table = a.table.now in
    let list = a.list.now in
    let limits : Limits = record { rows = length table / 8; declarations = length list / 5 } in
    let p = err_from_is_err_and c.from_residual.result c.from_residual.ensures.1 in
    rw (p.1, p.2) (λ short wide. whole_refused limits (read_module a.s.now limits.rows limits.declarations 512 start) table list m.result m.new.table m.new.list
    (omega arith) (omega arith) (m.ensures (omega (arith, short)) (omega (arith, wide))) _ c.in_err-size.was)

pub returns : goal.returns
returns g c =
    let m = c.measure_within in
    let a = c.args in
    let table = a.table.now in
    let list = a.list.now in
    let limits : Limits = record { rows = length table / 8; declarations = length list / 5 } in
    λ short wide.
    whole_done limits (read_module a.s.now limits.rows limits.declarations 512 start) table list m.result m.new.table m.new.list
    (omega arith) (omega arith) (m.ensures (omega (arith, short)) (omega (arith, wide))) c.in_ok-size.size.rows c.in_ok-size.size.declarations c.in_ok-size.size.frames c.in_ok-size.was
