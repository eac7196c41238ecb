-- A row and a declaration for each byte are enough: a source needs no more than one row for three bytes.
use native.Mathlib.Omega.{arith}
use Rattle.surface.specs.Statements.{Enough}
use Rattle.surface.specs.Tables.{ample}
use Rattle.surface.proofs.Accepted.{accepts_exactly}
use Rattle.least_storage.proofs.Needed.{readable_fits}
use Rattle.module_name.specs.Statements.{AmpleIsEnough}

pub ample_is_enough : AmpleIsEnough
ample_is_enough s (z, a) =
    let c = (accepts_exactly s z).0.0 a in
    let f = readable_fits s c.0 c.1 in
    let enough : Enough (ample s 16384) c.0 = record { surface = omega (arith, f.0); core = omega (arith, f.0); declarations = omega (arith, f.1); work = omega arith } in
    (accepts_exactly s (ample s 16384)).0.1 (c.0, c.1, enough, c.3)
