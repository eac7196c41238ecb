-- `is_repeated` meets its contract.
use native.Mathlib.Omega.{arith}
use Rattle.scope.specs.Index.{all_slots}
use Rattle.core_names.proofs.Blank.{indexed_blank}
use Rattle.core_names.proofs.is_repeated.Goals as goal

pub any_repeated-requires-2 : goal.any_repeated-requires-2
any_repeated-requires-2 c =
    let a = c.args in
    (omega arith, omega arith, indexed_blank a.s.now a.declarations.now all_slots)
