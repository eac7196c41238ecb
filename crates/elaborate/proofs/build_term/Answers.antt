-- `build_term` meets its contract.
use native.Mathlib.Omega.{arith}
use Rattle.rows.proofs.Arities.{arity_at_most_six}
use Rattle.elaborate.proofs.build_term.Goals as goal

pub pop_values-args-requires : goal.pop_values-args-requires
pop_values-args-requires c =
    let n = c.arity-n in
    (omega (arith, n.ensures), omega (arith, n.ensures, arity_at_most_six c.args.kind), c.requires.2)
