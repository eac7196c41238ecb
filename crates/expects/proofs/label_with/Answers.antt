-- `expects::label_with` meets its contract.
use native.Mathlib.Omega.{arith}
use Rattle.expects.proofs.label_with.Goals as goal

pub returns : goal.returns
returns c =
    λ h g.
    let a = c.narrow.ensures (omega arith) in
    let b = c.narrow-2.ensures (omega arith) in
    let d = c.narrow-3.ensures g in
    λ i. record { kind = c.args.kind; start = a i; length = b i; offset = d i }
