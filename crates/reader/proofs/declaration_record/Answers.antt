-- `reader::declaration_record` meets its contract.
use mathlib.Core.Path.{ap₂}
use mathlib.Core.List.{[], ◌∷◌}
use Prim.Native.Nat.{ℕ}
use native.Mathlib.Omega.{arith}
use Rattle.reader.proofs.declaration_record.Goals as goal

pub returns : goal.returns
returns c =
    let a = c.args in
    λ h.
    ap₂ (λ (x y : ℕ). a.kind ∷ x ∷ y ∷ a.type_row ∷ a.body_row ∷ []) (c.narrow-start.ensures (omega arith)) (c.narrow-length.ensures (omega arith))
