-- `Classes::of_table` meets its contract: the entries before b are right.
use Prim.Native.Nat.{ℕ, ◌+◌, ◌<◌}
use mathlib.Core.Path.{◌≡◌, sym, ◌∙◌}
use native.Mathlib.Omega.{arith}
use native.Mathlib.Decide.{ℕ_discrete}
use lib.ListN.{get_or}
use Rattle.token.specs.Classes.{class_number}
use Rattle.token.proofs.byte_classes.Classes.of_table.Goals as goal

pub loop-b-init : goal.loop-b-init
loop-b-init c = λ i h. absurd (omega arith)

pub loop-b-preserved : goal.loop-b-preserved
loop-b-preserved c = λ i h.
    elim (ℕ_discrete i c.loop-b.b) [
      | yes q ↦ rw q (c.if-table-b.false ∙ c.of.ensures)
      | no n ↦ c.loop-b.invariant i (omega arith)
    ]

pub returns-clause-wrong : goal.returns-clause-wrong
returns-clause-wrong c = λ w. record { size = c.if-table-ne256.false; entry = λ b h. c.loop-b.invariant b (omega (arith, c.loop-b-test.false)) }
