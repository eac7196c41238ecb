-- Layout that is passed over in blocks of spaces.
use Prim.Native.Nat.{ℕ}
use mathlib.Core.Path.{◌≡◌, ap}
use mathlib.Core.Bool.{true, false}
use mathlib.Core.List.{List}
use native.Mathlib.Omega.{arith}
use lib.Dec.{eqb}
use lib.ListN.{get_or, drop}
use borrow.Author.Tests.{eqb-true}
use Rattle.token.specs.Token.{byte_class, layout_end}
use Rattle.token.specs.Classes.{space, LayoutOver}
use Rattle.token.specs.Blocks.{Passed}
use Rattle.token.specs.declared.ByteClass.TheVariants.{Layout}
use Rattle.token.proofs.Blocks.{same_from}
use Rattle.token.proofs.Runs.{layout_blank}

space_class : (b : ℕ) → eqb b 32 ≡ true → byte_class b ≡ Layout
unfolding byte_class
space_class b q = ap byte_class (eqb-true b 32 q)

pub layout_blocks : (s : List ℕ) (at r : ℕ) → Passed space s at r → LayoutOver s at r
layout_blocks s at r p = record {
  low = p.low;
  high = p.high;
  same = same_from (λ k. layout_end false k (drop k s)) at r p.low (λ i l u. layout_blank s i (omega (arith, p.high)) (space_class (get_or s i 0) (p.bytes i l u)));
}
