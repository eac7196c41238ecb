-- A comment that is passed over in blocks, and then byte by byte.
use Prim.Native.Nat.{ℕ, ◌+◌, ◌<◌}
use mathlib.Core.Path.{◌≡◌, ◌∙◌, ap, sym}
use mathlib.Core.Bool.{true, not, true≢false}
use mathlib.Core.List.{List}
use native.Mathlib.Omega.{arith}
use lib.ListN.{length, get_or, drop}
use borrow.Author.Tests.{eq-eqb}
use Rattle.token.specs.Comments.{comment_end, no_end, SameComment}
use Rattle.token.specs.Blocks.{Passed}
use Rattle.token.proofs.Blocks.{same_from}
use Rattle.token.proofs.Comments.{comment_more}

not_ten : (b : ℕ) → no_end b ≡ true → b ≡ 10 → ⊥
not_ten b e q = true≢false (sym e ∙ ap not (eq-eqb b 10 q))

module _ (s : List ℕ) (at : ℕ) where
  pub same_blocks : (r : ℕ) → Passed no_end s at r → SameComment s at r
  same_blocks r p = record {
    low = p.low;
    high = p.high;
    same = same_from (λ k. comment_end k (drop k s)) at r p.low (λ i l u. comment_more s i (omega (arith, p.high)) (not_ten (get_or s i 0) (p.bytes i l u)));
  }

  pub same_byte : (i : ℕ) → SameComment s at i → i < length s → (get_or s i 0 ≡ 10 → ⊥) → SameComment s at (i + 1)
  same_byte i e h b = record { low = omega (arith, e.low); high = omega arith; same = e.same ∙ comment_more s i h b }

  pub same_on : (i k : ℕ) → SameComment s at i → SameComment s i k → SameComment s at k
  same_on i k e f = record { low = omega (arith, e.low, f.low); high = f.high; same = e.same ∙ f.same }
