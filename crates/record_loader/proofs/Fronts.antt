-- The front of a table of words is lent to a call, and comes back as the call left it, with what lies behind.
use mathlib.Core.Path.{◌≡◌, sym, ap, ◌∙◌, subst}
use mathlib.Core.List.{List, ◌++◌}
use Prim.Native.Nat.{ℕ, ◌≤◌}
use native.Mathlib.Omega.{arith}
use lib.ListN.{length, take, drop}
use lib.Seq.{take_at, length-take-le}
use Rattle.records.specs.Records.{word_limit}
use Rattle.records.proofs.Whole.{limit_within}
use Rattle.record_loader.specs.Recorded.{front}

-- The part that is lent, of m words.
module _ (count m : ℕ) (words : List ℕ) (e : m ≡ word_limit count (length words)) where
  pub within : m ≤ length words
  within = omega (arith, e, limit_within count (length words))

  pub taken : m ≡ length (take m words)
  taken = sym (length-take-le m words within)

  -- What is said of the part before the call and after it, ys, is said of the front of the table.
  pub left : (ys : List ℕ) → length ys ≡ length (take m words) → (P : List ℕ → List ℕ → Type 0) → P (take m words) ys → P (front count words words) (front count words (ys ++ drop m words))
  left ys l P h =
      let back : ys ≡ front count words (ys ++ drop m words) = sym (take_at ys (drop m words) m (l ∙ sym taken)) ∙ ap (λ (n : ℕ). take n (ys ++ drop m words)) e in
      subst (λ (y : List ℕ). P (front count words words) y) back (subst (λ (n : ℕ). P (take n words) ys) e h)
