-- A chunk that is taken off what is left of a list behind its first i elements.
use Prim.Native.Nat.{ℕ, ◌+◌, ◌≤◌, ◌<◌}
use mathlib.Core.Path.{◌≡◌, sym, ◌∙◌, ap}
use mathlib.Core.List.{List, ◌++◌}
use native.Mathlib.Omega.{arith}
use lib.ListN.{length, get_or, drop, length-append, length-drop, get_or-append}
use lib.Seq.{drop-drop, drop-append_seam, get_or-drop}

module _ (s x r : List ℕ) (i n : ℕ) (e : drop i s ≡ x ++ r) (l : length x ≡ n) where
  pub chunk_left : r ≡ drop (i + n) s
  chunk_left = sym (sym (drop-drop n i s) ∙ rw (e, ← l) (drop-append_seam x r))

  pub chunk_fits : i ≤ length s → i + n ≤ length s
  chunk_fits h = omega (arith, length-drop i s, ap length e, length-append x r)

  pub chunk_byte : (k : ℕ) → k < n → get_or x k 0 ≡ get_or s (i + k) 0
  chunk_byte k h = sym (sym (get_or-drop i s k 0) ∙ ap (λ v. get_or v k 0) e ∙ get_or-append x r 0 k (omega arith))

  pub chunk_first : 0 < n → get_or x 0 0 ≡ get_or s i 0
  chunk_first h = let q : i + 0 ≡ i = omega arith in rw q at (chunk_byte 0 h)
