-- Values read from the top of their stack.
use Rattle.std.proofs.Common.{ℕ, zero, suc, ◌+◌, ◌≤◌, ◌≡◌, refl, sym, ◌∙◌, ap, List, [], ◌∷◌, ◌++◌, arith, length, get_or, take, drop, replicate, length-drop}
use native.Mathlib.Nat.{add-zero, add-suc}
use lib.Seq.{drop-append-le, drop-length, take-suc}
use Rattle.std.proofs.lemmas.List.{get_or-drop}
use Rattle.terms.specs.Rows.{pad}
use Rattle.stacks.specs.Stacks.{values_in}
use Rattle.stacks.proofs.Decoding.{length_values}

module _ (w : List ℕ) (v : ℕ) where
  -- The n values on top of v others stand one behind the other.
  pub values_top : (n : ℕ) → 2048 + v + n ≤ length w → drop v (values_in w (v + n)) ≡ take n (drop (2048 + v) w)
  unfolding values_in
  values_top zero h =
      ap (λ (k : ℕ). drop v (values_in w k)) (add-zero v) ∙ ap (λ (k : ℕ). drop k (values_in w v)) (sym (length_values w v)) ∙ drop-length (values_in w v)
  values_top (suc n) h =
      let l = values_in w (v + n) in
      let x = get_or w (2048 + (v + n)) 0 in
      ap (λ (k : ℕ). drop v (values_in w k)) (add-suc v n)
      ∙ drop-append-le v l (x ∷ []) (omega (arith, length_values w (v + n)))
      ∙ ap (λ (r : List ℕ). r ++ (x ∷ [])) (values_top n (omega arith))
      ∙ ap (λ (y : ℕ). take n (drop (2048 + v) w) ++ (y ∷ []))
      (ap (λ (k : ℕ). get_or w k 0) (let z : 2048 + (v + n) ≡ 2048 + v + n = omega arith in z) ∙ sym (get_or-drop (2048 + v) w n 0))
      ∙ sym (take-suc (drop (2048 + v) w) n 0 (omega (arith, length-drop (2048 + v) w)))

-- A padded list is the list, and zeros behind it.
pub padded : (m : ℕ) (l : List ℕ) → length l ≤ m → l ++ drop (length l) (replicate m 0) ≡ pad m l
padded zero [] h = refl
padded zero (x ∷ l) h = absurd (omega arith)
padded (suc m) [] h = ap (λ (r : List ℕ). 0 ∷ r) (padded m [] (omega arith))
padded (suc m) (x ∷ l) h = ap (λ (r : List ℕ). x ∷ r) (padded m l (omega arith))
