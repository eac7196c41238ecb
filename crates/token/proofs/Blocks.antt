-- Bytes that all pass a test, block by block.
use Prim.Native.Nat.{ℕ, zero, suc, ◌+◌, ◌-◌, ◌≤◌, ◌<◌}
use mathlib.Core.Path.{◌≡◌, sym, ◌∙◌, ap}
use mathlib.Core.Bool.{Bool, true, false, ◌&&◌, and-true, and-false, and_assoc, and-eq-true_iff}
use mathlib.Core.List.{List, [], ◌∷◌, ◌++◌}
use native.Mathlib.Omega.{arith}
use native.Mathlib.Decide.{dec_le}
use native.Mathlib.Numerals.{add-one}
use lib.ListN.{length, get_or, take, drop, length-drop}
use lib.Seq.{take-suc, get_or-drop}
use Rattle.std.specs.List.{fold}
use Rattle.token.specs.Blocks.{every, Passed}
use Rattle.token.proofs.Chunks.{chunk_fits, chunk_byte}

module _ (p : ℕ → Bool) where
  -- A fold over a block tells whether every byte passes.
  pub fold_every : (t : Bool) (l : List ℕ) → fold (λ a b. a && p b) t l ≡ (t && every p l)
  unfolding every
  fold_every t [] = sym (and-true t)
  fold_every t (b ∷ l) = fold_every (t && p b) l ∙ and_assoc t (p b) (every p l)

  every_snoc : (l : List ℕ) (b : ℕ) → every p (l ++ (b ∷ [])) ≡ (every p l && p b)
  unfolding every
  every_snoc [] b = and-true (p b)
  every_snoc (x ∷ l) b = ap (λ t. p x && t) (every_snoc l b) ∙ sym (and_assoc (p x) (every p l) (p b))

  -- One more byte of a block.
  module _ (s : List ℕ) (at i : ℕ) {t : Bool} (h : at + i < length s) (e : every p (take i (drop at s)) ≡ t) where
    block_more : every p (take (i + 1) (drop at s)) ≡ (t && p (get_or s (at + i) 0))
    block_more =
        let k : i < length (drop at s) = omega (arith, length-drop at s) in
        rw (add-one, take-suc (drop at s) i 0 k, every_snoc, get_or-drop, e)

    pub block_no : p (get_or s (at + i) 0) ≡ false → every p (take (i + 1) (drop at s)) ≡ false
    block_no b = block_more ∙ rw b (and-false t)

    pub block_yes : p (get_or s (at + i) 0) ≡ true → every p (take (i + 1) (drop at s)) ≡ t
    block_yes b = block_more ∙ rw b (and-true t)

  every_at : (l : List ℕ) → every p l ≡ true → (j : ℕ) → j < length l → p (get_or l j 0) ≡ true
  unfolding every
  every_at [] e j h = absurd (omega arith)
  every_at (b ∷ l) e zero h = ((and-eq-true_iff (p b) (every p l)).0 e).0
  every_at (b ∷ l) e (suc j) h = every_at l ((and-eq-true_iff (p b) (every p l)).0 e).1 j (omega arith)

  pub passed_none : (s : List ℕ) (at : ℕ) → at ≤ length s → Passed p s at at
  passed_none s at h = record { low = omega arith; high = h; bytes = λ i l u. absurd (omega arith) }

  -- A block whose bytes pass, taken off what is left.
  pub passed_block : (s : List ℕ) (at i n : ℕ) → Passed p s at i → (x r : List ℕ) → drop i s ≡ x ++ r → length x ≡ n → every p x ≡ true → Passed p s at (i + n)
  passed_block s at i n v x r f l e = record {
    low = omega (arith, v.low);
    high = chunk_fits s x r i n f l v.high;
    bytes = λ k a b. elim (dec_le i k) [ yes o ↦ inside k o b | no o ↦ v.bytes k a (omega arith) ];
  }
    where
      inside : (k : ℕ) → i ≤ k → k < i + n → p (get_or s k 0) ≡ true
      inside k o b =
          let same : get_or x (k - i) 0 ≡ get_or s (i + (k - i)) 0 = chunk_byte s x r i n f l (k - i) (omega arith) in
          let q : i + (k - i) ≡ k = omega arith in
          rw q at (rw same at (every_at x e (k - i) (omega arith)))

-- What each step keeps is the same at the end.
steps : {X : Type 0} (f : ℕ → X) (n at : ℕ) → ((i : ℕ) → at ≤ i → i < at + n → f i ≡ f (i + 1)) → f at ≡ f (at + n)
steps f zero at h = ap f (let q : at ≡ at + 0 = omega arith in q)
steps f (suc n) at h = h at (omega arith) (omega arith) ∙ steps f n (at + 1) (λ i l u. h i (omega arith) (omega arith)) ∙ ap f (let q : at + 1 + n ≡ at + suc n = omega arith in q)

pub same_from : {X : Type 0} (f : ℕ → X) (at r : ℕ) → at ≤ r → ((i : ℕ) → at ≤ i → i < r → f i ≡ f (i + 1)) → f at ≡ f r
same_from f at r h g = let q : at + (r - at) ≡ r = omega arith in steps f (r - at) at (λ i l u. g i l (omega arith)) ∙ ap f q
