-- The search goes on over a byte or a block that two names share, and ends where they differ or end.
use Prim.Native.Nat.{ℕ, zero, suc, ◌+◌, ◌≤◌, ◌<◌}
use mathlib.Core.Path.{◌≡◌, sym, ◌∙◌, ap, ap₂}
use mathlib.Core.Logic.{inl}
use mathlib.Core.List.{List, [], ◌∷◌, ◌++◌}
use native.Mathlib.Nat.{zero-add}
use native.Mathlib.Omega.{arith}
use lib.ListN.{length, get_or, take, drop, length-append, length-drop, drop_of_length-le}
use lib.Seq.{drop-drop, drop-append_seam, take-append_seam}
use borrow.Author.Tests.{eq-eqb, ne_eqb}
use Rattle.token.proofs.Runs.{drop_next}
use Rattle.differences.specs.Differences.{first_difference}
use Rattle.differences.specs.inner.Digits.{digits}
use Rattle.differences.specs.inner.Shared.{Shared}
use Rattle.differences.proofs.Digits.{Bytes, bytes_part, same_digits}

-- Lists that begin alike differ where the rest of them does.
over : (n : ℕ) (l m : List ℕ) → n ≤ length l → n ≤ length m → take n l ≡ take n m → first_difference l m ≡ n + first_difference (drop n l) (drop n m)
unfolding first_difference
over zero l m h k e = sym (zero-add (first_difference l m))
over (suc n) [] m h k e = absurd (omega arith)
over (suc n) (x ∷ l) [] h k e = absurd (omega arith)
over (suc n) (x ∷ l) (y ∷ m) h k e =
    let q : x ≡ y = cc in
    let r : take n l ≡ take n m = cc in
    rw (eq-eqb x y q, first_difference) (let o = over n l m (omega arith) (omega arith) r in omega arith)

-- A chunk of n elements that is taken off what is left of a list behind its first i.
module _ (a x r : List ℕ) (i n : ℕ) (e : drop i a ≡ x ++ r) (l : length x ≡ n) where
  chunk_taken : take n (drop i a) ≡ x
  chunk_taken = rw (e, ← l) (take-append_seam x r)

  pub chunk_left : r ≡ drop (i + n) a
  chunk_left = sym (sym (drop-drop n i a) ∙ rw (e, ← l) (drop-append_seam x r))

  chunk_fits : i ≤ length a → i + n ≤ length a
  chunk_fits h = omega (arith, length-drop i a, ap length e, length-append x r)

module _ (a b : List ℕ) where
  pub shared_none : Shared a b 0
  shared_none = record { high = omega arith; same = sym (zero-add (first_difference a b)) }

  module _ (eq : length a ≡ length b) (i : ℕ) (p : Shared a b i) where
    pub shared_block : (n : ℕ) → i + n ≤ length a → take n (drop i a) ≡ take n (drop i b) → Shared a b (i + n)
    shared_block n h e =
        let o = over n (drop i a) (drop i b) (omega (arith, length-drop i a)) (omega (arith, length-drop i b)) e in
        let rest = ap₂ first_difference (drop-drop n i a) (drop-drop n i b) in
        record { high = h; same = p.same ∙ (let s : i + first_difference (drop i a) (drop i b) ≡ i + n + first_difference (drop (i + n) a) (drop (i + n) b) = omega arith in s) }

    -- Bytes whose numbers are equal, taken off what is left of both.
    pub shared_chunk : (n : ℕ) (x y r s : List ℕ) → Bytes a → Bytes b → drop i a ≡ x ++ r → drop i b ≡ y ++ s → length x ≡ n → length y ≡ n
        → digits 0 x ≡ digits 0 y → Shared a b (i + n)
    shared_chunk n x y r s in_a in_b f g l m e =
        let high : i ≤ length a = p.high in
        let v = chunk_taken a x r i n f l in
        let w = chunk_taken b y s i n g m in
        let bytes_x : Bytes x = rw v at (bytes_part a in_a i n) in
        let bytes_y : Bytes y = rw w at (bytes_part b in_b i n) in
        shared_block n (chunk_fits a x r i n f l high) (v ∙ same_digits 0 x y bytes_x bytes_y (inl (l ∙ sym m)) e ∙ sym w)

    pub differs_here : i < length a → (get_or a i 0 ≡ get_or b i 0 → ⊥) → i ≡ first_difference a b
    unfolding first_difference
    differs_here h n =
        let sum : i + 0 ≡ i = omega arith in
        sym (p.same ∙ rw (drop_next a i h, drop_next b i (omega arith), ne_eqb (get_or a i 0) (get_or b i 0) n, first_difference) sum)

    pub differs_nowhere : length a ≤ i → length a ≡ first_difference a b
    unfolding first_difference
    differs_nowhere h = let sum : i + 0 ≡ length a = omega (arith, p.high) in sym (p.same ∙ rw (drop_of_length-le a h) sum)

    pub shared_byte : i < length a → get_or a i 0 ≡ get_or b i 0 → Shared a b (i + 1)
    shared_byte h e = shared_block 1 (omega arith) (rw (drop_next a i h, drop_next b i (omega arith)) (ap (λ x. x ∷ []) e))
