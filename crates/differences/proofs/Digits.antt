-- The number of a few bytes determines them, and fits 64 bits.
use Prim.Native.Nat.{ℕ, zero, suc, ◌+◌, ◌*◌, ◌≤◌, ◌<◌}
use mathlib.Core.Path.{◌≡◌, refl, sym, ◌∙◌, ap}
use mathlib.Core.Logic.{◌⊎◌, inl, inr, ⊎_elim}
use mathlib.Core.List.{List, [], ◌∷◌, ◌++◌}
use native.Mathlib.Omega.{arith}
use lib.ListN.{length, get_or, take, drop}
use lib.Seq.{get_or-drop}
use Rattle.differences.specs.inner.Digits.{digits}

-- What is known of the bytes of a slice.
abbrev pub Bytes : List ℕ → Type 0
Bytes l = (i : ℕ) → get_or l i 0 < 256

bytes_take : (n : ℕ) (l : List ℕ) → Bytes l → Bytes (take n l)
bytes_take zero l p i = omega arith
bytes_take (suc n) [] p i = omega arith
bytes_take (suc n) (b ∷ l) p zero = p 0
bytes_take (suc n) (b ∷ l) p (suc i) = bytes_take n l (λ j. p (suc j)) i

bytes_drop : (l : List ℕ) → Bytes l → (i : ℕ) → Bytes (drop i l)
bytes_drop l p i k = rw (get_or-drop i l k 0) (p (i + k))

pub bytes_part : (l : List ℕ) → Bytes l → (i n : ℕ) → Bytes (take n (drop i l))
bytes_part l p i n = bytes_take n (drop i l) (bytes_drop l p i)

module _ (first : ℕ) where
  first_least : (l : List ℕ) → first ≤ digits first l
  unfolding digits
  first_least [] = omega arith
  first_least (b ∷ l) = omega (arith, first_least l)

  -- Equal numbers are of equal bytes, where these are equally many or a first digit tells where they end.
  pub same_digits : (v w : List ℕ) → Bytes v → Bytes w → (length v ≡ length w) ⊎ (0 < first) → digits first v ≡ digits first w → v ≡ w
  unfolding digits
  same_digits [] [] p q t e = refl
  same_digits [] (c ∷ w) p q t e = absurd (⊎_elim (λ n. omega arith) (λ n. omega (arith, first_least w)) t)
  same_digits (b ∷ v) [] p q t e = absurd (⊎_elim (λ n. omega arith) (λ n. omega (arith, first_least v)) t)
  same_digits (b ∷ v) (c ∷ w) p q t e =
      let low = p 0 in
      let high = q 0 in
      let this : b ≡ c = omega arith in
      let others : digits first v ≡ digits first w = omega arith in
      let r : v ≡ w = same_digits v w (λ i. p (suc i)) (λ i. q (suc i)) (⊎_elim (λ n. inl (omega arith)) (λ n. inr n) t) others in
      cc

-- The numbers of n bytes are below this.
abbrev pub power : ℕ → ℕ
power zero = 1
power (suc n) = power n * 256

power_above : (n : ℕ) → n < power n
power_above zero = omega arith
power_above (suc n) = omega (arith, power_above n)

pub below : (first n : ℕ) (l : List ℕ) → Bytes l → first ≤ 1 → first + length l ≤ n → digits first l < power n
unfolding digits
below first n [] p f h = omega (arith, power_above n)
below first zero (b ∷ l) p f h = absurd (omega arith)
below first (suc n) (b ∷ l) p f h = let low = p 0 in omega (arith, below first n l (λ i. p (suc i)) f (omega arith))

-- The last byte of a list is the first of those behind the first digit.
digits_last : (n b : ℕ) (l : List ℕ) → digits n (l ++ (b ∷ [])) ≡ digits (n * 256 + b) l
unfolding digits
digits_last n b [] = refl
digits_last n b (x ∷ l) = ap (λ k. k * 256 + x) (digits_last n b l)

-- One more byte, behind those that are left.
module _ (n b k : ℕ) (l m : List ℕ) (e : l ≡ m ++ (b ∷ [])) (h : digits n l ≡ k) where
  pub number_more : digits (n * 256 + b) m ≡ k
  number_more = sym (digits_last n b m) ∙ ap (digits n) (sym e) ∙ h

  pub number_fits : k < power 8 → n * 256 + b < power 8
  number_fits f = omega (arith, number_more, first_least (n * 256 + b) m)

pub number_none : (n k : ℕ) (l : List ℕ) → length l ≡ 0 → digits n l ≡ k → n ≡ k
unfolding digits
number_none n k [] z h = h
number_none n k (b ∷ l) z h = absurd (omega arith)
