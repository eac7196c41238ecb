-- The digits of a number, the last one first.
use mathlib.Core.Path.{◌≡◌, refl, sym, ap, ◌∙◌}
use mathlib.Core.List.{List, [], ◌∷◌, ◌++◌}
use Prim.Native.Nat.{ℕ, zero, suc, ◌+◌, ◌/◌, ◌%◌, ◌^◌, ◌≤◌, ◌<◌}
use native.Mathlib.Omega.{arith}
use native.Mathlib.Nat.{pow-suc}
use native.Mathlib.Decide.{dec_lt}
use borrow.Author.Tests.{lt-ltb, le-ltb}
use Rattle.text.specs.Text as Listed
use Rattle.printing.specs.Decimal.{digits, decimal}

pub digits_one : (k n : ℕ) → n < 10 → digits k n ≡ (48 + n) ∷ []
unfolding digits
digits_one zero n h = refl
digits_one (suc k) n h = rw (lt-ltb n 10 h, digits) refl

pub digits_more : (k n : ℕ) → 10 ≤ n → digits (suc k) n ≡ digits k (n / 10) ++ ((48 + n % 10) ∷ [])
unfolding digits
digits_more k n h = rw (le-ltb n 10 h, digits) refl

-- As many divisions as the number has are enough, and more do no harm.
pub digits_enough : (k j n : ℕ) → n ≤ k → n ≤ j → digits k n ≡ digits j n
digits_enough zero j n h g = digits_one zero n (omega arith) ∙ sym (digits_one j n (omega arith))
digits_enough (suc k) zero n h g = digits_one (suc k) n (omega arith) ∙ sym (digits_one zero n (omega arith))
digits_enough (suc k) (suc j) n h g = go (digits_enough k j (n / 10)) (dec_lt n 10)
  where
    go : (n / 10 ≤ k → n / 10 ≤ j → digits k (n / 10) ≡ digits j (n / 10)) → Dec (n < 10) → digits (suc k) n ≡ digits (suc j) n
    go ih (yes l) = digits_one (suc k) n l ∙ sym (digits_one (suc j) n l)
    go ih (no l) =
        digits_more k n (omega arith)
        ∙ ap (λ (d : List ℕ). d ++ ((48 + n % 10) ∷ [])) (ih (omega arith) (omega arith))
        ∙ sym (digits_more j n (omega arith))

pub decimal_one : (n : ℕ) → n < 10 → decimal n ≡ (48 + n) ∷ []
unfolding decimal
decimal_one n h = digits_one n n h

pub decimal_more : (n : ℕ) → 10 ≤ n → decimal n ≡ decimal (n / 10) ++ ((48 + n % 10) ∷ [])
unfolding decimal
decimal_more zero h = absurd (omega arith)
decimal_more (suc n) h =
    digits_more n (suc n) h ∙ ap (λ (d : List ℕ). d ++ ((48 + suc n % 10) ∷ [])) (digits_enough n (suc n / 10) (suc n / 10) (omega arith) (omega arith))

-- The listing's digits, of which there are at most so many, are the same.
listed_digits : (k n : ℕ) → n < 10 ^ suc k → Listed.digits (suc k) n ≡ decimal n
unfolding Listed.digits
listed_digits zero n h = let l : n < 10 = omega (arith, pow-suc 10 0) in rw (lt-ltb n 10 l, Listed.digits) (sym (decimal_one n l))
listed_digits (suc k) n h = go (listed_digits k (n / 10)) (dec_lt n 10)
  where
    go : (n / 10 < 10 ^ suc k → Listed.digits (suc k) (n / 10) ≡ decimal (n / 10)) → Dec (n < 10) → Listed.digits (suc (suc k)) n ≡ decimal n
    go ih (yes l) = rw (lt-ltb n 10 l, Listed.digits) (sym (decimal_one n l))
    go ih (no l) =
        rw (le-ltb n 10 (omega arith), Listed.digits)
        (ap (λ (d : List ℕ). d ++ ((48 + n % 10) ∷ [])) (ih (omega (arith, pow-suc 10 (suc k)))) ∙ sym (decimal_more n (omega arith)))

-- So one number is written alike in the listing and in core text.
pub listed_decimal : (n : ℕ) → n < 10 ^ 20 → Listed.decimal n ≡ decimal n
unfolding Listed.decimal
listed_decimal n h = listed_digits 19 n h
