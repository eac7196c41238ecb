-- The digits of a number, one place after the other.
use Prim.Native.Nat.{ℕ, zero, suc, ◌+◌, ◌-◌, ◌/◌, ◌%◌, ◌≤◌, ◌<◌}
use mathlib.Core.Path.{◌≡◌, refl}
use mathlib.Core.List.{[], ◌∷◌, ◌++◌}
use native.Mathlib.Numerals.{sub-one}
use borrow.Author.Tests.{lt-ltb, le-ltb}
use Rattle.text.specs.Text.{digits}

pub digits_none : (places n : ℕ) → places ≡ 0 → digits places n ≡ []
unfolding digits
digits_none places n e = rw e refl

pub digits_one : (places n : ℕ) → (places ≡ 0 → ⊥) → n < 10 → digits places n ≡ (48 + n) ∷ []
unfolding digits
digits_one zero n f h = absurd (f refl)
digits_one (suc places) n f h = rw (lt-ltb n 10 h, digits) refl

pub digits_more : (places n : ℕ) → (places ≡ 0 → ⊥) → 10 ≤ n
    → digits places n ≡ digits (places - 1) (n / 10) ++ (48 + n % 10) ∷ []
unfolding digits
digits_more zero n f h = absurd (f refl)
digits_more (suc places) n f h = rw (sub-one, le-ltb n 10 h, digits) refl
