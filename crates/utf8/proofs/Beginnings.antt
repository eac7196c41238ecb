-- A beginning of well-formed UTF-8 that ends with an ASCII byte is well-formed; a beginning has no mark if the whole has none.
use mathlib.Core.Path.{◌≡◌, refl, ap, subst}
use mathlib.Core.List.{List, [], ◌∷◌}
use mathlib.Core.Option.{Option, some}
use mathlib.Core.Bool.{Bool, true, false, ◌&&◌, and-eq-true_iff}
use Prim.Native.Nat.{ℕ, zero, suc, ◌≤◌, ◌<◌}
use native.Mathlib.Omega.{arith}
use lib.Dec.{leb}
use lib.ListN.{length, take, get_or}
use borrow.Author.Tests.{leb-true, le-leb}
use Rattle.utf8.specs.Utf8.{Range, range, in_range, Line, line, table_3_7, following, Whole, byte_order_mark}

-- The bytes that follow are 128 or more.
abbrev high : List Range → Bool
high [] = true
high (r ∷ l) = leb 128 r.low && high l

abbrev all_high : List Line → Bool
all_high [] = true
all_high (x ∷ l) = high x.others && all_high l

table_high : all_high table_3_7 ≡ true
unfolding table_3_7
table_high = refl

following_high : (b : ℕ) (l : List Line) (rs : List Range) → all_high l ≡ true → following b l ≡ some rs → high rs ≡ true
unfolding following
following_high b [] rs h e = absurd (let z : ◌≡◌ {A = ℕ} 0 1 = cc in omega arith)
following_high b (x ∷ l) rs h e = go (in_range x.first b) (following_high b l rs ((and-eq-true_iff (high x.others) (all_high l)).0 h).1) e
  where
    go : (t : Bool) → (following b l ≡ some rs → high rs ≡ true) → elim t as (λ _. Option (List Range)) [ true ↦ some x.others | false ↦ following b l ] ≡ some rs → high rs ≡ true
    go true ih f = subst (λ (y : List Range). high y ≡ true) (let i : x.others ≡ rs = cc in i) ((and-eq-true_iff (high x.others) (all_high l)).0 h).0
    go false ih f = ih f

-- An ASCII byte is a whole sequence.
first_follows : (b : ℕ) (x : Line) (l : List Line) → in_range x.first b ≡ true → following b (x ∷ l) ≡ some x.others
unfolding following
first_follows b x l e = ap (λ (t : Bool). elim t as (λ _. Option (List Range)) [ true ↦ some x.others | false ↦ following b l ]) e

ascii_whole : (b : ℕ) → b < 128 → following b table_3_7 ≡ some []
unfolding table_3_7
ascii_whole b h = first_follows b (line (range 0x00 0x7F) []) _ ((and-eq-true_iff (leb 0 b) (leb b 127)).1 (le-leb 0 b (omega arith), le-leb b 127 (omega arith)))

-- It does not go on with a sequence.
no_ascii : (r : Range) (b : ℕ) → 128 ≤ r.low → b < 128 → in_range r b ≡ true → ⊥
no_ascii r b h k e = omega (arith, leb-true r.low b ((and-eq-true_iff (leb r.low b) (leb b r.high)).0 e).0)

pub whole_beginning : (l : List ℕ) (rs : List Range) (n : ℕ) → high rs ≡ true → n < length l → get_or l n 0 < 128 → Whole rs l → Whole rs (take (suc n) l)
whole_beginning [] rs n h k a w = absurd (omega arith)
whole_beginning (b ∷ l) [] zero h k a w = ([], ascii_whole b a, tt)
whole_beginning (b ∷ l) (r ∷ rs) zero h k a w = absurd (no_ascii r b (leb-true 128 r.low ((and-eq-true_iff (leb 128 r.low) (high rs)).0 h).0) a w.0)
whole_beginning (b ∷ l) [] (suc n) h k a w = (w.0, w.1, whole_beginning l w.0 n (following_high b table_3_7 w.0 table_high w.1) (omega arith) a w.2)
whole_beginning (b ∷ l) (r ∷ rs) (suc n) h k a w = (w.0, whole_beginning l rs n ((and-eq-true_iff (leb 128 r.low) (high rs)).0 h).1 (omega arith) a w.1)

pub unmarked_beginning : (l : List ℕ) (n : ℕ) → byte_order_mark l ≡ false → byte_order_mark (take n l) ≡ false
unfolding byte_order_mark
unmarked_beginning l zero e = refl
unmarked_beginning [] (suc n) e = refl
unmarked_beginning (a ∷ l) (suc zero) e = refl
unmarked_beginning (a ∷ []) (suc (suc n)) e = refl
unmarked_beginning (a ∷ b ∷ l) (suc (suc zero)) e = refl
unmarked_beginning (a ∷ b ∷ []) (suc (suc (suc n))) e = refl
unmarked_beginning (a ∷ b ∷ c ∷ l) (suc (suc (suc n))) e = e
