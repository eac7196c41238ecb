-- The rule of the table of byte classes: a test of the whole table, and the law that turns the test into the rule at each entry.
use Prim.Native.Nat.{ℕ, zero, suc, ◌+◌, ◌<◌}
use mathlib.Core.Path.{◌≡◌}
use mathlib.Core.Bool.{Bool, true, ◌&&◌, and-eq-true_iff}
use mathlib.Core.List.{List, [], ◌∷◌}
use native.Mathlib.Nat.{add-zero, add-suc, suc-add, zero-add, le_of_suc-le-suc, not-suc-le-zero}
use native.Mathlib.Omega.{arith}
use lib.Dec.{eqb}
use lib.ListN.{get_or, length}
use borrow.Author.Tests.{eqb-true}
use Rattle.token.specs.Classes.{class_number, ClassTable}

-- Whether every entry is right, where the first is that of byte k.
unfoldable pub all_right : ℕ → List ℕ → Bool
all_right k [] = true
all_right k (n ∷ l) = eqb n (class_number k) && all_right (suc k) l

right_at : (l : List ℕ) (k : ℕ) → all_right k l ≡ true → (i : ℕ) → i < length l → get_or l i 0 ≡ class_number (k + i)
unfolding all_right
right_at [] k t i h = absurd (not-suc-le-zero h)
right_at (n ∷ l) k t zero h = rw add-zero (eqb-true n (class_number k) ((and-eq-true_iff (eqb n (class_number k)) (all_right (suc k) l)).0 t).0)
right_at (n ∷ l) k t (suc i) h =
    rw (add-suc, ← suc-add) (right_at l (suc k) ((and-eq-true_iff (eqb n (class_number k)) (all_right (suc k) l)).0 t).1 i (le_of_suc-le-suc h))

pub class_table : (t : List ℕ) → length t ≡ 256 → all_right 0 t ≡ true → ClassTable t
class_table t n r = record { size = n; entry = λ b h. rw zero-add at (right_at t 0 r b (omega (arith, n))) }
