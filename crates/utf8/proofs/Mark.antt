-- The mark is a beginning of three bytes.
use Prim.Native.Nat.{ℕ}
use mathlib.Core.Path.{◌≡◌, refl, sym, ◌∙◌}
use mathlib.Core.Bool.{and-true, and-false}
use mathlib.Core.List.{List, [], ◌∷◌}
use native.Mathlib.Decide.{ℕ_discrete}
use lib.Dec.{eqb}
use borrow.Author.Tests.{eq-eqb, ne_eqb}
use Rattle.std.specs.List.{starts_with}
use Rattle.utf8.specs.Utf8.{byte_order_mark}

-- The mark's bytes stand on the left of each test.
turned : (x y : ℕ) → eqb x y ≡ eqb y x
turned x y = elim (ℕ_discrete x y) [ yes e ↦ eq-eqb x y e ∙ sym (eq-eqb y x (sym e)) | no n ↦ ne_eqb x y n ∙ sym (ne_eqb y x (λ e. n (sym e))) ]

pub mark_is : (s : List ℕ) → starts_with eqb s (0xEF ∷ 0xBB ∷ 0xBF ∷ []) ≡ byte_order_mark s
unfolding byte_order_mark
mark_is [] = refl
mark_is (a ∷ []) = and-false (eqb 0xEF a)
mark_is (a ∷ b ∷ []) = rw (and-false (eqb 0xBB b)) (and-false (eqb 0xEF a))
mark_is (a ∷ b ∷ c ∷ l) = rw (and-true (eqb 0xBF c), turned 0xEF a, turned 0xBB b, turned 0xBF c)
