-- A comment that is passed over at once: the layout goes on where it ends.
use Prim.Native.Nat.{ℕ, ◌+◌, ◌≤◌, ◌<◌}
use mathlib.Core.Path.{◌≡◌, refl, sym, ◌∙◌, ap}
use mathlib.Core.Bool.{Bool, true, false}
use mathlib.Core.List.{List, [], ◌∷◌}
use native.Mathlib.Omega.{arith}
use lib.Dec.{eqb}
use lib.ListN.{length, get_or, drop, drop_of_length-le, length-drop}
use borrow.Author.Tests.{eq-eqb, ne_eqb, eqb-true}
use Rattle.token.specs.Token.{byte_class, layout_end}
use Rattle.token.specs.Comments.{comment_end}
use Rattle.token.specs.declared.ByteClass.TheVariants.{Layout}
use Rattle.token.proofs.Runs.{drop_next}

-- The loop of `comment_end`.
module _ (s : List ℕ) (i : ℕ) where
  pub comment_stop : i < length s → get_or s i 0 ≡ 10 → comment_end i (drop i s) ≡ i
  unfolding comment_end
  comment_stop h e = rw (drop_next s i h, eq-eqb (get_or s i 0) 10 e, comment_end)

  pub comment_more : i < length s → (get_or s i 0 ≡ 10 → ⊥) → comment_end i (drop i s) ≡ comment_end (i + 1) (drop (i + 1) s)
  unfolding comment_end
  comment_more h n = rw (drop_next s i h, ne_eqb (get_or s i 0) 10 n, comment_end)

  pub comment_over : length s ≤ i → comment_end i (drop i s) ≡ i
  unfolding comment_end
  comment_over h = rw (drop_of_length-le s h)

low_by : (at p : ℕ) (t : Bool) → at ≤ p → at ≤ elim t as (λ _. ℕ) [ true ↦ at | false ↦ p ]
low_by at p true h = omega arith
low_by at p false h = h

comment_low : (l : List ℕ) (at : ℕ) → at ≤ comment_end at l
unfolding comment_end
comment_low [] at = omega arith
comment_low (b ∷ l) at = low_by at _ (eqb b 10) (omega (arith, comment_low l (at + 1)))

pub comment_from : (l : List ℕ) (at r : ℕ) → r ≡ comment_end at l → at ≤ r
comment_from l at r e = rw e (comment_low l at)

ten_class : (b : ℕ) → eqb b 10 ≡ true → byte_class b ≡ Layout
unfolding byte_class
ten_class b q = ap byte_class (eqb-true b 10 q)

-- Byte 10 is layout, in a comment and behind it.
goes_on : (s l : List ℕ) (i : ℕ) → drop i s ≡ l → layout_end true i l ≡ layout_end false (comment_end i l) (drop (comment_end i l) s)
unfolding layout_end comment_end
goes_on s [] i e = sym (ap (layout_end false i) e)
goes_on s (b ∷ l) i e =
    let inside : i < length s = omega (arith, length-drop i s, ap length e) in
    let next = sym (drop_next s i inside) ∙ e in
    let rest : drop (i + 1) s ≡ l = cc in
    by (eqb b 10) refl (goes_on s l (i + 1) rest)
  where
    by : (t : Bool) → eqb b 10 ≡ t → layout_end true (i + 1) l ≡ layout_end false (comment_end (i + 1) l) (drop (comment_end (i + 1) l) s)
        → layout_end true i (b ∷ l) ≡ layout_end false (comment_end i (b ∷ l)) (drop (comment_end i (b ∷ l)) s)
    by true q later = rw (q, layout_end, comment_end, e, ten_class b q)
    by false q later = rw (q, layout_end, comment_end) later

pub layout_goes_on : (s : List ℕ) (i r : ℕ) → r ≡ comment_end i (drop i s) → layout_end true i (drop i s) ≡ layout_end false r (drop r s)
layout_goes_on s i r e = rw e (goes_on s (drop i s) i refl)
