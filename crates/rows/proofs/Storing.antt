-- Words stored at a place of a table, for any width.
use Prim.Native.Nat.{ℕ, ◌+◌, ◌*◌, ◌/◌, ◌≤◌, ◌<◌}
use mathlib.Core.Path.{◌≡◌, sym, ap, ◌∙◌}
use mathlib.Core.Bool.{Bool, true, cond}
use mathlib.Core.List.{List, ◌++◌}
use native.Mathlib.Decide.{dec_lt}
use native.Mathlib.Numerals.{add-one}
use native.Mathlib.Omega.{arith}
use native.Mathlib.Nat.{le-div_iff_mul-le, suc-mul}
use lib.ListN.{length, take, drop}
use borrow.Author.Tests.{lt-ltb, le-ltb}
use Rattle.tables.specs.Tables.{with_words}
use Rattle.tables.proofs.Stored as tables
use Rattle.rows.specs.Places.{has_place, stored_at}

module _ (width : ℕ) (t : List ℕ) (k : ℕ) (ws : List ℕ) where
  pub stored_nowhere : length t / width ≤ k → stored_at width t k ws ≡ t
  unfolding stored_at
  stored_nowhere h = ap (λ (b : Bool). cond b (with_words t (k * width) ws) t) (le-ltb k (length t / width) h)

  module _ (n : length ws ≡ width) (pos : 0 < width) (h : k < length t / width) where
    pub place_fits : k * width + length ws ≤ length t
    place_fits = omega (arith, (le-div_iff_mul-le pos).0 h, suc-mul k width)

    pub stored_at_place : stored_at width t k ws ≡ with_words t (k * width) ws
    unfolding stored_at
    stored_at_place = ap (λ (b : Bool). cond b (with_words t (k * width) ws) t) (lt-ltb k (length t / width) h)

    -- What is answered and left where there is a place.
    pub stored_there : (true ≡ has_place width t k) × (with_words t (k * width) ws ≡ stored_at width t k ws)
    stored_there = (sym (lt-ltb k (length t / width) h), sym stored_at_place)

    next_place : k * width + length ws ≡ (k + 1) * width
    next_place = simp (add-one, suc-mul, n)

    -- The words that stand in front of the next place.
    pub take_next : take ((k + 1) * width) (stored_at width t k ws) ≡ take (k * width) t ++ ws
    take_next = rw (← next_place, stored_at_place) (tables.take_stored t (k * width) ws place_fits)

    pub drop_next : drop ((k + 1) * width) (stored_at width t k ws) ≡ drop ((k + 1) * width) t
    drop_next = rw (← next_place, stored_at_place) (tables.drop_stored t (k * width) ws place_fits)

  pub length_stored_at : length ws ≡ width → 0 < width → length (stored_at width t k ws) ≡ length t
  length_stored_at n pos = elim (dec_lt k (length t / width)) [
    | yes h ↦ ap length (stored_at_place n pos h) ∙ tables.length_stored t (k * width) ws (place_fits n pos h)
    | no h ↦ ap length (stored_nowhere (omega arith))
  ]
