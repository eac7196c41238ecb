-- A sequence that is passed over at once, and the bytes of one by their offsets.
use Prim.Native.Nat.{ℕ, suc, ◌+◌, ◌≤◌, ◌<◌}
use mathlib.Core.Path.{◌≡◌, refl, sym, ◌∙◌, ap}
use mathlib.Core.Bool.{Bool, true, false, ◌&&◌, and-true, and-false, and-eq-true_iff, cond, true≢false}
use mathlib.Core.List.{List, [], ◌∷◌}
use mathlib.Core.Option.{Option, none, some}
use native.Mathlib.Omega.{arith}
use lib.ListN.{length, get_or, drop, length-drop}
use Rattle.token.proofs.Runs.{drop_next}
use Rattle.utf8.specs.Utf8.{Range, range, in_range, table_3_7, following, valid_from}
use Rattle.utf8.specs.Sequences.{begins, sequence, second}
use Rattle.utf8.proofs.FirstBytes.{line, line_of}
use Rattle.utf8.proofs.ValidFrom.{all_whole}

over : (rs : List Range) (l : List ℕ) (good at : ℕ) → begins rs l ≡ true → valid_from good at rs l ≡ valid_from good (at + length rs) [] (drop (length rs) l)
unfolding begins valid_from
over [] l good at e = ap (λ k. valid_from good k [] l) (let q : at ≡ at + 0 = omega arith in q)
over (r ∷ rs) [] good at e = cc
over (r ∷ rs) (b ∷ l) good at e =
    let t = (and-eq-true_iff (in_range r b) (begins rs l)).0 e in
    rw (t.0, valid_from) (over rs l good (at + 1) t.1 ∙ ap (λ k. valid_from good k [] (drop (length rs) l)) (let q : at + 1 + length rs ≡ at + suc (length rs) = omega arith in q))

broken : (rs : List Range) (l : List ℕ) (good at : ℕ) → begins rs l ≡ false → valid_from good at rs l ≡ good
unfolding begins valid_from
broken [] l good at e = cc
broken (r ∷ rs) [] good at e = refl
broken (r ∷ rs) (b ∷ l) good at e = by (in_range r b) e (broken rs l good (at + 1))
  where
    by : (t : Bool) → (t && begins rs l) ≡ false → (begins rs l ≡ false → valid_from good (at + 1) rs l ≡ good)
        → elim t as (λ _. ℕ) [ true ↦ valid_from good (at + 1) rs l | false ↦ good ] ≡ good
    by true q later = later q
    by false q later = refl

module _ (at n : ℕ) where
  pub whole_sequence : (l : List ℕ) → n ≡ sequence l → (n ≡ 0 → ⊥) → valid_from at at [] l ≡ valid_from (at + n) (at + n) [] (drop n l)
  unfolding sequence valid_from
  whole_sequence [] e h = absurd (h e)
  whole_sequence (b ∷ l) e h = go (following b table_3_7) e
    where
      by : (rs : List Range) (t : Bool) → begins rs l ≡ t → n ≡ cond t (suc (length rs)) 0
          → valid_from at (at + 1) rs l ≡ valid_from (at + n) (at + n) [] (drop n (b ∷ l))
      by rs true q e =
          let k : at + 1 + length rs ≡ at + n = omega arith in
          over rs l at (at + 1) q ∙ rw (k, e) (all_whole at (at + suc (length rs)) (drop (length rs) l))
      by rs false q e = absurd (h e)

      go : (o : Option (List Range)) → n ≡ elim o as (λ _. ℕ) [ none ↦ 0 | some rs ↦ cond (begins rs l) (suc (length rs)) 0 ]
          → elim o as (λ _. ℕ) [ none ↦ at | some rs ↦ valid_from at (at + 1) rs l ] ≡ valid_from (at + n) (at + n) [] (drop n (b ∷ l))
      go none e = absurd (h e)
      go (some rs) e = by rs (begins rs l) refl e

pub no_sequence : (at : ℕ) (l : List ℕ) → ◌≡◌ {A = ℕ} 0 (sequence l) → valid_from at at [] l ≡ at
unfolding sequence valid_from
no_sequence at [] e = refl
no_sequence at (b ∷ l) e = go (following b table_3_7) e
  where
    by : (rs : List Range) (t : Bool) → begins rs l ≡ t → ◌≡◌ {A = ℕ} 0 (cond t (suc (length rs)) 0) → valid_from at (at + 1) rs l ≡ at
    by rs true q e = absurd (omega arith)
    by rs false q e = broken rs l at (at + 1) q

    go : (o : Option (List Range)) → ◌≡◌ {A = ℕ} 0 (elim o as (λ _. ℕ) [ none ↦ 0 | some rs ↦ cond (begins rs l) (suc (length rs)) 0 ])
        → elim o as (λ _. ℕ) [ none ↦ at | some rs ↦ valid_from at (at + 1) rs l ] ≡ at
    go none e = refl
    go (some rs) e = by rs (begins rs l) refl e

begins_short : (rs : List Range) (l : List ℕ) → length l < length rs → begins rs l ≡ false
unfolding begins
begins_short [] l h = absurd (omega arith)
begins_short (r ∷ rs) [] h = refl
begins_short (r ∷ rs) (b ∷ l) h = rw (begins_short rs l (omega arith)) (and-false (in_range r b))

-- A sequence lies within its list.
begins_inside : (rs : List Range) (l : List ℕ) → begins rs l ≡ true → length rs ≤ length l
unfolding begins
begins_inside [] l e = omega arith
begins_inside (r ∷ rs) [] e = absurd (true≢false (sym e))
begins_inside (r ∷ rs) (b ∷ l) e = omega (arith, begins_inside rs l ((and-eq-true_iff (in_range r b) (begins rs l)).0 e).1)

sequence_inside : (l : List ℕ) → sequence l ≤ length l
unfolding sequence
sequence_inside [] = omega arith
sequence_inside (b ∷ l) = go (following b table_3_7)
  where
    by : (rs : List Range) (t : Bool) → begins rs l ≡ t → cond t (suc (length rs)) 0 ≤ suc (length l)
    by rs true e = omega (arith, begins_inside rs l e)
    by rs false e = omega arith

    go : (o : Option (List Range)) → elim o as (λ _. ℕ) [ none ↦ 0 | some rs ↦ cond (begins rs l) (suc (length rs)) 0 ] ≤ suc (length l)
    go none = omega arith
    go (some rs) = by rs (begins rs l) refl

pub sequence_ends : (s : List ℕ) (i n : ℕ) → i < length s → n ≡ sequence (drop i s) → i + n ≤ length s
sequence_ends s i n h e = omega (arith, sequence_inside (drop i s), length-drop i s)

abbrev pub going_on : Range
going_on = range 0x80 0xBF

module _ (s : List ℕ) (at : ℕ) where
  -- The byte at an offset, and what follows it.
  begins_at : (r : Range) (rs : List Range) (i : ℕ) → i < length s → begins (r ∷ rs) (drop i s) ≡ (in_range r (get_or s i 0) && begins rs (drop (i + 1) s))
  unfolding begins
  begins_at r rs i h = rw (drop_next s i h, begins)

  by_line : (rs : List Range) → some rs ≡ line (get_or s at 0) → at < length s → sequence (drop at s) ≡ cond (begins rs (drop (at + 1) s)) (suc (length rs)) 0
  unfolding sequence
  by_line rs e h = rw (drop_next s at h, sequence, ← e)

  pub no_first : none ≡ line (get_or s at 0) → at < length s → ◌≡◌ {A = ℕ} 0 (sequence (drop at s))
  unfolding sequence
  no_first e h = rw (drop_next s at h, sequence, ← e)

  pub cut_off : (rs : List Range) → some rs ≡ line (get_or s at 0) → at < length s → length s < at + suc (length rs) → ◌≡◌ {A = ℕ} 0 (sequence (drop at s))
  cut_off rs e h k =
      let short : length (drop (at + 1) s) < length rs = omega (arith, length-drop (at + 1) s) in
      sym (by_line rs e h ∙ ap (λ t. cond t (suc (length rs)) 0) (begins_short rs (drop (at + 1) s) short))

  module _ (t u v : Bool) where
    pub of_two : some (going_on ∷ []) ≡ line (get_or s at 0) → at + 2 ≤ length s → t ≡ in_range going_on (get_or s (at + 1) 0)
        → ◌≡◌ {A = ℕ} (cond t 2 0) (sequence (drop at s))
    unfolding begins
    of_two e h p = sym (by_line _ e (omega arith) ∙ rw (begins_at _ _ (at + 1) (omega arith), ← p, and-true))

    pub of_three : some (second (get_or s at 0) ∷ going_on ∷ []) ≡ line (get_or s at 0) → at + 3 ≤ length s
        → t ≡ in_range (second (get_or s at 0)) (get_or s (at + 1) 0) → u ≡ in_range going_on (get_or s (at + 2) 0)
        → ◌≡◌ {A = ℕ} (cond (t && u) 3 0) (sequence (drop at s))
    unfolding begins
    of_three e h p q =
        let two : at + 1 + 1 ≡ at + 2 = omega arith in
        sym (by_line _ e (omega arith)
        ∙ rw (begins_at _ (going_on ∷ []) (at + 1) (omega arith), two, begins_at going_on [] (at + 2) (omega arith), ← p, ← q, and-true))

    pub of_four : some (second (get_or s at 0) ∷ going_on ∷ going_on ∷ []) ≡ line (get_or s at 0) → at + 4 ≤ length s
        → t ≡ in_range (second (get_or s at 0)) (get_or s (at + 1) 0) → u ≡ in_range going_on (get_or s (at + 2) 0) → v ≡ in_range going_on (get_or s (at + 3) 0)
        → ◌≡◌ {A = ℕ} (cond (t && (u && v)) 4 0) (sequence (drop at s))
    unfolding begins
    of_four e h p q r =
        let two : at + 1 + 1 ≡ at + 2 = omega arith in
        let three : at + 2 + 1 ≡ at + 3 = omega arith in
        sym (by_line _ e (omega arith)
        ∙ rw (begins_at _ (going_on ∷ going_on ∷ []) (at + 1) (omega arith), two, begins_at going_on (going_on ∷ []) (at + 2) (omega arith), three, begins_at going_on [] (at + 3) (omega arith), ← p, ← q, ← r, and-true))

-- The lines of the table by first bytes.
module _ (b : ℕ) where
  pub line_of_two : 0xC2 ≤ b → b ≤ 0xDF → some (going_on ∷ []) ≡ line b
  unfolding following table_3_7
  line_of_two l h = line_of (λ _. some (going_on ∷ [])) 0xC2 0xDF refl b l h

  pub line_of_three : 0xE0 ≤ b → b ≤ 0xEF → some (second b ∷ going_on ∷ []) ≡ line b
  unfolding following table_3_7 second
  line_of_three l h = line_of (λ c. some (second c ∷ going_on ∷ [])) 0xE0 0xEF refl b l h

  pub line_of_four : 0xF0 ≤ b → b ≤ 0xF4 → some (second b ∷ going_on ∷ going_on ∷ []) ≡ line b
  unfolding following table_3_7 second
  line_of_four l h = line_of (λ c. some (second c ∷ going_on ∷ going_on ∷ [])) 0xF0 0xF4 refl b l h

  pub no_line_low : 0x80 ≤ b → b ≤ 0xC1 → none ≡ line b
  unfolding following table_3_7
  no_line_low l h = line_of (λ _. none) 0x80 0xC1 refl b l h

  pub no_line_high : 0xF5 ≤ b → b ≤ 0xFF → none ≡ line b
  unfolding following table_3_7
  no_line_high l h = line_of (λ _. none) 0xF5 0xFF refl b l h
