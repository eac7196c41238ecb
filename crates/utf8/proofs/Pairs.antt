-- What the loop of `skip_pairs` knows: the sequences that it passed have two bytes each.
use Prim.Native.Nat.{ℕ, ◌+◌, ◌≤◌, ◌<◌}
use mathlib.Core.Path.{◌≡◌, refl, sym, ◌∙◌, ap}
use mathlib.Core.Bool.{Bool, true, false, true≢false, and-eq-true_iff}
use mathlib.Core.List.{List, [], ◌++◌}
use native.Mathlib.Omega.{arith}
use lib.Dec.{leb}
use lib.ListN.{length, get_or, drop}
use lib.Seq.{drop-drop}
use borrow.Author.Tests.{leb-true, leb-false, le-leb}
use Rattle.token.specs.Token.{within}
use Rattle.utf8.specs.Utf8.{in_range, valid_from}
use Rattle.utf8.specs.Sequences.{sequence, Pairs}
use Rattle.token.proofs.Chunks.{chunk_fits, chunk_byte, chunk_first}
use Rattle.utf8.proofs.Sequences.{going_on, whole_sequence, no_first, cut_off, of_two, line_of_two, no_line_low}

pub record Rest (s : List ℕ) (at i : ℕ) : Type 0 where
  pub low : at ≤ i
  pub high : i ≤ length s
  pub same : valid_from at at [] (drop at s) ≡ valid_from i i [] (drop i s)

-- A byte that is within a range, or not.
is_within : (low high b : ℕ) → within low high b ≡ true → (low ≤ b) × (b ≤ high)
is_within low high b e = let t = (and-eq-true_iff (leb low b) (leb b high)).0 e in (leb-true low b t.0, leb-true b high t.1)

below_first : (b : ℕ) → within 0xC2 0xDF b ≡ false → b < 0xE0 → b < 0xC2
below_first b e h = by (leb 0xC2 b) refl
  where
    by : (t : Bool) → leb 0xC2 b ≡ t → b < 0xC2
    by false q = leb-false 0xC2 b q
    by true q = absurd (true≢false (sym (rw (q, le-leb b 0xDF (omega arith)) refl) ∙ e))

abbrev Stops : List ℕ → ℕ → Type 0
Stops s i = i < length s → 0x80 ≤ get_or s i 0 → get_or s i 0 < 0xE0 → ◌≡◌ {A = ℕ} 0 (sequence (drop i s))

module _ (s : List ℕ) (at : ℕ) where
  module _ (i : ℕ) (p : Rest s at i) where
    -- A sequence of two bytes, taken off what is left.
    pub rest_more : (x r : List ℕ) → drop i s ≡ x ++ r → length x ≡ 2 → true ≡ within 0xC2 0xDF (get_or x 0 0)
        → true ≡ in_range going_on (get_or x 1 0) → Rest s at (i + 2)
    rest_more x r f l t u =
        let b : get_or x 0 0 ≡ get_or s i 0 = chunk_first s x r i 2 f l (omega arith) in
        let first = is_within 0xC2 0xDF (get_or s i 0) (sym (rw b at t)) in
        let two = of_two s i true true true (line_of_two (get_or s i 0) first.0 first.1) (chunk_fits s x r i 2 f l p.high) (rw (sym (chunk_byte s x r i 2 f l 1 (omega arith))) u) in
        record {
          low = omega (arith, p.low);
          high = chunk_fits s x r i 2 f l p.high;
          same = p.same ∙ whole_sequence i 2 (drop i s) two (λ z. omega arith) ∙ ap (valid_from (i + 2) (i + 2) []) (drop-drop 2 i s);
        }

    pub stops : Stops s i → Pairs s at i
    stops f = record { low = p.low; high = p.high; same = p.same; stop = f }

-- No sequence of two bytes stands in front of what is left.
module _ (s : List ℕ) (i : ℕ) (x r : List ℕ) (f : drop i s ≡ x ++ r) (e : length x ≡ 2) where
  pub not_first : false ≡ within 0xC2 0xDF (get_or x 0 0) → Stops s i
  not_first t h l g =
      let b : get_or x 0 0 ≡ get_or s i 0 = chunk_first s x r i 2 f e (omega arith) in
      no_first s i (no_line_low (get_or s i 0) l (omega (arith, below_first (get_or s i 0) (sym (rw b at t)) g))) h

  pub not_second : i ≤ length s → true ≡ within 0xC2 0xDF (get_or x 0 0) → false ≡ in_range going_on (get_or x 1 0) → Stops s i
  not_second m t u h l g =
      let b : get_or x 0 0 ≡ get_or s i 0 = chunk_first s x r i 2 f e (omega arith) in
      let first = is_within 0xC2 0xDF (get_or s i 0) (sym (rw b at t)) in
      of_two s i false true true (line_of_two (get_or s i 0) first.0 first.1) (chunk_fits s x r i 2 f e m) (rw (sym (chunk_byte s x r i 2 f e 1 (omega arith))) u)

module _ (s : List ℕ) (i : ℕ) where
  pub no_room : length s < i + 2 → Stops s i
  no_room k h l g = by (leb 0xC2 (get_or s i 0)) refl
    where
      by : (t : Bool) → leb 0xC2 (get_or s i 0) ≡ t → ◌≡◌ {A = ℕ} 0 (sequence (drop i s))
      by true q = cut_off s i _ (line_of_two (get_or s i 0) (leb-true 0xC2 (get_or s i 0) q) (omega arith)) h (omega arith)
      by false q = no_first s i (no_line_low (get_or s i 0) l (omega (arith, leb-false 0xC2 (get_or s i 0) q))) h
