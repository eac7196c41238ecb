-- Runs of ASCII bytes: one more byte, and a block at once.
use Prim.Native.Nat.{ℕ, suc, max, ◌+◌, ◌≤◌, ◌<◌}
use mathlib.Core.Path.{◌≡◌, refl, sym, ◌∙◌, ap}
use mathlib.Core.Bool.{Bool, true, false, ◌&&◌, and-true, and_assoc, and-eq-true_iff}
use mathlib.Core.List.{List, [], ◌∷◌, ◌++◌}
use native.Mathlib.Omega.{arith}
use native.Mathlib.Numerals.{add-one}
use lib.Dec.{ltb}
use lib.ListN.{length, get_or, take, drop, drop_of_length-le, length-drop}
use lib.Seq.{take-suc, get_or-drop}
use borrow.Author.Tests.{lt-ltb, le-ltb}
use Rattle.std.specs.List.{fold}
use Rattle.std.proofs.lemmas.Bool.Decides.{nat_tests}
use Rattle.token.proofs.Runs.{drop_next}
use Rattle.token.proofs.Chunks.{chunk_left, chunk_fits}
use Rattle.utf8.specs.Ascii.{ascii, ascii_end, SameEnd}

-- The greater of two bytes is ASCII exactly if both are.
greater : (g b : ℕ) → ltb (max g b) 0x80 ≡ (ltb g 0x80 && ltb b 0x80)
greater g b = grind (arith, nat_tests)

-- The greatest byte of a list, and one before it, is ASCII exactly if all are.
pub greatest : (g : ℕ) (l : List ℕ) → ltb (fold max g l) 0x80 ≡ (ltb g 0x80 && ascii l)
unfolding ascii
greatest g [] = sym (and-true (ltb g 0x80))
greatest g (b ∷ l) = greatest (max g b) l ∙ ap (λ t. t && ascii l) (greater g b) ∙ and_assoc (ltb g 0x80) (ltb b 0x80) (ascii l)

ascii_snoc : (l : List ℕ) (b : ℕ) → ascii (l ++ (b ∷ [])) ≡ (ascii l && ltb b 0x80)
unfolding ascii
ascii_snoc [] b = and-true (ltb b 0x80)
ascii_snoc (x ∷ l) b = ap (λ t. ltb x 0x80 && t) (ascii_snoc l b) ∙ sym (and_assoc (ltb x 0x80) (ascii l) (ltb b 0x80))

-- One more byte of a block.
pub block_more : (s : List ℕ) (at i : ℕ) (t : Bool) → at + i < length s → ascii (take i (drop at s)) ≡ t
    → ascii (take (i + 1) (drop at s)) ≡ (t && ltb (get_or s (at + i) 0) 0x80)
block_more s at i t h e =
    let k : i < length (drop at s) = omega (arith, length-drop at s) in
    rw (add-one, take-suc (drop at s) i 0 k, ascii_snoc, get_or-drop, e)

-- A list whose beginning is ASCII: the run goes on behind it.
over : (x r : List ℕ) (at : ℕ) → ascii x ≡ true → ascii_end at (x ++ r) ≡ ascii_end (at + length x) r
unfolding ascii ascii_end
over [] r at e = ap (λ k. ascii_end k r) (let q : at ≡ at + 0 = omega arith in q)
over (b ∷ x) r at e =
    let t = (and-eq-true_iff (ltb b 0x80) (ascii x)).0 e in
    rw (t.0, ascii_end) (over x r (at + 1) t.1 ∙ ap (λ k. ascii_end k r) (let q : at + 1 + length x ≡ at + suc (length x) = omega arith in q))

module _ (s : List ℕ) (at : ℕ) where
  pub same_none : at ≤ length s → SameEnd s at at
  same_none h = record { low = omega arith; high = h; same = refl }

  module _ (i : ℕ) (e : SameEnd s at i) where
    -- A block that is ASCII, taken off what is left.
    pub same_block : (n : ℕ) (x r : List ℕ) → drop i s ≡ x ++ r → length x ≡ n → ascii x ≡ true → SameEnd s at (i + n)
    same_block n x r f l a =
        record {
          low = omega (arith, e.low);
          high = chunk_fits s x r i n f l e.high;
          same = e.same ∙ ap (ascii_end i) f ∙ over x r i a ∙ rw l (ap (ascii_end (i + n)) (chunk_left s x r i n f l));
        }

    -- A byte that is ASCII.
    pub same_byte : i < length s → get_or s i 0 < 0x80 → SameEnd s at (i + 1)
    unfolding ascii_end
    same_byte h b =
        record { low = omega arith; high = omega arith; same = e.same ∙ rw (drop_next s i h, lt-ltb (get_or s i 0) 0x80 b, ascii_end) }

    -- Another byte, or the end, ends the run.
    pub ends_byte : i < length s → 0x80 ≤ get_or s i 0 → i ≡ ascii_end at (drop at s)
    unfolding ascii_end
    ends_byte h b = sym (e.same ∙ rw (drop_next s i h, le-ltb (get_or s i 0) 0x80 b, ascii_end))

    pub ends_all : length s ≤ i → length s ≡ ascii_end at (drop at s)
    unfolding ascii_end
    ends_all h = sym (e.same ∙ rw (drop_of_length-le s h) (let q : i ≡ length s = omega (arith, e.high) in q))

-- A run does not end before it starts.
not_by : (at p : ℕ) (t : Bool) → at ≤ p → at ≤ elim t as (λ _. ℕ) [ true ↦ p | false ↦ at ]
not_by at p true h = h
not_by at p false h = omega arith

not_before : (l : List ℕ) (at : ℕ) → at ≤ ascii_end at l
unfolding ascii_end
not_before [] at = omega arith
not_before (b ∷ l) at = not_by at _ (ltb b 0x80) (omega (arith, not_before l (at + 1)))

pub run_low : (l : List ℕ) (at r : ℕ) → r ≡ ascii_end at l → at ≤ r
run_low l at r e = rw e (not_before l at)
