-- The records of a table's front are the records of the table; and a list that is longer than any source needs has blanks behind.
use mathlib.Core.Path.{◌≡◌, refl, sym, ap, ◌∙◌}
use mathlib.Core.List.{List, [], ◌∷◌}
use mathlib.Core.Bool.{Bool, true, false}
use Prim.Native.Nat.{ℕ, zero, suc, ◌+◌, ◌*◌, ◌/◌, ◌≤◌, ◌<◌}
use native.Mathlib.Omega.{arith}
use lib.Dec.{ltb}
use lib.ListN.{length, get_or, take, get_or-eq_default}
use lib.Seq.{get_or-take, length-take-le, take-length}
use borrow.Author.Tests.{ltb-true, ltb-false}
use Rattle.terms.specs.Rows.{pad}
use Rattle.terms.proofs.Tables.{length_pad, getD_pad}
use Rattle.records.specs.Records.{blank, five_words, record_at, records_from, records_of, word_limit}
use Rattle.records.proofs.Whole.{at_whole, at_behind, limit_below, limit_above}
use Rattle.record_loader.specs.Recorded.{front}

-- Tables whose first records are equal.
same_from : (t u : List ℕ) (k n : ℕ) → ((i : ℕ) → i < k + n → record_at t i ≡ record_at u i) → records_from t k n ≡ records_from u k n
unfolding records_from
same_from t u k zero h = refl
same_from t u k (suc n) h = λ i. h k (omega arith) i ∷ same_from t u (suc k) n (λ j l. h j (omega arith)) i

pub five_same : (t u : List ℕ) (at : ℕ) → ((i : ℕ) → at ≤ i → i < at + 5 → get_or t i 0 ≡ get_or u i 0) → five_words t at ≡ five_words u at
five_same t u at h = λ i. record {
  kind = h at (omega arith) (omega arith) i;
  name_start = h (at + 1) (omega arith) (omega arith) i;
  name_length = h (at + 2) (omega arith) (omega arith) i;
  type_row = h (at + 3) (omega arith) (omega arith) i;
  body_row = h (at + 4) (omega arith) (omega arith) i;
}

-- Record k, which both tables have whole.
both_whole : (t u : List ℕ) (k : ℕ) → k < length t / 5 → k < length u / 5 → ((i : ℕ) → i < k * 5 + 5 → get_or t i 0 ≡ get_or u i 0) → record_at t k ≡ record_at u k
both_whole t u k a b h = sym (at_whole t k a) ∙ five_same t u (k * 5) (λ i _ l. h i l) ∙ at_whole u k b

-- The records of a table are those of its front, as far as the list goes.
pub front_records : (words words₁ : List ℕ) (n : ℕ) → length words₁ ≡ length words → records_of words₁ n ≡ records_of (front n words words₁) n
front_records words words₁ n e = by_test (ltb n (length words / 5)) refl
  where
    by_test : (b : Bool) → ltb n (length words / 5) ≡ b → records_of words₁ n ≡ records_of (front n words words₁) n
    by_test true f =
        let l : n < length words / 5 = ltb-true n (length words / 5) f in
        let m : n * 5 ≤ length words₁ = omega (arith, l, e) in
        same_from words₁ (take (n * 5) words₁) 0 n (λ k h.
        both_whole words₁ (take (n * 5) words₁) k (omega (arith, l, e)) (omega (arith, h, length-take-le (n * 5) words₁ m)) (λ i j. sym (get_or-take (n * 5) words₁ i 0 (omega arith))))
        ∙ ap (λ (x : ℕ). records_of (take x words₁) n) (limit_below n (length words) l)
    by_test false f =
        ap (λ (t : List ℕ). records_of t n) (sym (take-length words₁))
        ∙ ap (λ (x : ℕ). records_of (take x words₁) n) (e ∙ limit_above n (length words) (ltb-false n (length words / 5) f))

-- Words that fit 13,107 records, in the table of a longer list.
module _ (l : List ℕ) (fits : length l ≤ 65535) (n : ℕ) (long : 13107 ≤ n) where
  past : (i : ℕ) → 65535 ≤ i → i < n * 5 → get_or (pad (n * 5) l) i 0 ≡ 0
  past i a b = getD_pad (n * 5) l i b ∙ get_or-eq_default l 0 (omega arith)

  blank_past : (k : ℕ) → 13107 ≤ k → k < n → five_words (pad (n * 5) l) (k * 5) ≡ blank
  blank_past k a b = λ i. record {
    kind = past (k * 5) (omega arith) (omega arith) i;
    name_start = past (k * 5 + 1) (omega arith) (omega arith) i;
    name_length = past (k * 5 + 2) (omega arith) (omega arith) i;
    type_row = past (k * 5 + 3) (omega arith) (omega arith) i;
    body_row = past (k * 5 + 4) (omega arith) (omega arith) i;
  }

  same_record : (k : ℕ) → k < n → (b : Bool) → ltb k 13107 ≡ b → record_at (pad 65535 l) k ≡ record_at (pad (n * 5) l) k
  same_record k h true e =
      let i : k < 13107 = ltb-true k 13107 e in
      both_whole (pad 65535 l) (pad (n * 5) l) k (omega (arith, i, length_pad 65535 l)) (omega (arith, h, length_pad (n * 5) l))
      (λ j m. getD_pad 65535 l j (omega arith) ∙ sym (getD_pad (n * 5) l j (omega arith)))
  same_record k h false e =
      let i : 13107 ≤ k = ltb-false k 13107 e in
      sym (at_behind (pad 65535 l) k (omega (arith, i, length_pad 65535 l))) ∙ sym (blank_past k i h) ∙ at_whole (pad (n * 5) l) k (omega (arith, h, length_pad (n * 5) l))

  pub padded_records : records_of (pad 65535 l) n ≡ records_of (pad (n * 5) l) n
  padded_records = same_from (pad 65535 l) (pad (n * 5) l) 0 n (λ k h. same_record k (omega arith) (ltb k 13107) refl)

-- In as many words as fit, and in five for each record.
pub fit_records : (l : List ℕ) → length l ≤ 65535 → (n : ℕ) → records_of (pad (word_limit n 65535) l) n ≡ records_of (pad (n * 5) l) n
fit_records l fits n = by_test (ltb n 13107) refl
  where
    by_test : (b : Bool) → ltb n 13107 ≡ b → records_of (pad (word_limit n 65535) l) n ≡ records_of (pad (n * 5) l) n
    by_test true e = ap (λ (d : ℕ). records_of (pad d l) n) (sym (limit_below n 65535 (ltb-true n 13107 e)))
    by_test false e = let h : 13107 ≤ n = ltb-false n 13107 e in ap (λ (d : ℕ). records_of (pad d l) n) (sym (limit_above n 65535 h)) ∙ padded_records l fits n h
