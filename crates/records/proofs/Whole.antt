-- A record that the table has whole, and one that it has not; lists that a table has room for, and longer ones.
use mathlib.Core.Path.{◌≡◌, refl, sym, ap}
use Prim.Native.Nat.{ℕ, ◌*◌, ◌/◌, ◌≤◌, ◌<◌}
use mathlib.Core.List.{List}
use mathlib.Core.Bool.{Bool, true, false, cond}
use native.Mathlib.Omega.{arith}
use lib.Dec.{ltb}
use lib.ListN.{length}
use borrow.Author.Tests.{ltb-true, lt-ltb, le-ltb}
use Rattle.records.specs.Records.{blank, five_words, record_at, word_limit}

pub at_whole : (t : List ℕ) (k : ℕ) → k < length t / 5 → five_words t (k * 5) ≡ record_at t k
unfolding record_at
at_whole t k h = sym (ap (λ b. cond b (five_words t (k * 5)) blank) (lt-ltb k (length t / 5) h))

pub at_behind : (t : List ℕ) (k : ℕ) → length t / 5 ≤ k → blank ≡ record_at t k
unfolding record_at
at_behind t k h = sym (ap (λ b. cond b (five_words t (k * 5)) blank) (le-ltb k (length t / 5) h))

pub limit_below : (count words : ℕ) → count < words / 5 → count * 5 ≡ word_limit count words
unfolding word_limit
limit_below count words h = sym (ap (λ b. cond b (count * 5) words) (lt-ltb count (words / 5) h))

pub limit_above : (count words : ℕ) → words / 5 ≤ count → words ≡ word_limit count words
unfolding word_limit
limit_above count words h = sym (ap (λ b. cond b (count * 5) words) (le-ltb count (words / 5) h))

pub limit_within : (count words : ℕ) → word_limit count words ≤ words
unfolding word_limit
limit_within count words = by_test (ltb count (words / 5)) refl
  where
    by_test : (b : Bool) → ltb count (words / 5) ≡ b → cond b (count * 5) words ≤ words
    by_test true e = omega (arith, ltb-true count (words / 5) e)
    by_test false e = omega arith
