-- A table whose words are cleared from a word on: at once, and one after the other.
use Prim.Native.Nat.{ℕ, suc, ◌+◌, ◌-◌, ◌≤◌, ◌<◌, min}
use mathlib.Core.Path.{◌≡◌, refl, sym, ap, ap₂, ◌∙◌}
use mathlib.Core.List.{List, ◌++◌, append-nil}
use native.Mathlib.Omega.{arith}
use lib.ListN.{length, take, drop, set, replicate, length-drop, length-replicate, get_or-replicate, drop_of_length-le}
use lib.Seq.{paste, paste-zero, paste-suc, take_all, length-take-le}
use borrow.Rule.Slice.PartMut.{put_mid}
use Rattle.std.proofs.lemmas.List.{take_min}
use Rattle.std.proofs.lemmas.Slice.{put_mid-paste}
use Rattle.tables.specs.Tables.{cleared}

module _ (t : List ℕ) (from k : ℕ) (z : List ℕ) (e : k ≡ min from (length t)) (f : z ≡ replicate (length (take (length t - k) (drop k t))) 0) where
  zeros : z ≡ replicate (length t - from) 0
  zeros = f ∙ ap (λ n. replicate n 0) (length-take-le (length t - k) (drop k t) (omega (arith, length-drop k t)) ∙ (let q : length t - k ≡ length t - from = omega arith in q))

  pub clear_part : put_mid k (length t - k) t z ≡ cleared t from
  unfolding cleared
  clear_part =
      let n : length z ≡ length t - k = ap length zeros ∙ length-replicate (length t - from) (let x : ℕ = 0 in x) ∙ (let q : length t - from ≡ length t - k = omega arith in q) in
      put_mid-paste k (length t - k) t z z (length t - k) refl refl (sym n)
      ∙ ap₂ (λ (a b : List ℕ). take k t ++ a ++ b) (take_all (length t - k) z (omega arith)) (drop_of_length-le t {i = k + (length t - k)} (omega arith))
      ∙ append-nil (take k t ++ z)
      ∙ ap₂ (λ (a b : List ℕ). a ++ b) (ap (λ n. take n t) e ∙ take_min from t) zeros

abbrev zeroes : List ℕ → ℕ → List ℕ
zeroes t from = replicate (length t - from) 0

-- The words from `from` up to i are 0.
abbrev pub Cleared : List ℕ → ℕ → List ℕ → ℕ → Type 0
Cleared t₀ from t i = (from ≤ i) × (t ≡ paste t₀ from (zeroes t₀ from) (i - from))

pub clear_none : (t : List ℕ) (from : ℕ) → Cleared t from t from
clear_none t from = (omega arith, paste-zero t from (zeroes t from) ∙ ap (paste t from (zeroes t from)) (let q : 0 ≡ from - from = omega arith in q))

module _ (t₀ : List ℕ) (from : ℕ) where
  pub clear_more : (t : List ℕ) (i : ℕ) → i < length t₀ → Cleared t₀ from t i → Cleared t₀ from (set t i 0) (i + 1)
  clear_more t i h c =
      let j = i - from in
      let z = zeroes t₀ from in
      let k : from + j ≡ i = omega (arith, c.0) in
      let n = length-replicate (length t₀ - from) (let x : ℕ = 0 in x) in (
        omega (arith, c.0),
        ap (λ (l : List ℕ). set l i 0) c.1
            ∙ ap₂ (λ (m x : ℕ). set (paste t₀ from z j) m x) (sym k) (sym (get_or-replicate (length t₀ - from) j 0 0 (omega (arith, c.0))))
            ∙ paste-suc t₀ from z j 0 (omega arith) (omega (arith, n, c.0))
            ∙ ap (paste t₀ from z) (let q : suc j ≡ i + 1 - from = omega (arith, c.0) in q),
      )

  pub clear_all : (t : List ℕ) (i : ℕ) → length t₀ ≤ i → Cleared t₀ from t i → t ≡ cleared t₀ from
  unfolding cleared
  clear_all t i h c =
      let j = i - from in
      let z = zeroes t₀ from in
      let n = length-replicate (length t₀ - from) (let x : ℕ = 0 in x) in
      c.1
      ∙ ap₂ (λ (a b : List ℕ). take from t₀ ++ a ++ b) (take_all j z (omega (arith, n, c.0))) (drop_of_length-le t₀ {i = from + j} (omega (arith, c.0)))
      ∙ append-nil (take from t₀ ++ z)
