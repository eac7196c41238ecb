-- The words of a row: the arguments that are there, and 0 for the others.
use Prim.Native.Nat.{ℕ, zero, suc, ◌≤◌}
use native.Mathlib.Omega.{arith}
use mathlib.Core.Path.{◌≡◌, refl, sym, ap, ap₂, ◌∙◌}
use mathlib.Core.List.{List, [], ◌∷◌}
use lib.ListN.{length, get_or, take}
use lib.Seq.{take_all}
use Rattle.terms.specs.Rows.{pad}

-- n words of a list from word i on, each 0 where there is none.
abbrev pub words_from : ℕ → ℕ → List ℕ → List ℕ
words_from i zero l = []
words_from i (suc n) l = get_or l i 0 ∷ words_from (suc i) n l

words_behind : (x i n : ℕ) (l : List ℕ) → words_from (suc i) n (x ∷ l) ≡ words_from i n l
words_behind x i zero l = refl
words_behind x i (suc n) l = ap (λ (w : List ℕ). get_or l i 0 ∷ w) (words_behind x (suc i) n l)

words_of_none : (i n : ℕ) → words_from i n [] ≡ pad n []
words_of_none i zero = refl
words_of_none i (suc n) = ap (λ (w : List ℕ). 0 ∷ w) (words_of_none (suc i) n)

pub pad_words : (n : ℕ) (l : List ℕ) → pad n l ≡ words_from 0 n l
pad_words zero l = refl
pad_words (suc n) [] = sym (words_of_none 0 (suc n))
pad_words (suc n) (x ∷ l) = ap (λ (w : List ℕ). x ∷ w) (pad_words n l ∙ sym (words_behind x 0 n l))

-- A list of six words by its words.
abbrev pub six_of : List ℕ → List ℕ
six_of l = get_or l 0 0 ∷ get_or l 1 0 ∷ get_or l 2 0 ∷ get_or l 3 0 ∷ get_or l 4 0 ∷ get_or l 5 0 ∷ []

pub six : (l : List ℕ) → length l ≡ 6 → l ≡ six_of l
six (a ∷ b ∷ c ∷ d ∷ e ∷ f ∷ []) h = refl
six [] h = absurd (omega arith)
six (a ∷ []) h = absurd (omega arith)
six (a ∷ b ∷ []) h = absurd (omega arith)
six (a ∷ b ∷ c ∷ []) h = absurd (omega arith)
six (a ∷ b ∷ c ∷ d ∷ []) h = absurd (omega arith)
six (a ∷ b ∷ c ∷ d ∷ e ∷ []) h = absurd (omega arith)
six (a ∷ b ∷ c ∷ d ∷ e ∷ f ∷ g ∷ l) h = absurd (omega arith)

-- The first n of six words, and 0 for the others.
module _ (l : List ℕ) (h : length l ≡ 6) (n : ℕ) where
  pub first_words : (k : ℕ) → n ≡ k → pad 6 (take k (six_of l)) ≡ pad 6 (take n l)
  first_words k e = sym (ap₂ (λ (m : ℕ) (x : List ℕ). pad 6 (take m x)) e (six l h))

  pub all_words : 6 ≤ n → l ≡ pad 6 (take n l)
  all_words k = six l h ∙ sym (ap (pad 6) (take_all n l (omega arith) ∙ six l h))
