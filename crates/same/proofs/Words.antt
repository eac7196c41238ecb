-- Words of two tables, and parts of two sources: equal exactly if a test says so.
use Prim.Native.Nat.{ℕ, zero, suc, ◌+◌, ◌<◌}
use mathlib.Core.Path.{◌≡◌, refl, sym, ap, ◌∙◌}
use mathlib.Core.List.{List, ◌∷◌}
use mathlib.Core.Bool.{Bool, true, false}
use native.Mathlib.Omega.{arith}
use native.Mathlib.Nat.{add-zero}
use lib.ListN.{length, get_or}
use Rattle.words.specs.Words.{same_bytes}
use Rattle.words.proofs.Names.{same_eq, same_ne}
use Rattle.same.specs.inner.Contents.{Decides, words_at}

pub length_words : (n : ℕ) (t : List ℕ) (i : ℕ) → length (words_at n t i) ≡ n
length_words zero t i = refl
length_words (suc n) t i = ap suc (length_words n t (i + 1))

pub words_get : (n : ℕ) (t : List ℕ) (i j : ℕ) → j < n → get_or (words_at n t i) j 0 ≡ get_or t (i + j) 0
words_get zero t i j h = absurd (omega arith)
words_get (suc n) t i zero h = ap (λ (k : ℕ). get_or t k 0) (sym (add-zero i))
words_get (suc n) t i (suc j) h = words_get n t (i + 1) j (omega arith) ∙ ap (λ (k : ℕ). get_or t k 0) (let q : i + 1 + j ≡ i + suc j = omega arith in q)

pub words_same : (n : ℕ) (a b : List ℕ) (i : ℕ) → ((j : ℕ) → j < n → get_or a (i + j) 0 ≡ get_or b (i + j) 0) → words_at n a i ≡ words_at n b i
words_same zero a b i h = refl
words_same (suc n) a b i h =
    let x : get_or a i 0 ≡ get_or b i 0 = ap (λ (k : ℕ). get_or a k 0) (sym (add-zero i)) ∙ h 0 (omega arith) ∙ ap (λ (k : ℕ). get_or b k 0) (add-zero i) in
    let y = words_same n a b (i + 1) (λ j p.
    let e : i + 1 + j ≡ i + suc j = omega arith in
    ap (λ (k : ℕ). get_or a k 0) e ∙ h (suc j) (omega arith) ∙ ap (λ (k : ℕ). get_or b k 0) (sym e)) in
    λ k. x k ∷ y k

pub words_differ : (n : ℕ) (a b : List ℕ) (i j : ℕ) → j < n → ¬ (get_or a (i + j) 0 ≡ get_or b (i + j) 0) → ¬ (words_at n a i ≡ words_at n b i)
words_differ n a b i j h d e = d (sym (words_get n a i j h) ∙ ap (λ (l : List ℕ). get_or l j 0) e ∙ words_get n b i j h)

-- What a comparison of bytes decides.
pub bytes_decide : (r : Bool) (x y : List ℕ) → r ≡ same_bytes x y → Decides r (x ≡ y)
bytes_decide true x y e = same_eq x y (sym e)
bytes_decide false x y e = same_ne x y (sym e)
