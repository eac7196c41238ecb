-- The loop of `put`: bytes written one after the other.
use Prim.Native.Nat.{ℕ, suc, ◌+◌, ◌≤◌, ◌<◌, min}
use mathlib.Core.Path.{◌≡◌, refl, sym, ap, ap₂, ◌∙◌}
use mathlib.Core.List.{List, [], ◌∷◌}
use native.Mathlib.Omega.{arith}
use native.Mathlib.Numerals.{add-one}
use native.Mathlib.Nat.{add-zero}
use lib.ListN.{length, get_or, drop, set, drop_of_length-le}
use lib.Seq.{sets, length-sets, drop-cons}
use Rattle.text.specs.Text.{length_in}
use Rattle.text.proofs.Writing.{sets_cut}

drop_next : (s : List ℕ) (i : ℕ) → i < length s → drop i s ≡ get_or s i 0 ∷ drop (i + 1) s
drop_next s i h = rw (add-one, drop-cons s i 0)

-- The bytes from i on are still to be written.
abbrev pub Putting : List ℕ → ℕ → List ℕ → List ℕ → ℕ → ℕ → Type 0
Putting out₀ at bytes out pos i =
    (sets out₀ at bytes ≡ sets out (at + i) (drop i bytes)) × (pos ≡ length_in out₀ (at + i)) × (length out ≡ length out₀) × (i ≤ length bytes)

pub put_start : (out : List ℕ) (at : ℕ) (bytes : List ℕ) → Putting out at bytes out (length_in out at) 0
put_start out at bytes = (ap (λ (k : ℕ). sets out k bytes) (sym (add-zero at)), omega arith, refl, omega arith)

module _ (out₀ : List ℕ) (at : ℕ) (bytes : List ℕ) where
  pub put_more : (out : List ℕ) (pos i : ℕ) (out₁ : List ℕ) → i < length bytes → Putting out₀ at bytes out pos i
      → out₁ ≡ sets out pos (get_or bytes i 0 ∷ []) → Putting out₀ at bytes out₁ (length_in out (pos + 1)) (i + 1)
  put_more out pos i out₁ h p e =
      let b = get_or bytes i 0 in
      let n : length out₁ ≡ length out = ap length e ∙ length-sets out pos (b ∷ []) in
      let w : out₁ ≡ set out (at + i) b = e ∙ ap (λ (k : ℕ). sets out k (b ∷ [])) (p.1 ∙ ap (λ (k : ℕ). min (at + i) (k + 1)) (sym p.2)) ∙ sets_cut (b ∷ []) out (at + i) in (
        p.0
            ∙ ap (sets out (at + i)) (drop_next bytes i h)
            ∙ ap₂ (λ (l : List ℕ) (k : ℕ). sets l k (drop (i + 1) bytes)) (sym w) (let q : suc (at + i) ≡ at + (i + 1) = omega arith in q),
        omega (arith, p.1, p.2),
        n ∙ p.2,
        omega arith,
      )

  pub put_all : (out : List ℕ) (pos i : ℕ) → length bytes ≤ i → Putting out₀ at bytes out pos i
      → (out ≡ sets out₀ at bytes) × (pos ≡ length_in out₀ (at + length bytes))
  put_all out pos i h p =
      (sym (p.0 ∙ ap (sets out (at + i)) (drop_of_length-le bytes h)), p.1 ∙ ap (λ (k : ℕ). length_in out₀ (at + k)) (let q : i ≡ length bytes = omega (arith, p.3) in q))
