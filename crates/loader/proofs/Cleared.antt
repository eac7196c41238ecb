-- A table that is cleared behind what was stored is what was stored, with 0 behind it.
use Prim.Native.Nat.{ℕ, zero, suc, ◌-◌, ◌≤◌}
use mathlib.Core.Path.{◌≡◌, refl, sym, ap, ap₂, ◌∙◌}
use mathlib.Core.List.{List, [], ◌∷◌, ◌++◌}
use native.Mathlib.Omega.{arith}
use lib.ListN.{length, take, replicate}
use lib.Seq.{length-take-le}
use Rattle.terms.specs.Rows.{pad}
use Rattle.terms.proofs.Tables.{length_pad}
use Rattle.tables.specs.Tables.{cleared}

pad_none : (n : ℕ) → pad n [] ≡ replicate n 0
pad_none zero = refl
pad_none (suc n) = ap (λ (l : List ℕ). 0 ∷ l) (pad_none n)

pub pad_is : (n : ℕ) (l : List ℕ) → length l ≤ n → pad n l ≡ l ++ replicate (n - length l) 0
pad_is n [] h = pad_none n ∙ ap (λ (m : ℕ). replicate m 0) (let q : n ≡ n - 0 = omega arith in q)
pad_is zero (x ∷ l) h = absurd (omega arith)
pad_is (suc n) (x ∷ l) h =
    ap (λ (m : List ℕ). x ∷ m) (pad_is n l (omega arith))
    ∙ ap (λ (m : ℕ). x ∷ (l ++ replicate m 0)) (let q : n - length l ≡ suc n - suc (length l) = omega arith in q)

-- n words were stored, ws.
pub cleared_behind : (t : List ℕ) (n : ℕ) (ws : List ℕ) → n ≤ length t → take n t ≡ ws → cleared t n ≡ pad (length t) ws
unfolding cleared
cleared_behind t n ws h e =
    let k : length ws ≡ n = ap length (sym e) ∙ length-take-le n t h in
    ap₂ (λ (l : List ℕ) (m : ℕ). l ++ replicate (length t - m) 0) e (sym k) ∙ sym (pad_is (length t) ws (omega arith))

pub cleared_whole : (t : List ℕ) → cleared t 0 ≡ pad (length t) []
cleared_whole t = cleared_behind t 0 [] (omega arith) refl

-- Whatever stood in a table of n words.
pub cleared_pad : (t : List ℕ) (n : ℕ) (x : List ℕ) → t ≡ pad n x → cleared t 0 ≡ pad n []
cleared_pad t n x e = cleared_whole t ∙ ap (λ (m : ℕ). pad m []) (ap length e ∙ length_pad n x)
