-- The text is moved to the buffer's beginning, and the buffer is cleared behind it.
use mathlib.Core.Path.{◌≡◌, refl, sym, ap, ◌∙◌}
use mathlib.Core.List.{List, [], ◌∷◌, ◌++◌, append_assoc, append-nil}
use Prim.Native.Nat.{ℕ, suc, ◌+◌, ◌-◌, ◌≤◌, ◌<◌}
use native.Mathlib.Omega.{arith}
use native.Mathlib.Numerals.{add-one}
use lib.ListN.{length, get_or, take, drop, set, replicate, length-set, length-drop}
use lib.Seq.{take_all, take-suc, take-suc-set, drop-set-lt, drop-drop, get_or-drop}
use Rattle.tables.specs.Tables.{cleared}

-- Bytes from `from` on that are moved one after the other: i of them stand at the beginning, and what comes behind is untouched.
pub record Moved (out₀ : List ℕ) (from : ℕ) (out : List ℕ) (i : ℕ) : Type 0 where
  pub front : take i out ≡ take i (drop from out₀)
  pub behind : drop i out ≡ drop i out₀
  pub long : length out ≡ length out₀

pub move_none : (out : List ℕ) (from : ℕ) → Moved out from out 0
move_none out from = record { front = refl; behind = refl; long = refl }

module _ (out₀ : List ℕ) (from : ℕ) (out : List ℕ) (i : ℕ) (m : Moved out₀ from out i) where
  pub move_more : from + i < length out₀ → Moved out₀ from (set out i (get_or out (from + i) 0)) (i + 1)
  move_more h =
      let v = get_or out (from + i) 0 in
      let d = drop from out₀ in
      let e : from + i ≡ i + from = omega arith in
      let f : v ≡ get_or d i 0 =
      ap (λ (k : ℕ). get_or out k 0) e ∙ sym (get_or-drop i out from 0) ∙ ap (λ (l : List ℕ). get_or l from 0) m.behind ∙ get_or-drop i out₀ from 0
      ∙ ap (λ (k : ℕ). get_or out₀ k 0) (sym e) ∙ sym (get_or-drop from out₀ i 0) in
      let n : i < length out = omega (arith, m.long) in
      record {
        front =
            ap (λ (k : ℕ). take k (set out i v)) (add-one i) ∙ take-suc-set out i v n
            ∙ (λ x. m.front x ++ (f x ∷ []))
            ∙ sym (take-suc d i 0 (omega (arith, length-drop from out₀)))
            ∙ ap (λ (k : ℕ). take k d) (sym (add-one i));
        behind =
            drop-set-lt (i + 1) out i v (omega arith) ∙ sym (drop-drop 1 i out) ∙ ap (drop 1) m.behind ∙ drop-drop 1 i out₀;
        long = length-set out i v ∙ m.long;
      }

  pub move_all : i ≡ length out₀ - from → take i out ≡ drop from out₀
  move_all e = m.front ∙ take_all i (drop from out₀) (omega (arith, length-drop from out₀))

-- A table that is cleared from a byte on, one byte more at a time.
pub clear_next : (t : List ℕ) (i : ℕ) → i < length t → cleared (set t i 0) (i + 1) ≡ cleared t i
unfolding cleared
clear_next t i h =
    let e : length t - i ≡ suc (length t - (i + 1)) = omega arith in
    let n = length-set t i 0 in
    (λ x. take (add-one i x) (set t i 0) ++ replicate (n x - (i + 1)) 0)
    ∙ ap (λ (l : List ℕ). l ++ replicate (length t - (i + 1)) 0) (take-suc-set t i 0 h)
    ∙ append_assoc (take i t) (0 ∷ []) (replicate (length t - (i + 1)) 0)
    ∙ ap (λ (k : ℕ). take i t ++ replicate k 0) (sym e)

pub clear_last : (t : List ℕ) (i : ℕ) → length t ≤ i → t ≡ cleared t i
unfolding cleared
clear_last t i h =
    let e : length t - i ≡ 0 = omega arith in
    sym (ap (λ (k : ℕ). take i t ++ replicate k 0) e ∙ append-nil (take i t) ∙ take_all i t h)
