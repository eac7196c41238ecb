-- Text and frames that grow from the end of a table.
use mathlib.Core.Path.{◌≡◌, refl, sym, ap, ◌∙◌, subst}
use mathlib.Core.List.{List, [], ◌∷◌, ◌++◌, append_assoc, append-nil}
use Prim.Native.Nat.{ℕ, suc, ◌+◌, ◌-◌, ◌≤◌, ◌<◌}
use native.Mathlib.Omega.{arith}
use lib.ListN.{length, drop, set, length-set, drop_of_length-le}
use lib.Seq.{drop-cons, drop-set-lt, get_or-set_same}
use Rattle.printer.specs.inner.Ends.{Written, Puts}

-- A word that is set, with what stands behind it.
set_front : (l : List ℕ) (j w : ℕ) → j < length l → drop j (set l j w) ≡ w ∷ drop (suc j) l
set_front l j w h =
    let k : j < length (set l j w) = omega (arith, length-set l j w) in
    drop-cons (set l j w) j 0 k ∙ (λ i. get_or-set_same l j w 0 h i ∷ drop-set-lt (suc j) l j w (omega arith) i)

-- No text is written yet.
pub written_none : (out : List ℕ) → Written out [] 0
written_none out = record { told = omega arith; content = λ h. drop_of_length-le out {i = length out - 0} (omega arith) }

-- One text put in front of another, and a text that is said otherwise.
infixl 5 ◌then◌
pub ◌then◌ : {out : List ℕ} {at : ℕ} {u out₁ : List ℕ} {at₁ : ℕ} {v out₂ : List ℕ} {at₂ : ℕ} → Puts out at u out₁ at₁ → Puts out₁ at₁ v out₂ at₂ → Puts out at (v ++ u) out₂ at₂
◌then◌ {u = u} {v = v} {out₂ = out₂} {at₂ = at₂} p q =
    record { front = λ t w. subst (λ (l : List ℕ). Written out₂ l at₂) (sym (append_assoc v u t)) (q.front (u ++ t) (p.front t w)) }

pub puts_as : {out : List ℕ} {at : ℕ} {u v out₁ : List ℕ} {at₁ : ℕ} → u ≡ v → Puts out at u out₁ at₁ → Puts out at v out₁ at₁
puts_as {out} {at} {u} {v} {out₁} {at₁} e p = subst (λ (l : List ℕ). Puts out at l out₁ at₁) e p

pub puts_nothing : {out : List ℕ} {at : ℕ} → Puts out at [] out at
puts_nothing = record { front = λ t w. w }

-- One byte more, where the buffer has room, and where it has none.
module _ (out : List ℕ) (at b : ℕ) where
  pub byte_fits : at < length out → Puts out at (b ∷ []) (set out (length out - 1 - at) b) (at + 1)
  byte_fits h = record { front = go }
    where
      go : (t : List ℕ) → Written out t at → Written (set out (length out - 1 - at) b) (b ∷ t) (at + 1)
      go t w =
          let j = length out - 1 - at in
          let n = length-set out j b in
          let e : at ≡ length t = omega (arith, w.told) in
          let k : length (set out j b) - suc (length t) ≡ j = omega arith in
          let l : suc j ≡ length out - length t = omega arith in
          record {
            told = omega arith;
            content = λ f.
                ap (λ (m : ℕ). drop m (set out j b)) k
                ∙ set_front out j b (omega arith)
                ∙ ap (λ (m : ℕ). b ∷ drop m out) l
                ∙ ap {B = List ℕ} (λ x. b ∷ x) (w.content (omega arith));
          }

  pub byte_over : length out ≤ at → Puts out at (b ∷ []) out (length out + 1)
  byte_over h = record { front = λ t w. record { told = omega (arith, w.told); content = λ f. absurd (omega (arith, w.told)) } }

-- Bytes one after the other, the last one first: those behind the ones that are left are put.
pub record Backwards (out : List ℕ) (at : ℕ) (bytes left out₁ : List ℕ) (at₁ : ℕ) : Type 0 where
  pub done : List ℕ
  pub whole : left ++ done ≡ bytes
  pub puts : Puts out at done out₁ at₁

module _ (out : List ℕ) (at : ℕ) (bytes left out₁ : List ℕ) (pos : ℕ) where
  pub back_none : left ≡ bytes → Backwards out at bytes left out at
  back_none e = record { done = []; whole = append-nil left ∙ e; puts = puts_nothing }

  pub back_more : (rest : List ℕ) (b : ℕ) (out₂ : List ℕ) (r : ℕ) → left ≡ rest ++ (b ∷ []) → Backwards out at bytes left out₁ pos → Puts out₁ pos (b ∷ []) out₂ r
      → Backwards out at bytes rest out₂ r
  back_more rest b out₂ r e p q =
      record { done = b ∷ p.done; whole = sym (append_assoc rest (b ∷ []) p.done) ∙ ap (λ (l : List ℕ). l ++ p.done) (sym e) ∙ p.whole; puts = p.puts then q }

  pub back_all : length left ≡ 0 → Backwards out at bytes left out₁ pos → Puts out at bytes out₁ pos
  back_all z p = puts_as (ap (λ (l : List ℕ). l ++ p.done) (sym (empty left z)) ∙ p.whole) p.puts
    where
      empty : (l : List ℕ) → length l ≡ 0 → l ≡ []
      empty [] e = refl
      empty (b ∷ l) e = absurd (omega arith)
