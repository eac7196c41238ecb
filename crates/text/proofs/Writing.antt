-- Bytes written one piece after the other are the pieces' text written at once.
use Prim.Native.Nat.{ℕ, zero, suc, ◌+◌, ◌≤◌, min}
use mathlib.Core.Path.{◌≡◌, refl, sym, ap, subst, ◌∙◌}
use mathlib.Core.List.{List, [], ◌∷◌, ◌++◌, append-nil, append_assoc}
use mathlib.Core.Logic.{◌↔◌}
use native.Mathlib.Omega.{arith}
use native.Mathlib.Decide.{dec_le}
use native.Mathlib.Numerals.{add-one}
use native.Mathlib.Nat.{zero-add, add-zero}
use lib.ListN.{length, drop, set, length-set, length-append}
use lib.Seq.{sets, sets-eq, length-sets, set_out}
use Rattle.text.specs.Text.{length_in, Behind}

-- Behind the buffer's end nothing is written.
pub sets_out : (vs l : List ℕ) (i : ℕ) → length l ≤ i → sets l i vs ≡ l
sets_out [] l i h = refl
sets_out (v ∷ vs) l i h = sets_out vs (set l i v) (suc i) (omega (arith, length-set l i v)) ∙ set_out l i v h

pub sets_append : (vs ws l : List ℕ) (i : ℕ) → sets l i (vs ++ ws) ≡ sets (sets l i vs) (i + length vs) ws
sets_append [] ws l i = ap (λ (k : ℕ). sets l k ws) (sym (add-zero i))
sets_append (v ∷ vs) ws l i =
    sets_append vs ws (set l i v) (suc i) ∙ ap (λ (k : ℕ). sets (sets (set l i v) (suc i) vs) k ws) (let q : suc i + length vs ≡ i + suc (length vs) = omega arith in q)

-- An offset that is cut at the buffer's end writes the same.
pub sets_cut : (vs l : List ℕ) (i : ℕ) → sets l (length_in l i) vs ≡ sets l i vs
sets_cut vs l i = elim (dec_le i (length l)) [
  | yes h ↦ ap (λ (k : ℕ). sets l k vs) (let q : min i (length l + 1) ≡ i = omega arith in q)
  | no h ↦ sets_out vs l (length_in l i) (omega arith) ∙ sym (sets_out vs l i (omega arith))
]

-- A text t put at an offset of the buffer `out`: the buffer's content then, and the offset behind t.
pub record Put (out : List ℕ) (at : ℕ) (t now : List ℕ) (behind : ℕ) : Type 0 where
  pub content : now ≡ sets out at t
  pub offset : behind ≡ length_in out (at + length t)

-- What a function that puts a text ensures, and the same as a record.
abbrev pub Ensured : List ℕ → ℕ → List ℕ → List ℕ → ℕ → Type 0
Ensured out at t now behind = (now ≡ sets out at t) × (behind ≡ length_in out (at + length t))

pub piece : {out : List ℕ} {at : ℕ} {now : List ℕ} {behind : ℕ} (t : List ℕ) → Ensured out at t now behind → Put out at t now behind
piece t e = record { content = e.0; offset = e.1 }

pub ensured : (out : List ℕ) (at : ℕ) (t : List ℕ) {now : List ℕ} {behind : ℕ} → Put out at t now behind → Ensured out at t now behind
ensured out at t p = (p.content, p.offset)

pub same_text : {out : List ℕ} {at : ℕ} {t u now : List ℕ} {behind : ℕ} → t ≡ u → Put out at t now behind → Put out at u now behind
same_text {out} {at} {t} {u} {now} {behind} e p = subst (λ (l : List ℕ). Put out at l now behind) e p

pub put_length : {out : List ℕ} {at : ℕ} {t now : List ℕ} {behind : ℕ} → Put out at t now behind → length now ≡ length out
put_length {out} {at} {t} p = ap length p.content ∙ length-sets out at t

-- Nothing is put yet at an offset that is cut at the buffer's end.
pub put_start : (out : List ℕ) (at : ℕ) {behind : ℕ} → behind ≡ length_in out at → Put out at [] out behind
put_start out at e = record { content = refl; offset = omega (arith, e) }

-- A text put behind another: both are put.
infixl 5 ◌then◌
pub ◌then◌ : {out : List ℕ} {at : ℕ} {t now : List ℕ} {behind : ℕ} {u now₁ : List ℕ} {behind₁ : ℕ}
    → Put out at t now behind → Put now behind u now₁ behind₁ → Put out at (t ++ u) now₁ behind₁
◌then◌ {out} {at} {t} {now} {behind} {u} p q =
    let n = put_length p in
    record {
      content =
          q.content
          ∙ ap (λ (k : ℕ). sets now k u) (p.offset ∙ ap (λ (k : ℕ). min (at + length t) (k + 1)) (sym n))
          ∙ sets_cut u now (at + length t)
          ∙ ap (λ (l : List ℕ). sets l (at + length t) u) p.content
          ∙ sym (sets_append t u out at);
      offset = omega (arith, p.offset, q.offset, n, length-append t u);
    }

-- The same from the buffer's beginning on.
pub put_behind : {out t now : List ℕ} {at : ℕ} → Put out 0 t now at → Behind out t now at
put_behind p = record { content = p.content; offset = omega (arith, p.offset) }

pub behind_put : {out t now : List ℕ} {at : ℕ} → Behind out t now at → Put out 0 t now at
behind_put b = record { content = b.content; offset = omega (arith, b.offset) }

pub behind_none : (out : List ℕ) → Behind out [] out 0
behind_none out = record { content = refl; offset = omega arith }

pub behind_then : {out t now : List ℕ} {at : ℕ} (u : List ℕ) {now₁ : List ℕ} {at₁ : ℕ}
    → Behind out t now at → Ensured now at u now₁ at₁ → Behind out (t ++ u) now₁ at₁
behind_then u b e = put_behind (behind_put b then piece u e)

-- The offset tells whether the text fits, and a text that fits stands in the buffer whole.
pub behind_fits : {out t now : List ℕ} {at : ℕ} → Behind out t now at → (at ≤ length out) ↔ (length t ≤ length out)
behind_fits b = (λ h. omega (arith, b.offset), λ h. omega (arith, b.offset))

pub behind_whole : {out t now : List ℕ} {at : ℕ} → Behind out t now at → length t ≤ length out → now ≡ t ++ drop (length t) out
behind_whole {out} {t} b h = b.content ∙ sets-eq t out 0 (omega arith) ∙ ap (λ (k : ℕ). t ++ drop k out) (zero-add (length t))

-- Texts f n k of n pieces, of which the first is g k: one more piece stands behind the others.
module _ (f : ℕ → ℕ → List ℕ) (g : ℕ → List ℕ) (none : (k : ℕ) → f 0 k ≡ []) (next : (n k : ℕ) → f (suc n) k ≡ g k ++ f n (k + 1)) where
  pub one_more : (n k : ℕ) → f (n + 1) k ≡ f n k ++ g (k + n)
  one_more n k = rw add-one (go n k)
    where
      go : (n k : ℕ) → f (suc n) k ≡ f n k ++ g (k + n)
      go zero k = next 0 k ∙ rw (none, none, add-zero) (append-nil (g k))
      go (suc n) k =
          next (suc n) k
          ∙ ap (λ (l : List ℕ). g k ++ l) (go n (k + 1) ∙ ap (λ (m : ℕ). f n (k + 1) ++ g m) (let q : k + 1 + n ≡ k + suc n = omega arith in q))
          ∙ sym (append_assoc (g k) (f n (k + 1)) (g (k + suc n)))
          ∙ ap (λ (l : List ℕ). l ++ g (k + suc n)) (sym (next n k))
