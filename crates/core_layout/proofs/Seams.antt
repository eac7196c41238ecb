-- Texts with layout in front of a byte that is none: they are equal exactly if the layout is, and what follows.
use mathlib.Core.Path.{◌≡◌, refl, sym, ap, ◌∙◌}
use mathlib.Core.List.{List, [], ◌∷◌, ◌++◌}
use mathlib.Core.Bool.{Bool, true, false, ◌&&◌, true≢false, false≢true}
use Prim.Native.Nat.{ℕ, suc, ◌+◌, ◌-◌, ◌≤◌, ◌<◌}
use native.Mathlib.Omega.{arith}
use lib.Dec.{eqb}
use lib.ListN.{length, take, drop, get_or, take-append-drop}
use lib.Seq.{drop-drop}
use borrow.Author.Tests.{eq-eqb, ne_eqb}
use Rattle.token.specs.Token.{layout_byte}
use Rattle.token.proofs.Runs.{drop_next}
use Rattle.words.specs.Words.{same_bytes, all}
use Rattle.terms.specs.Label.{part}

-- A text from an offset on, in two parts.
pub split : (t : List ℕ) (at a : ℕ) → at ≤ a → drop at t ≡ part t at (a - at) ++ drop a t
split t at a h =
    let z : at + (a - at) ≡ a = omega arith in
    sym (take-append-drop (a - at) (drop at t)) ∙ ap (λ (l : List ℕ). part t at (a - at) ++ l) (drop-drop (a - at) at t ∙ ap (λ (n : ℕ). drop n t) z)

-- The first byte of a part.
pub first_byte : (t : List ℕ) (a e : ℕ) → a < e → e ≤ length t → part t a (e - a) ≡ get_or t a 0 ∷ part t (a + 1) (e - (a + 1))
first_byte t a e h i =
    let z : e - a ≡ suc (e - (a + 1)) = omega arith in
    ap (λ (n : ℕ). part t a n) z ∙ ap (take (suc (e - (a + 1)))) (drop_next t a (omega arith))

-- The same bytes in front.
pub same_front : (w l m : List ℕ) → same_bytes (w ++ l) (w ++ m) ≡ same_bytes l m
unfolding same_bytes
same_front [] l m = refl
same_front (x ∷ w) l m = rw (eq-eqb x x refl, same_bytes) (same_front w l m)

differ : (x y : ℕ) → layout_byte x ≡ true → layout_byte y ≡ false → x ≡ y → ⊥
differ x y e f q = true≢false (sym e ∙ ap layout_byte q ∙ f)

all_cons : (x : ℕ) (l : List ℕ) → all layout_byte (x ∷ l) ≡ true → (layout_byte x ≡ true) × (all layout_byte l ≡ true)
unfolding all
all_cons x l e = go (layout_byte x) refl e
  where
    go : (k : Bool) → layout_byte x ≡ k → elim k as (λ _. Bool) [ true ↦ all layout_byte l | false ↦ false ] ≡ true → (layout_byte x ≡ true) × (all layout_byte l ≡ true)
    go true q r = (q, r)
    go false q r = absurd (false≢true r)

pub same_seam : (a b : List ℕ) (x : ℕ) (l m : List ℕ) → all layout_byte a ≡ true → all layout_byte b ≡ true → layout_byte x ≡ false
    → same_bytes (a ++ (x ∷ l)) (b ++ (x ∷ m)) ≡ (same_bytes a b && same_bytes l m)
unfolding same_bytes
same_seam [] [] x l m e f s = rw (eq-eqb x x refl, same_bytes)
same_seam [] (c ∷ b) x l m e f s = rw (ne_eqb x c (λ q. differ c x (all_cons c b f).0 s (sym q)), same_bytes)
same_seam (c ∷ a) [] x l m e f s = rw (ne_eqb c x (λ q. differ c x (all_cons c a e).0 s q), same_bytes)
same_seam (c ∷ a) (d ∷ b) x l m e f s = go (eqb c d) (same_seam a b x l m (all_cons c a e).1 (all_cons d b f).1 s)
  where
    go : (k : Bool) → same_bytes (a ++ (x ∷ l)) (b ++ (x ∷ m)) ≡ (same_bytes a b && same_bytes l m)
        → elim k as (λ _. Bool) [ true ↦ same_bytes (a ++ (x ∷ l)) (b ++ (x ∷ m)) | false ↦ false ] ≡ (elim k as (λ _. Bool) [ true ↦ same_bytes a b | false ↦ false ] && same_bytes l m)
    go true h = h
    go false h = refl
