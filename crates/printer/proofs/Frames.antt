-- The stack of frames at the work area's end.
use mathlib.Core.Path.{◌≡◌, refl, sym, ap, ◌∙◌, subst}
use mathlib.Core.Bool.{Bool, cond}
use mathlib.Core.List.{List, [], ◌∷◌, ◌++◌, append_assoc, append-nil}
use Prim.Native.Nat.{ℕ, suc, ◌+◌, ◌-◌, ◌≤◌, ◌<◌}
use native.Mathlib.Omega.{arith}
use lib.ListN.{length, get_or, set, replicate, length-set, length-append, length-replicate, replicate-append-replicate}
use lib.Seq.{set_at, get_or_at}
use borrow.Author.Tests.{lt-ltb, le-ltb}
use Rattle.terms.specs.Rows.{pad}
use Rattle.terms.proofs.Tables.{length_pad}
use Rattle.loader.proofs.Cleared.{pad_is}
use Rattle.printer.specs.inner.Ends.{Stacked, pushed}
use Rattle.printer.specs.inner.Machine.{taken}

abbrev zeros : ℕ → List ℕ
zeros n = replicate n 0

length_zeros : (n : ℕ) → length (zeros n) ≡ n
length_zeros n = length-replicate n (let x : ℕ = 0 in x)

-- One 0 more at the end of zeros.
zeros_more : (n : ℕ) (l : List ℕ) → zeros (suc n) ++ l ≡ zeros n ++ (0 ∷ l)
zeros_more n l =
    let e : n + 1 ≡ suc n = omega arith in
    ap (λ (k : ℕ). zeros k ++ l) (sym e) ∙ ap (λ (x : List ℕ). x ++ l) (sym (replicate-append-replicate n 1 0)) ∙ (append_assoc (zeros n) (0 ∷ []) l)

-- A work area without frames is 0.
pub stacked_none : (n : ℕ) (work : List ℕ) → work ≡ pad n [] → Stacked work [] 0
stacked_none n work e =
    let k : n - 0 ≡ length work - 0 = omega (arith, ap length e ∙ length_pad n []) in
    record { told = refl; content = e ∙ pad_is n [] (omega arith) ∙ ap zeros k ∙ sym (append-nil (zeros (length work - 0))) }

pub none_stacked : (work : List ℕ) (top : ℕ) → Stacked work [] top → work ≡ pad (length work) []
none_stacked work top s =
    s.content ∙ append-nil (zeros (length work - 0)) ∙ sym (pad_is (length work) [] (omega arith))

pub stacked_room : {work l : List ℕ} {top : ℕ} → Stacked work l top → length l ≤ length work
stacked_room {work} {l} s =
    omega (arith, ap length s.content ∙ length-append (zeros (length work - length l)) l, length_zeros (length work - length l))

module _ (work : List ℕ) (w : ℕ) (l : List ℕ) (top : ℕ) (s : Stacked work (w ∷ l) top) where
  front : length (zeros (length work - length (w ∷ l))) ≡ length work - top
  front = omega (arith, length_zeros (length work - length (w ∷ l)), s.told)

  pub stacked_top : get_or work (length work - top) 0 ≡ w
  stacked_top = ap (λ (x : List ℕ). get_or x (length work - top) 0) s.content ∙ get_or_at (zeros (length work - length (w ∷ l))) w l 0 (length work - top) front

  pub stacked_set : (v : ℕ) → Stacked (set work (length work - top) v) (v ∷ l) top
  stacked_set v = record {
    told = s.told;
    content =
        ap (λ (x : List ℕ). set x (length work - top) v) s.content
        ∙ set_at (zeros (length work - length (w ∷ l))) w l v (length work - top) front
        ∙ ap (λ (n : ℕ). zeros (n - length (v ∷ l)) ++ (v ∷ l)) (sym (length-set work (length work - top) v));
  }

-- A frame 0 is none.
pub stacked_pop : (work l : List ℕ) (top : ℕ) → Stacked work (0 ∷ l) top → Stacked work l (top - 1)
stacked_pop work l top s =
    let r = stacked_room s in
    let e : suc (length work - suc (length l)) ≡ length work - length l = omega arith in
    record {
      told = omega (arith, s.told);
      content = s.content ∙ sym (zeros_more (length work - suc (length l)) l) ∙ ap (λ (n : ℕ). zeros n ++ l) e;
    }

pub stacked_more : (work l : List ℕ) (top : ℕ) → Stacked work l top → top < length work → Stacked work (0 ∷ l) (top + 1)
stacked_more work l top s h =
    let e : length work - length l ≡ suc (length work - suc (length l)) = omega (arith, s.told) in
    record {
      told = omega (arith, s.told);
      content = s.content ∙ ap (λ (n : ℕ). zeros n ++ l) e ∙ zeros_more (length work - suc (length l)) l;
    }

pub pushed_room : (limit w : ℕ) (l : List ℕ) → length l < limit → pushed limit w l ≡ w ∷ l
unfolding pushed
pushed_room limit w l h = ap (λ (b : Bool). cond b (w ∷ l) l) (lt-ltb (length l) limit h)

pub pushed_full : (limit w : ℕ) (l : List ℕ) → limit ≤ length l → pushed limit w l ≡ l
unfolding pushed
pushed_full limit w l h = ap (λ (b : Bool). cond b (w ∷ l) l) (le-ltb (length l) limit h)

-- A push in two steps: a frame 0 is there already.
pub push_room : (work work₁ : List ℕ) (top word : ℕ) → top < length work
    → ((w : ℕ) (l : List ℕ) → Stacked work (w ∷ l) (top + 1) → Stacked work₁ (word ∷ l) (top + 1))
    → (l : List ℕ) → Stacked work l top → Stacked work₁ (pushed (length work) word l) (top + 1)
push_room work work₁ top word h f l s =
    subst (λ (x : List ℕ). Stacked work₁ x (top + 1)) (sym (pushed_room (length work) word l (omega (arith, s.told)))) (f 0 l (stacked_more work l top s h))

pub push_full : (work : List ℕ) (top word : ℕ) → length work ≤ top → (l : List ℕ) → Stacked work l top → Stacked work (pushed (length work) word l) top
push_full work top word h l s = subst (λ (x : List ℕ). Stacked work x top) (sym (pushed_full (length work) word l (omega (arith, s.told)))) s

-- One argument less, by the top frame's word.
module _ (work : List ℕ) (top : ℕ) where
  pub take_one : (work₁ : List ℕ) (word : ℕ) → 0 < top → ((w : ℕ) (l : List ℕ) → Stacked work (w ∷ l) top → word ≡ w)
      → ((w : ℕ) (l : List ℕ) → Stacked work (w ∷ l) top → Stacked work₁ ((word - 1) ∷ l) top) → (l : List ℕ) → Stacked work l top → Stacked work₁ (taken l) top
  unfolding taken
  take_one work₁ word h f g [] s = absurd (omega (arith, s.told))
  take_one work₁ word h f g (w ∷ l) s = subst (λ (x : ℕ). Stacked work₁ ((x - 1) ∷ l) top) (f w l s) (g w l s)

  pub take_none : (word : ℕ) → word ≤ 0 → 0 < top → ((w : ℕ) (l : List ℕ) → Stacked work (w ∷ l) top → word ≡ w) → (l : List ℕ) → Stacked work l top → Stacked work (taken l) top
  unfolding taken
  take_none word k h f [] s = absurd (omega (arith, s.told))
  take_none word k h f (w ∷ l) s = let e : w ≡ w - 1 = omega (arith, f w l s) in subst (λ (x : ℕ). Stacked work (x ∷ l) top) e s

  pub take_empty : top ≤ 0 → (l : List ℕ) → Stacked work l top → Stacked work (taken l) top
  unfolding taken
  take_empty h [] s = s
  take_empty h (w ∷ l) s = absurd (omega (arith, s.told))
