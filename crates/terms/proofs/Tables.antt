-- Rows of w words each as one list of words, which is what a lent table holds.
use mathlib.Core.Path.{◌≡◌, refl, sym, ap, ◌∙◌, subst}
use mathlib.Core.List.{List, [], ◌∷◌, ◌++◌}
use Prim.Native.Nat.{ℕ, zero, suc, ◌+◌, ◌-◌, ◌*◌, ◌<◌, ◌≤◌}
use native.Mathlib.Omega.{arith}
use native.Mathlib.Nat.{suc-mul, zero-mul}
use lib.ListN.{length, get_or, take, drop, length-append, get_or-append}
use lib.Seq.{get_or-append-add}
use Rattle.terms.specs.Rows.{pad, joined, first_rows}

pub length_pad : (n : ℕ) (l : List ℕ) → length (pad n l) ≡ n
length_pad zero l = refl
length_pad (suc n) [] = ap suc (length_pad n [])
length_pad (suc n) (x ∷ l) = ap suc (length_pad n l)

pub getD_pad : (n : ℕ) (l : List ℕ) (i : ℕ) → i < n → get_or (pad n l) i 0 ≡ get_or l i 0
getD_pad zero l i h = absurd (omega arith)
getD_pad (suc n) [] zero h = refl
getD_pad (suc n) [] (suc i) h = getD_pad n [] i (omega arith)
getD_pad (suc n) (x ∷ l) zero h = refl
getD_pad (suc n) (x ∷ l) (suc i) h = getD_pad n l i (omega arith)

-- Each row has w words.
abbrev pub Wide : ℕ → List (List ℕ) → Type 0
Wide w [] = Unit {0}
Wide w (r ∷ l) = (length r ≡ w) × Wide w l

pub wide_append : (w : ℕ) (l m : List (List ℕ)) → Wide w l → Wide w m → Wide w (l ++ m)
wide_append w [] m h k = k
wide_append w (r ∷ l) m h k = (h.0, wide_append w l m h.1 k)

pub length_joined : (w : ℕ) (l : List (List ℕ)) → Wide w l → length (joined l) ≡ length l * w
length_joined w [] h = sym (zero-mul w)
length_joined w (r ∷ l) h = omega (arith, length-append r (joined l), h.0, length_joined w l h.1, suc-mul (length l) w)

-- Word j of row k.
pub joined_at : (w : ℕ) (l : List (List ℕ)) → Wide w l → (k j : ℕ) → k < length l → j < w → get_or (joined l) (k * w + j) 0 ≡ get_or (get_or l k []) j 0
joined_at w [] h k j p q = absurd (omega arith)
joined_at w (r ∷ l) h zero j p q = ap (λ (n : ℕ). get_or (r ++ joined l) n 0) (omega (arith, zero-mul w)) ∙ get_or-append r (joined l) 0 j (omega (arith, h.0))
joined_at w (r ∷ l) h (suc k) j p q =
    ap (λ (n : ℕ). get_or (r ++ joined l) n 0) (omega (arith, suc-mul k w, h.0))
    ∙ get_or-append-add r (joined l) (k * w + j) 0
    ∙ joined_at w l h.1 k j (omega arith) q

-- Whole rows in a table that is long enough.
take_pad : (r t : List ℕ) (n k : ℕ) → n ≡ length r + k → take (length r) (pad n (r ++ t)) ≡ r
take_pad [] t n k e = refl
take_pad (x ∷ r) t zero k e = absurd (omega arith)
take_pad (x ∷ r) t (suc n) k e = ap {B = List ℕ} (λ l. x ∷ l) (take_pad r t n k (omega arith))

drop_pad : (r t : List ℕ) (n k : ℕ) → n ≡ length r + k → drop (length r) (pad n (r ++ t)) ≡ pad k t
drop_pad [] t n k e = let f : n ≡ k = omega arith in ap (λ (m : ℕ). pad m t) f
drop_pad (x ∷ r) t zero k e = absurd (omega arith)
drop_pad (x ∷ r) t (suc n) k e = drop_pad r t n k (omega arith)

pub first_rows_pad : (w : ℕ) (l : List (List ℕ)) (n : ℕ) → Wide w l → length l * w ≤ n → first_rows w (length l) (pad n (joined l)) ≡ l
first_rows_pad w [] n h k = refl
first_rows_pad w (r ∷ l) n h k =
    let e : n ≡ length r + (n - w) = omega (arith, suc-mul (length l) w, h.0) in
    let x : take w (pad n (r ++ joined l)) ≡ r = subst (λ (m : ℕ). take m (pad n (r ++ joined l)) ≡ r) h.0 (take_pad r (joined l) n (n - w) e) in
    let y : drop w (pad n (r ++ joined l)) ≡ pad (n - w) (joined l) = subst (λ (m : ℕ). drop m (pad n (r ++ joined l)) ≡ pad (n - w) (joined l)) h.0 (drop_pad r (joined l) n (n - w) e) in
    let z = ap (first_rows w (length l)) y ∙ first_rows_pad w l (n - w) h.1 (omega (arith, suc-mul (length l) w)) in
    λ i. x i ∷ z i

pub length_first_rows : (w n : ℕ) (t : List ℕ) → length (first_rows w n t) ≡ n
length_first_rows w zero t = refl
length_first_rows w (suc n) t = ap suc (length_first_rows w n (drop w t))
