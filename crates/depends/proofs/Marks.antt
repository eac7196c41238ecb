-- The marks of the places that show j, one behind the other, and 0 behind them in a table.
use mathlib.Core.Path.{◌≡◌, refl, sym, ap, ◌∙◌, subst}
use mathlib.Core.Bool.{Bool, true, false, cond}
use mathlib.Core.List.{List, [], ◌∷◌, ◌++◌}
use Prim.Native.Nat.{ℕ, zero, suc, ◌<◌, ◌≤◌}
use native.Mathlib.Omega.{arith}
use lib.Dec.{eqb, ltb}
use borrow.Author.Tests.{eq-eqb, ne_eqb, ltb-true, ltb-false}
use lib.ListN.{length, get_or, set, length-append, get_or-append}
use lib.Seq.{get_or_at}
use Rattle.terms.specs.Resolution.{CoreDeclaration}
use Rattle.terms.specs.Rows.{pad}
use Rattle.terms.proofs.Tables.{getD_pad}
use Rattle.dependence.specs.First.{shows}
use Rattle.dependence.proofs.Earlier.{Earlier}
use Rattle.dependence.proofs.Showing.{none_below}
use Rattle.depends.specs.inner.Search.{marked}

abbrev mark : Bool → ℕ
mark b = cond b 1 0

mark_is : (b : Bool) → eqb (mark b) 1 ≡ b
mark_is true = eq-eqb 1 1 refl
mark_is false = ne_eqb 0 1 (λ e. omega arith)

-- One more word in a table of w words: it is stored, or is 0 already.
pad_store : (w : ℕ) (l : List ℕ) (x : ℕ) → length l < w → set (pad w l) (length l) x ≡ pad w (l ++ (x ∷ []))
pad_store zero l x h = absurd (omega arith)
pad_store (suc w) [] x h = refl
pad_store (suc w) (y ∷ l) x h = ap {B = List ℕ} (λ t. y ∷ t) (pad_store w l x (omega arith))

pad_nought : (w : ℕ) (l : List ℕ) → length l < w → pad w l ≡ pad w (l ++ (0 ∷ []))
pad_nought zero l h = absurd (omega arith)
pad_nought (suc w) [] h = refl
pad_nought (suc w) (y ∷ l) h = ap {B = List ℕ} (λ t. y ∷ t) (pad_nought w l (omega arith))

module _ (m : List CoreDeclaration) (j : ℕ) where
  -- The marks of the first n places.
  abbrev pub marks : ℕ → List ℕ
  marks zero = []
  marks (suc n) = marks n ++ (mark (shows m j n) ∷ [])

  length_marks : (n : ℕ) → length (marks n) ≡ n
  length_marks zero = refl
  length_marks (suc n) = omega (arith, length-append (marks n) (mark (shows m j n) ∷ []), length_marks n)

  mark_at : (n k : ℕ) → k < n → get_or (marks n) k 0 ≡ mark (shows m j k)
  mark_at zero k h = absurd (omega arith)
  mark_at (suc n) k h = go (ltb k n) refl (mark_at n k)
    where
      go : (b : Bool) → ltb k n ≡ b → (k < n → get_or (marks n) k 0 ≡ mark (shows m j k)) → get_or (marks (suc n)) k 0 ≡ mark (shows m j k)
      go true e ih = get_or-append (marks n) (mark (shows m j n) ∷ []) 0 k (omega (arith, length_marks n, ltb-true k n e)) ∙ ih (ltb-true k n e)
      go false e ih =
          let f : n ≡ k = omega (arith, ltb-false k n e) in
          subst (λ (x : ℕ). get_or (marks (suc n)) x 0 ≡ mark (shows m j x)) f (get_or_at (marks n) (mark (shows m j n)) [] 0 n (length_marks n))

  module _ (w : ℕ) where
    -- A place is marked in the table exactly if it shows j.
    pub marked_is : (n k : ℕ) → k < n → n ≤ w → marked (pad w (marks n)) k ≡ shows m j k
    marked_is n k h l = ap (λ (x : ℕ). eqb x 1) (getD_pad w (marks n) k (omega arith) ∙ mark_at n k h) ∙ mark_is (shows m j k)

    -- The mark of one more place.
    pub marks_store : (n : ℕ) → n < w → (b : Bool) → b ≡ shows m j n → cond b (set (pad w (marks n)) n 1) (pad w (marks n)) ≡ pad w (marks (suc n))
    marks_store n h b e = go b ∙ ap (λ (b : Bool). pad w (marks n ++ (mark b ∷ []))) e
      where
        go : (b : Bool) → cond b (set (pad w (marks n)) n 1) (pad w (marks n)) ≡ pad w (marks n ++ (mark b ∷ []))
        go true = subst (λ (k : ℕ). set (pad w (marks n)) k 1 ≡ pad w (marks n ++ (1 ∷ []))) (length_marks n) (pad_store w (marks n) 1 (omega (arith, length_marks n)))
        go false = pad_nought w (marks n) (omega (arith, length_marks n))

    -- Before j there is none.
    pub marks_before : Earlier m → (n : ℕ) → n ≤ j → n ≤ w → pad w (marks n) ≡ pad w []
    marks_before earlier zero h k = refl
    marks_before earlier (suc n) h k =
        ap (λ (b : Bool). pad w (marks n ++ (mark b ∷ []))) (none_below m j earlier n (omega arith))
        ∙ sym (pad_nought w (marks n) (omega (arith, length_marks n))) ∙ marks_before earlier n (omega arith) (omega arith)
