-- What counts of a row and of a record, word by word.
use Prim.Native.Nat.{ℕ, ◌+◌, ◌*◌}
use mathlib.Core.Path.{◌≡◌, refl, sym, ap, ◌∙◌, subst}
use mathlib.Core.List.{List, [], ◌∷◌}
use mathlib.Core.Bool.{Bool, true, false, cond}
use native.Mathlib.Omega.{arith}
use lib.Dec.{eqb}
use borrow.Author.Tests.{eq-eqb, ne_eqb}
use lib.ListN.{get_or, take, drop}
use Rattle.terms.specs.Forms.{universe}
use Rattle.terms.specs.Label.{Name, part}
use Rattle.terms.specs.Content.{RowContent, row_content, RecordContent}
use Rattle.same.specs.inner.Contents.{Decides, words_at, atom_at, row_at, SameRow, SameRecord}

-- A test of one thing is a test of another that holds exactly where it does.
pub decides : {P Q : Type 0} (r : Bool) → (P → Q) → (Q → P) → Decides r P → Decides r Q
decides true f g d = f d
decides false f g d = λ q. d (g q)

-- What a test decides, by its answer.
pub holds : (P : Type 0) (r : Bool) → Decides r P → r ≡ true → P
holds P r d e = subst (λ (x : Bool). Decides x P) e d

pub fails : (P : Type 0) (r : Bool) → Decides r P → r ≡ false → ¬ P
fails P r d e = subst (λ (x : Bool). Decides x P) e d

-- Words at an offset that is written otherwise.
moved : (n : ℕ) (t : List ℕ) (i j : ℕ) → i ≡ j → words_at n t i ≡ words_at n t j
moved n t i j e = ap (words_at n t) e

abbrev content : ℕ → Name → List ℕ → RowContent
content k d w = record { kind = k; digits = d; fields = w }

-- Of a row's words: the kind always counts, a universe's digits stand for its start and length, and the last word does not count.
module _ (s : List ℕ) (k : ℕ) (w : List ℕ) where
  abbrev by_digits : RowContent
  by_digits = content k (part s (get_or w 0 0) (get_or w 1 0)) (0 ∷ 0 ∷ drop 2 (take 6 w))

  abbrev by_words : RowContent
  by_words = content k [] (take 6 w)

  content_kind : (row_content s (k ∷ w)).kind ≡ k
  content_kind = go (eqb k universe)
    where
      go : (b : Bool) → (cond b by_digits by_words).kind ≡ k
      go true = refl
      go false = refl

  content_plain : ¬ (k ≡ universe) → row_content s (k ∷ w) ≡ by_words
  content_plain h = ap (λ (b : Bool). cond b by_digits by_words) (ne_eqb k universe h)

  content_universe : k ≡ universe → row_content s (k ∷ w) ≡ by_digits
  content_universe h = ap (λ (b : Bool). cond b by_digits by_words) (eq-eqb k universe h)

module _ (s core₁ t core₂ : List ℕ) (i : ℕ) where
  abbrev at : ℕ
  at = i * 8

  pub row_kinds : ¬ (get_or core₁ at 0 ≡ get_or core₂ at 0) → ¬ SameRow s core₁ t core₂ i
  unfolding SameRow
  row_kinds d e = d (sym (content_kind s (get_or core₁ at 0) (words_at 7 core₁ (at + 1))) ∙ ap (λ (r : RowContent). r.kind) e ∙ content_kind t (get_or core₂ at 0) (words_at 7 core₂ (at + 1)))

  module _ (e : get_or core₁ at 0 ≡ get_or core₂ at 0) where
    pub row_plain : ¬ (get_or core₁ at 0 ≡ universe) → (r : Bool) → Decides r (words_at 6 core₁ (at + 1) ≡ words_at 6 core₂ (at + 1)) → Decides r (SameRow s core₁ t core₂ i)
    unfolding SameRow
    row_plain p r d =
        let x = content_plain s (get_or core₁ at 0) (words_at 7 core₁ (at + 1)) p in
        let y = content_plain t (get_or core₂ at 0) (words_at 7 core₂ (at + 1)) (λ q. p (e ∙ q)) in
        decides r
        (λ f. x ∙ (λ j. content (e j) [] (f j)) ∙ sym y)
        (λ f. ap (λ (c : RowContent). c.fields) (sym x ∙ f ∙ y))
        d

    module _ (u : get_or core₁ at 0 ≡ universe) where
      as_one : row_content s (row_at core₁ i) ≡ content (get_or core₁ at 0) (atom_at s core₁ (at + 1)) (0 ∷ 0 ∷ words_at 4 core₁ (at + 3))
      as_one =
          content_universe s (get_or core₁ at 0) (words_at 7 core₁ (at + 1)) u
          ∙ ap (λ (w : List ℕ). content (get_or core₁ at 0) (atom_at s core₁ (at + 1)) (0 ∷ 0 ∷ w)) (moved 4 core₁ (at + 1 + 1 + 1) (at + 3) (omega arith))

      as_other : row_content t (row_at core₂ i) ≡ content (get_or core₂ at 0) (atom_at t core₂ (at + 1)) (0 ∷ 0 ∷ words_at 4 core₂ (at + 3))
      as_other =
          content_universe t (get_or core₂ at 0) (words_at 7 core₂ (at + 1)) (sym e ∙ u)
          ∙ ap (λ (w : List ℕ). content (get_or core₂ at 0) (atom_at t core₂ (at + 1)) (0 ∷ 0 ∷ w)) (moved 4 core₂ (at + 1 + 1 + 1) (at + 3) (omega arith))

      module _ (q : Bool) (o : Decides q (atom_at s core₁ (at + 1) ≡ atom_at t core₂ (at + 1))) where
        pub row_digits : q ≡ false → ¬ SameRow s core₁ t core₂ i
        unfolding SameRow
        row_digits n f = fails (atom_at s core₁ (at + 1) ≡ atom_at t core₂ (at + 1)) q o n (ap (λ (c : RowContent). c.digits) (sym as_one ∙ f ∙ as_other))

        pub row_universe : q ≡ true → (r : Bool) → Decides r (words_at 4 core₁ (at + 3) ≡ words_at 4 core₂ (at + 3)) → Decides r (SameRow s core₁ t core₂ i)
        unfolding SameRow
        row_universe y r d =
            let a = holds (atom_at s core₁ (at + 1) ≡ atom_at t core₂ (at + 1)) q o y in
            decides r
            (λ f. as_one ∙ (λ j. content (e j) (a j) (0 ∷ 0 ∷ f j)) ∙ sym as_other)
            (λ f. ap (λ (c : RowContent). drop 2 c.fields) (sym as_one ∙ f ∙ as_other))
            d

module _ (s declarations₁ t declarations₂ : List ℕ) (k : ℕ) where
  abbrev from : ℕ
  from = k * 5

  pub record_kinds : ¬ (get_or declarations₁ from 0 ≡ get_or declarations₂ from 0) → ¬ SameRecord s declarations₁ t declarations₂ k
  unfolding SameRecord
  record_kinds d e = d (ap (λ (r : RecordContent). r.kind) e)

  module _ (q : Bool) (o : Decides q (atom_at s declarations₁ (from + 1) ≡ atom_at t declarations₂ (from + 1))) where
    pub record_names : q ≡ false → ¬ SameRecord s declarations₁ t declarations₂ k
    unfolding SameRecord
    record_names n e = fails (atom_at s declarations₁ (from + 1) ≡ atom_at t declarations₂ (from + 1)) q o n (ap (λ (r : RecordContent). r.name) e)

    pub record_rows : get_or declarations₁ from 0 ≡ get_or declarations₂ from 0 → q ≡ true → (r : Bool)
        → Decides r (words_at 2 declarations₁ (from + 3) ≡ words_at 2 declarations₂ (from + 3)) → Decides r (SameRecord s declarations₁ t declarations₂ k)
    unfolding SameRecord
    record_rows e n r d =
        let a = holds (atom_at s declarations₁ (from + 1) ≡ atom_at t declarations₂ (from + 1)) q o n in
        let p : from + 1 + 1 + 1 ≡ from + 3 = omega arith in
        let x = moved 2 declarations₁ (from + 1 + 1 + 1) (from + 3) p in
        let y = moved 2 declarations₂ (from + 1 + 1 + 1) (from + 3) p in
        decides r
        (λ f. let g = x ∙ f ∙ sym y in λ j. record { kind = e j; name = a j; rows = g j })
        (λ f. sym x ∙ ap (λ (c : RecordContent). c.rows) f ∙ y)
        d
