-- Tables that hold two modules are the same up to a place exactly if the modules agree up to it.
use Prim.Native.Nat.{ℕ, zero, suc, ◌≤◌, ◌<◌}
use mathlib.Core.Path.{◌≡◌, refl, sym, ap, ◌∙◌, subst}
use mathlib.Core.List.{List, [], ◌∷◌}
use mathlib.Core.Bool.{true}
use native.Mathlib.Decide.{dec_lt}
use native.Mathlib.Omega.{arith}
use lib.ListN.{length, get_or, take, length-take}
use lib.Seq.{take-length, length-take-le, ext_get_or}
use Rattle.std.specs.Prelude.{Option, Some, None}
use Rattle.rows.specs.DeclarationRows.{first_row}
use Rattle.terms.specs.Label.{NamedDeclaration}
use Rattle.terms.specs.Content.{RowContent, RecordContent}
use Rattle.terms.specs.Agreement.{AgreeModule}
use Rattle.terms.proofs.NamedModule.{ShapedModule, cores, resolves, rows_of}
use Rattle.terms.proofs.SameContents.{SameContents, same_contents}
use Rattle.same.specs.Comparison.{PartAt}
use Rattle.same.specs.inner.Contents.{SameRow, SameRecord, SameBefore, FirstDifferent, Compared}
use Rattle.same.proofs.Prefixes.{no_record, take_shaped, take_resolves, length_records, behind_of}
use Rattle.same.proofs.ModuleTables.{no_row, Hold, hold_first, behind_is, first_row_is}

-- A source's tables, and the module that they hold.
pub record Side (s core declarations : List ℕ) (l : List NamedDeclaration) : Type 0 where
  pub holds : Hold s core declarations l
  pub shaped : ShapedModule l
  pub resolves : resolves [] l ≡ true

pub side_first : (s core declarations : List ℕ) (l : List NamedDeclaration) → Side s core declarations l → (k : ℕ) → k ≤ length l → Side s core declarations (take k l)
side_first s core declarations l h k p = record {
  holds = hold_first s core declarations l h.holds k p;
  shaped = take_shaped k l h.shaped;
  resolves = take_resolves k [] l h.resolves;
}

-- As many rows as the first row behind the module has before it.
all_rows : (s core declarations : List ℕ) (l : List NamedDeclaration) → Side s core declarations l → first_row declarations (length l) ≡ length (rows_of 0 (cores [] l))
all_rows s core declarations l h =
    first_row_is s core declarations l h.holds h.shaped (length l) (omega arith)
    ∙ ap (λ (x : List NamedDeclaration). length (rows_of 0 (cores [] x))) (take-length l)

module _ (s core₁ declarations₁ t core₂ declarations₂ : List ℕ) where
  abbrev Before : ℕ → Type 0
  Before = SameBefore s core₁ declarations₁ t core₂ declarations₂

  module _ (l m : List NamedDeclaration) (h : Side s core₁ declarations₁ l) (j : Side t core₂ declarations₂ m) where
    -- Equal records give equal numbers of rows.
    same_first : (k : ℕ) → ((i : ℕ) → i < k → SameRecord s declarations₁ t declarations₂ i) → first_row declarations₁ k ≡ first_row declarations₂ k
    unfolding SameRecord first_row
    same_first zero r = refl
    same_first (suc k) r =
        behind_is s core₁ declarations₁ l h.holds k ∙ ap behind_of (r k (omega arith)) ∙ sym (behind_is t core₂ declarations₂ m j.holds k)

    contents_to : length l ≡ length m → Before (length l) → SameContents l m
    unfolding SameRow SameRecord
    contents_to e b = record {
      same_rows =
          let n : length (rows_of 0 (cores [] l)) ≡ length (rows_of 0 (cores [] m)) =
          sym (all_rows s core₁ declarations₁ l h) ∙ same_first (length l) b.records ∙ ap (first_row declarations₂) e ∙ all_rows t core₂ declarations₂ m j in
          ext_get_or no_row _ _ n (λ i p.
          sym (h.holds.rows i p) ∙ b.rows i (omega (arith, all_rows s core₁ declarations₁ l h)) (omega arith) ∙ j.holds.rows i (omega arith));
      same_records =
          ext_get_or no_record _ _ (length_records 0 [] l ∙ e ∙ sym (length_records 0 [] m)) (λ k p.
          let q : k < length l = omega (arith, length_records 0 [] l) in
          sym (h.holds.records k q) ∙ b.records k q ∙ j.holds.records k (omega arith));
    }

    contents_from : length l ≡ length m → SameContents l m → Before (length l)
    unfolding SameRow SameRecord
    contents_from e c = record {
      records = λ k p. h.holds.records k p ∙ ap (λ (r : List RecordContent). get_or r k no_record) c.same_records ∙ sym (j.holds.records k (omega arith));
      rows = λ i p q.
          let o : i < length (rows_of 0 (cores [] l)) = omega (arith, all_rows s core₁ declarations₁ l h) in
          h.holds.rows i o ∙ ap (λ (r : List RowContent). get_or r i no_row) c.same_rows ∙ sym (j.holds.rows i (omega (arith, ap length c.same_rows)));
    }

    agree_to : length l ≡ length m → Before (length l) → AgreeModule l m
    agree_to e b = (same_contents l m h.shaped j.shaped h.resolves j.resolves).0 (contents_to e b)

    agree_from : length l ≡ length m → AgreeModule l m → Before (length l)
    agree_from e a = contents_from e ((same_contents l m h.shaped j.shaped h.resolves j.resolves).1 a)

  agree_length : (l m : List NamedDeclaration) → AgreeModule l m → length l ≡ length m
  agree_length [] [] a = refl
  agree_length [] (e ∷ m) a = absurd a
  agree_length (d ∷ l) [] a = absurd a
  agree_length (d ∷ l) (e ∷ m) a = ap suc (agree_length l m a.1)

  part_at : (k : ℕ) (l m : List NamedDeclaration) → AgreeModule (take k l) (take k m) → ¬ AgreeModule (take (suc k) l) (take (suc k) m) → PartAt k l m
  part_at zero [] [] a n = n tt
  part_at zero [] (e ∷ m) a n = tt
  part_at zero (d ∷ l) [] a n = tt
  part_at zero (d ∷ l) (e ∷ m) a n = λ q. n (q, tt)
  part_at (suc k) [] [] a n = n tt
  part_at (suc k) [] (e ∷ m) a n = absurd a
  part_at (suc k) (d ∷ l) [] a n = absurd a
  part_at (suc k) (d ∷ l) (e ∷ m) a n = (a.0, part_at k l m a.1 (λ q. n (a.0, q)))

  module _ (l m : List NamedDeclaration) (h : Side s core₁ declarations₁ l) (j : Side t core₂ declarations₂ m) where
    module _ (k : ℕ) (p : k ≤ length l) (q : k ≤ length m) where
      same_lengths : length (take k l) ≡ length (take k m)
      same_lengths = length-take-le k l p ∙ sym (length-take-le k m q)

      first_agree : Before k → AgreeModule (take k l) (take k m)
      first_agree b =
          agree_to (take k l) (take k m) (side_first s core₁ declarations₁ l h k p) (side_first t core₂ declarations₂ m j k q) same_lengths
          (subst Before (sym (length-take-le k l p)) b)

      first_same : AgreeModule (take k l) (take k m) → Before k
      first_same a =
          subst Before (length-take-le k l p)
          (agree_from (take k l) (take k m) (side_first s core₁ declarations₁ l h k p) (side_first t core₂ declarations₂ m j k q) same_lengths a)

    parts : (k : ℕ) → FirstDifferent s core₁ declarations₁ t core₂ declarations₂ (length l) (length m) k → ¬ ((k ≡ length l) × (k ≡ length m)) → PartAt k l m
    parts k f n = part_at k l m (first_agree k f.within_first f.within_second f.before) next
      where
        next : ¬ AgreeModule (take (suc k) l) (take (suc k) m)
        next a =
            let e = sym (length-take (suc k) l) ∙ agree_length (take (suc k) l) (take (suc k) m) a ∙ length-take (suc k) m in
            elim (dec_lt k (length l)) [
              | yes p ↦ f.there p (omega (arith, e)) (first_same (suc k) (omega arith) (omega (arith, e)) a)
              | no p ↦ n (omega (arith, f.within_first), omega (arith, e, f.within_first, f.within_second))
            ]

    -- What comparing the tables answers is so of the modules.
    abbrev pub CompareModules : Option ℕ → Type 0
    CompareModules None = AgreeModule l m
    CompareModules (Some k) = PartAt k l m

    pub modules_compared : (a : Option ℕ) → Compared s core₁ declarations₁ t core₂ declarations₂ (length l) (length m) a → CompareModules a
    modules_compared None c = agree_to l m h j c.0 c.1
    modules_compared (Some k) c = parts k c.0 c.1
