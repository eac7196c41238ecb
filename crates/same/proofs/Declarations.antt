-- Declarations that are the same in two pairs of tables, one after the other.
use Prim.Native.Nat.{ℕ, suc, min, ◌+◌, ◌*◌, ◌≤◌, ◌<◌}
use mathlib.Core.Path.{◌≡◌, sym, subst₂}
use mathlib.Core.List.{List}
use mathlib.Core.Bool.{Bool, true, false}
use native.Mathlib.Omega.{arith}
use native.Mathlib.Decide.{dec_lt}
use native.Mathlib.Numerals.{add-one}
use lib.ListN.{get_or}
use borrow.Author.Count.{below_more}
use Rattle.rows.specs.DeclarationRows.{row_behind, first_row}
use Rattle.same.specs.inner.Contents.{Decides, SameRows, SameRecord, SameDeclaration, SameBefore, FirstDifferent}
use Rattle.same.proofs.Contents.{decides, holds, fails}

module _ (s core₁ declarations₁ t core₂ declarations₂ : List ℕ) where
  abbrev Declared : ℕ → Type 0
  Declared = SameDeclaration s core₁ declarations₁ t core₂ declarations₂

  abbrev Before : ℕ → Type 0
  Before = SameBefore s core₁ declarations₁ t core₂ declarations₂

  -- What the tests of its record and of its rows say of a declaration.
  module _ (k : ℕ) (q : Bool) (o : Decides q (SameRecord s declarations₁ t declarations₂ k)) where
    pub declaration_no : q ≡ false → ¬ Declared k
    declaration_no n d = fails (SameRecord s declarations₁ t declarations₂ k) q o n d.records

    pub declaration_by_rows : q ≡ true → (from to : ℕ) → from ≡ first_row declarations₁ k → to ≡ row_behind declarations₁ k
        → (r : Bool) → Decides r (SameRows s core₁ t core₂ from to) → Decides r (Declared k)
    declaration_by_rows y from to e f r d =
        decides r
        (λ h. record {
          records = holds (SameRecord s declarations₁ t declarations₂ k) q o y;
          rows = subst₂ (SameRows s core₁ t core₂) e f h;
        })
        (λ h. subst₂ (SameRows s core₁ t core₂) (sym e) (sym f) h.rows)
        d

  pub none_before : Before 0
  unfolding first_row
  none_before = record { records = λ j h. absurd (omega arith); rows = λ n h l. absurd (omega arith) }

  one_more : (k : ℕ) → Before k → Declared k → Before (suc k)
  unfolding first_row
  one_more k b d = record {
    records = λ j h. below_more (SameRecord s declarations₁ t declarations₂) k b.records d.records j (omega arith);
    rows = λ n h l. elim (dec_lt n (first_row declarations₁ k)) [
      | yes p ↦ b.rows n p l
      | no p ↦ d.rows n h (omega arith)
    ];
  }

  one_less : (k : ℕ) → Before (suc k) → Declared k
  unfolding first_row
  one_less k b = record { records = b.records k (omega arith); rows = λ n h l. b.rows n h (omega arith) }

  -- All of the shorter list is the same.
  pub all_same : (m n k : ℕ) → k ≡ min m n → Before k → FirstDifferent s core₁ declarations₁ t core₂ declarations₂ m n k
  all_same m n k e b = record { within_first = omega arith; within_second = omega arith; before = b; there = λ p q. absurd (omega arith) }

  -- The walk over the declarations: those before k are the same.
  module _ (m n k : ℕ) (h : k ≤ m) (i : k ≤ n) (b : Before k) where
    module _ (r : Bool) (d : Decides r (Declared k)) where
      pub differs : r ≡ false → FirstDifferent s core₁ declarations₁ t core₂ declarations₂ m n k
      differs e = record { within_first = h; within_second = i; before = b; there = λ p q c. fails (Declared k) r d e (one_less k c) }

      pub goes_on : r ≡ true → Before (k + 1)
      goes_on e = rw add-one (one_more k b (holds (Declared k) r d e))

-- Rows are numbered by words of 32 bits.
pub behind_small : (declarations : List ℕ) (k : ℕ) → ((i : ℕ) → get_or declarations i 0 < 4294967296) → row_behind declarations k ≤ 4294967296
unfolding row_behind
behind_small declarations k h = omega (arith, h (k * 5 + 3), h (k * 5 + 4))
