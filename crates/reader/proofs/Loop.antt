-- The loop over declarations: the answer for those that are left is the answer for all.
use Rattle.reader.specs.Answers.{DeclarationsRead, Stepped, declarations_read, declaration_step, end_step}
use Rattle.std.specs.Prelude.{Err}
use mathlib.Core.Path.{◌≡◌, refl, ◌∙◌, subst}
use mathlib.Core.List.{List}
use Prim.Native.Nat.{ℕ, ◌+◌, ◌≤◌, ◌<◌, max}
use native.Mathlib.Omega.{arith}
use lib.ListN.{length}
use Rattle.token.specs.declared.Refusal.{Refusal}
use Rattle.expects.specs.declared.Format.{Format}
use Rattle.reader.specs.declared.Limits.{Limits}
use Rattle.reader.specs.Parts.{ReadsFrom, left, ModuleStepped, HasRoom}
use Rattle.reader.specs.Reads.{ModuleInside}

module _ (format : Format) (limits : Limits) (s table₀ list₀ work₀ : List ℕ) (from : ℕ) where
  -- The answer for all declarations.
  abbrev Answers : DeclarationsRead → List ℕ → List ℕ → Type 0
  Answers r table list = ReadsFrom format limits 0 0 0 (left format limits s from 0 0) table₀ list₀ r table list

  pub record Reading (table list work : List ℕ) (at n k h : ℕ) : Type 0 where
    pub table_long : length table ≡ length table₀
    pub list_long : length list ≡ length list₀
    pub work_long : length work ≡ length work₀
    pub few : k ≤ limits.declarations
    pub inside : ModuleInside limits.rows s work₀ from 0 → ModuleInside limits.rows s work at n
    pub same : ModuleInside limits.rows s work₀ from 0 → (r : DeclarationsRead) (table₁ list₁ : List ℕ) → ReadsFrom format limits n k h (left format limits s at n k) table list r table₁ list₁ → Answers r table₁ list₁

  pub start : Reading table₀ list₀ work₀ from 0 0 0
  start = record { table_long = refl; list_long = refl; work_long = refl; few = omega arith; inside = λ i. i; same = λ i r table₁ list₁ h. h }

  module _ (table list work : List ℕ) (at n k top : ℕ) (o : Reading table list work at n k top) (x : Stepped) (table₁ list₁ work₁ : List ℕ)
      (g : ModuleInside limits.rows s work at n → k ≤ limits.declarations → ModuleStepped format limits s table list at n k x table₁ list₁ work₁) where
    stepped : (y : Stepped) → x ≡ y → ModuleInside limits.rows s work₀ from 0 → ModuleStepped format limits s table list at n k y table₁ list₁ work₁
    stepped y e i = subst (λ (z : Stepped). ModuleStepped format limits s table list at n k z table₁ list₁ work₁) e (g (o.inside i) o.few)

    pub roomy : HasRoom limits k x → (n₁ at₁ own : ℕ) → x ≡ declaration_step n₁ at₁ own → k < limits.declarations
    roomy h n₁ at₁ own e = rw e at h

    pub next : HasRoom limits k x → (u : length table₁ ≡ length table) (v : length list₁ ≡ length list) (w : length work₁ ≡ length work)
        → (n₁ at₁ own top₁ : ℕ) → x ≡ declaration_step n₁ at₁ own → top₁ ≡ max top own → Reading table₁ list₁ work₁ at₁ n₁ (k + 1) top₁
    next h u v w n₁ at₁ own top₁ e q = record {
      table_long = u ∙ o.table_long;
      list_long = v ∙ o.list_long;
      work_long = w ∙ o.work_long;
      few = omega (arith, roomy h n₁ at₁ own e);
      inside = λ i. (stepped (declaration_step n₁ at₁ own) e i).inside;
      same = λ i r table₂ list₂ a. o.same i r table₂ list₂ ((stepped (declaration_step n₁ at₁ own) e i).same top r table₂ list₂
          (subst (λ (j : ℕ). ReadsFrom format limits n₁ (k + 1) j (left format limits s at₁ n₁ (k + 1)) table₁ list₁ r table₂ list₂) q a));
    }

    pub ended : (at₁ : ℕ) → x ≡ end_step at₁ → ModuleInside limits.rows s work₀ from 0 → Answers (declarations_read n k at₁ top) table₁ list₁
    ended at₁ e i = o.same i _ _ _ (stepped (end_step at₁) e i top)

    pub stopped : (r : Refusal) → x ≡ Err r → ModuleInside limits.rows s work₀ from 0 → Answers (Err r) table₁ list₁
    stopped r e i = o.same i _ _ _ (rw (stepped (Err r) e i) refl)
