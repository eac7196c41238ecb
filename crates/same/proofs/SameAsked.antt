-- What a call of `same` promises, from what its calls of `load` leave.
use Rattle.std.specs.Prelude.{Err}
use Prim.Native.Nat.{ℕ}
use mathlib.Core.Path.{◌≡◌, refl, sym, ap, ◌∙◌, subst₂}
use mathlib.Core.List.{List, []}
use lib.ListN.{length}
use Rattle.std.specs.Prelude.{Option, Ok, Err, Some, None}
use Rattle.token.specs.declared.Refusal.{Refusal}
use Rattle.tables.specs.Tables.{cleared}
use Rattle.terms.specs.Rows.{pad}
use Rattle.surface.specs.Answer.{Answer, loaded}
use Rattle.surface.specs.Loading.{Lengths, Outcome, load}
use Rattle.loader.specs.Leaving.{lengths_of, leaving}
use Rattle.loader.proofs.Cleared.{cleared_whole}
use Rattle.same.specs.declared.Unloaded.{Unloaded}
use Rattle.same.specs.Answer.{Comparison}
use Rattle.same.specs.Comparison.{Compares, SameAnswers, Tables, tables, blank, left, SameAsked}
use Rattle.same.specs.inner.Contents.{Compared}
use Rattle.same.proofs.SameModules.{CompareModules, modules_compared}
use Rattle.same.proofs.Loaded.{load_work, load_refused, Accepted, accepted}

-- The answer for two sources that are loaded.
module _ (s t core₁ declarations₁ core₂ declarations₂ : List ℕ) (m n : ℕ) (x : Accepted s core₁ declarations₁ m) (y : Accepted t core₂ declarations₂ n) where
  compares : (a : Option ℕ) → CompareModules s core₁ declarations₁ t core₂ declarations₂ _ _ x.side y.side a → Compares s t (Ok a)
  compares None h = record {
    one = x.module_read;
    other = y.module_read;
    one_derives = x.derives;
    other_derives = y.derives;
    agree = h;
  }
  compares (Some k) h = record {
    one = x.module_read;
    other = y.module_read;
    one_derives = x.derives;
    other_derives = y.derives;
    part = h;
  }

  pub compared : (a : Option ℕ) → Compared s core₁ declarations₁ t core₂ declarations₂ m n a → Compares s t (Ok a)
  compared a h =
      compares a (modules_compared s core₁ declarations₁ t core₂ declarations₂ _ _ x.side y.side a
      (subst₂ (λ (i j : ℕ). Compared s core₁ declarations₁ t core₂ declarations₂ i j a) (sym x.count) (sym y.count) h))

-- The promise, by the answers of the two loads.
abbrev Promise : List ℕ → List ℕ → Lengths → Lengths → Answer → Answer → Comparison → Tables → Tables → Type 0
Promise s t y z b c a x w = SameAnswers s t b c a × (x ≡ left y (load s y) b c) × (w ≡ left z (load t z) b c)

promised : (s t : List ℕ) (y z : Lengths) (b c : Answer) (a : Comparison) (x w : Tables)
    → (load s y).answer ≡ b → (load t z).answer ≡ c → Promise s t y z b c a x w → SameAsked s t y z a x w
promised s t y z b c a x w e f p =
    let q = subst₂ (λ (b c : Answer). Promise s t y z b c a x w) (sym e) (sym f) p in
    record { answers = q.0; first_left = q.1; second_left = q.2 }

-- Tables that were cleared.
clear_all : (a b c w surface core declarations : List ℕ) (z : Lengths)
    → a ≡ cleared surface 0 → b ≡ cleared core 0 → c ≡ cleared declarations 0 → w ≡ pad z.work []
    → length surface ≡ z.surface → length core ≡ z.core → length declarations ≡ z.declarations → tables a b c w ≡ blank z
clear_all a b c w surface core declarations z e f g h i j k =
    let p = e ∙ cleared_whole surface ∙ ap (λ (n : ℕ). pad n []) i in
    let q = f ∙ cleared_whole core ∙ ap (λ (n : ℕ). pad n []) j in
    let r = g ∙ cleared_whole declarations ∙ ap (λ (n : ℕ). pad n []) k in
    λ o. tables (p o) (q o) (r o) (h o)

module _ (s t surface₁ core₁ declarations₁ surface₂ core₂ declarations₂ work : List ℕ) where
  abbrev y : Lengths
  y = lengths_of surface₁ core₁ declarations₁ work

  abbrev z : Lengths
  z = lengths_of surface₂ core₂ declarations₂ work

  -- After the first load.
  module _ (b : Answer) (surface₃ core₃ declarations₃ work₃ : List ℕ) (e : leaving b surface₃ core₃ declarations₃ work₃ ≡ load s y) where
    one_answer : (c : Answer) → b ≡ c → (load s y).answer ≡ c
    one_answer c f = ap (λ (o : Outcome). o.answer) (sym e) ∙ f

    work_clear : work₃ ≡ pad (length work) []
    work_clear = ap (λ (o : Outcome). o.tables.work) e ∙ load_work s y

    pub asked_first : (r : Refusal) → b ≡ Err r → (surface₄ core₄ declarations₄ : List ℕ)
        → surface₄ ≡ cleared surface₂ 0 → core₄ ≡ cleared core₂ 0 → declarations₄ ≡ cleared declarations₂ 0
        → SameAsked s t y z (Err (Unloaded.First r)) (tables surface₃ core₃ declarations₃ work₃) (tables surface₄ core₄ declarations₄ work₃)
    asked_first r f surface₄ core₄ declarations₄ g h i =
        promised s t y z (Err r) (load t z).answer _ _ _ (one_answer (Err r) f) refl (
          refl,
          ap (λ (o : Outcome). o.tables) e ∙ load_refused s y r (one_answer (Err r) f),
          clear_all surface₄ core₄ declarations₄ work₃ surface₂ core₂ declarations₂ z g h i work_clear refl refl refl,
        )

    -- After the second.
    module _ (m n : ℕ) (f : b ≡ loaded m n) (c : Answer) (surface₄ core₄ declarations₄ work₄ : List ℕ)
        (k : length work₃ ≡ length work) (g : leaving c surface₄ core₄ declarations₄ work₄ ≡ load t (lengths_of surface₂ core₂ declarations₂ work₃)) where
      other : leaving c surface₄ core₄ declarations₄ work₄ ≡ load t z
      other = g ∙ ap (λ (i : ℕ). load t (record { surface = length surface₂; core = length core₂; declarations = length declarations₂; work = i })) k

      other_answer : (d : Answer) → c ≡ d → (load t z).answer ≡ d
      other_answer d h = ap (λ (o : Outcome). o.answer) (sym other) ∙ h

      work_clear_again : work₄ ≡ pad (length work) []
      work_clear_again = ap (λ (o : Outcome). o.tables.work) other ∙ load_work t z

      pub asked_second : (r : Refusal) → c ≡ Err r → (surface₅ core₅ declarations₅ : List ℕ)
          → length surface₃ ≡ length surface₁ → length core₃ ≡ length core₁ → length declarations₃ ≡ length declarations₁
          → surface₅ ≡ cleared surface₃ 0 → core₅ ≡ cleared core₃ 0 → declarations₅ ≡ cleared declarations₃ 0
          → SameAsked s t y z (Err (Unloaded.Second r)) (tables surface₅ core₅ declarations₅ work₄) (tables surface₄ core₄ declarations₄ work₄)
      asked_second r h surface₅ core₅ declarations₅ p q o u v w =
          promised s t y z (loaded m n) (Err r) _ _ _ (one_answer (loaded m n) f) (other_answer (Err r) h) (
            refl,
            clear_all surface₅ core₅ declarations₅ work₄ surface₃ core₃ declarations₃ y u v w work_clear_again p q o,
            ap (λ (o : Outcome). o.tables) other ∙ load_refused t z r (other_answer (Err r) h),
          )

      pub one_accepted : Accepted s core₃ declarations₃ n
      one_accepted = accepted s y m n surface₃ core₃ declarations₃ work₃ (ap (λ (d : Answer). leaving d surface₃ core₃ declarations₃ work₃) (sym f) ∙ e)

      pub asked_both : (o p : ℕ) → c ≡ loaded o p → (a : Option ℕ) → Compared s core₃ declarations₃ t core₄ declarations₄ n p a
          → SameAsked s t y z (Ok a) (tables surface₃ core₃ declarations₃ work₄) (tables surface₄ core₄ declarations₄ work₄)
      asked_both o p h a q =
          let x = accepted t z o p surface₄ core₄ declarations₄ work₄ (ap (λ (d : Answer). leaving d surface₄ core₄ declarations₄ work₄) (sym h) ∙ other) in
          promised s t y z (loaded m n) (loaded o p) (Ok a) _ _ (one_answer (loaded m n) f) (other_answer (loaded o p) h) (
            compared s t core₃ declarations₃ core₄ declarations₄ n p one_accepted x a q,
            ap (tables surface₃ core₃ declarations₃) (work_clear_again ∙ sym work_clear) ∙ ap (λ (o : Outcome). o.tables) e,
            ap (λ (o : Outcome). o.tables) other,
          )
