-- Rows that are stored: of a reference, and of a form whose arguments are the values on top.
use Rattle.std.specs.Prelude.{Some}
use Prim.Native.Nat.{ℕ, zero, suc, ◌≤◌}
use mathlib.Core.Path.{◌≡◌, refl, sym, ◌∙◌, ap, subst}
use mathlib.Core.List.{List, [], ◌∷◌}
use mathlib.Core.Bool.{Bool, true, false}
use native.Mathlib.Omega.{arith}
use lib.ListN.{length, take}
use Rattle.terms.specs.Label.{Label}
use Rattle.terms.specs.Resolution.{Core, is_unknown}
use Rattle.terms.specs.Rows.{pad, core_words}
use Rattle.terms.proofs.Lookup.{as_core}
use Rattle.scope.specs.Scope.{referent_of}
use Rattle.scope.specs.declared.Referent.{Referent}
use Rattle.elaborate.specs.RowTerm.{six_at}
use Rattle.elaborate.specs.Machine.{RowDone, core_of_found}
use Rattle.elaborate.specs.declared.State.{State}

-- What was found is what resolution makes of it.
pub found_core : (r : Referent) → core_of_found r ≡ as_core (referent_of (Some r))
found_core (Referent.Local f) = refl
found_core (Referent.Global place) = refl

pub found_known : (r : Referent) → is_unknown (core_of_found r) ≡ false
found_known (Referent.Local f) = refl
found_known (Referent.Global place) = refl

module _ {id : ℕ} {core work : List ℕ} {st₁ : State} {core₁ work₁ : List ℕ} where
  pub row_as : {st : State} {words words' : List ℕ} → words ≡ words' → RowDone id words st core work st₁ core₁ work₁ → RowDone id words' st core work st₁ core₁ work₁
  row_as {st} e r = subst (λ (l : List ℕ). RowDone id l st core work st₁ core₁ work₁) e r

  pub reference_done : (l : Label) (st : State) (words : List ℕ) (x c : Core) → x ≡ c → is_unknown x ≡ false → words ≡ core_words l x []
      → RowDone id words st core work st₁ core₁ work₁ → (is_unknown c ≡ false) × RowDone id (core_words l c []) st core work st₁ core₁ work₁
  reference_done l st words x c e u w r = (ap is_unknown (sym e) ∙ u, row_as (w ∙ ap (λ (y : Core). core_words l y []) e) r)

pub take_pad : (m : ℕ) (l : List ℕ) (n : ℕ) → length l ≡ n → n ≤ m → take n (pad m l) ≡ l
take_pad m [] zero e h = refl
take_pad m [] (suc n) e h = absurd (omega arith)
take_pad m (x ∷ l) zero e h = absurd (omega arith)
take_pad zero (x ∷ l) (suc n) e h = absurd (omega arith)
take_pad (suc m) (x ∷ l) (suc n) e h = ap (λ (r : List ℕ). x ∷ r) (take_pad m l n (omega arith) (omega arith))

pub length_six : (t : List ℕ) (id : ℕ) (span : Bool) → length (six_at t id span) ≡ 6
unfolding six_at
length_six t id true = refl
length_six t id false = refl
