-- What is told of an answer whose report is known.
use mathlib.Core.Path.{◌≡◌, ap, ◌∙◌}
use mathlib.Core.List.{List}
use Prim.Native.Nat.{ℕ}
use Rattle.surface.specs.Reports.{Report}
use Rattle.surface.specs.Tables.{Left, leaves}
use Rattle.reports.specs.declared.Numbers.{Numbers}
use Rattle.reports.specs.Numbers.{numbers, words, told, tells, telling, Told}

-- By a definition.
pub by_definition : {A T : Type 0} (reported : A → Report) (n : ℕ) (x : Numbers) (answer : List ℕ) (number : ℕ) (answer₁ : List ℕ) (a : A) (t : T) (o : Left A T)
    → leaves a t ≡ o → x ≡ numbers (reported a) → (number ≡ x.number) × (answer₁ ≡ told n answer (words x)) → tells number answer₁ t ≡ telling reported n answer o
by_definition reported n x answer number answer₁ a t o h e k =
    (λ i. tells ((k.0 ∙ ap (λ (y : Numbers). y.number) e) i) ((k.1 ∙ ap (λ (y : Numbers). told n answer (words y)) e) i) t) ∙ ap (telling reported n answer) h

-- By a promise.
pub by_promise : {A : Type 0} {Promised : A → Type 0} {reported : A → Report} (n : ℕ) (x : Numbers) (answer : List ℕ) (number : ℕ) (answer₁ : List ℕ) (a : A)
    → Promised a → x ≡ numbers (reported a) → (number ≡ x.number) × (answer₁ ≡ told n answer (words x)) → Told Promised reported n answer number answer₁
by_promise n x answer number answer₁ a h e k = record {
  given = a;
  promised = h;
  number_told = k.0 ∙ ap (λ (y : Numbers). y.number) e;
  values_told = k.1 ∙ ap (λ (y : Numbers). told n answer (words y)) e;
}
