-- Whether a kind's row holds a span, in a source and in a core text.
use mathlib.Core.Path.{◌≡◌, sym, ◌∙◌, subst}
use mathlib.Core.Bool.{Bool}
use Prim.Native.Nat.{ℕ}
use Rattle.terms.specs.Forms.{edition_0_1, edition_0_2, holds_span, holds_span_in}
use Rattle.terms.specs.TextForms.{text_forms}
use Rattle.terms.proofs.Arrow.{holds_same}
use Rattle.core_text.specs.TextReading.{text_edition}
use Rattle.expects.specs.declared.Format.{Format}
use Rattle.expects.specs.Formats.{edition}
use Rattle.expects.proofs.Formats.{of_either}

module _ (f : Format) (kind : ℕ) (r : Bool) where
  pub source_holds : ¬ (f ≡ Format.Core01) → r ≡ holds_span kind → r ≡ holds_span_in (edition f).forms kind
  unfolding edition_0_1 edition_0_2
  source_holds q e = of_either (λ g. r ≡ holds_span_in (edition g).forms kind) (e ∙ sym (holds_same kind)) e f q

  pub text_holds : f ≡ Format.Core01 → r ≡ holds_span_in text_forms kind → r ≡ holds_span_in (edition f).forms kind
  unfolding text_edition
  text_holds q e = subst (λ (g : Format). r ≡ holds_span_in (edition g).forms kind) (sym q) e
