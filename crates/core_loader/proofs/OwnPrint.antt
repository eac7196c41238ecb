-- From reading a core text to reading one that must be its own print.
use Rattle.token.specs.declared.Class.{Class}
use Rattle.std.specs.Prelude.{Err}
use mathlib.Core.Path.{◌≡◌, refl, sym, ap, subst, ◌∙◌}
use mathlib.Core.Bool.{Bool, true, false, cond}
use mathlib.Core.List.{List}
use Prim.Native.Nat.{ℕ}
use Rattle.token.specs.declared.Refusal.{Refusal}
use Rattle.terms.specs.Label.{Declaration}
use Rattle.surface.specs.Answer.{Answer}
use Rattle.surface.specs.Reader.{Position, start, Result, done, refused, nowhere}
use Rattle.surface.specs.Tables.{Lengths}
use Rattle.core_layout.specs.inner.Layout.{canonical_layout}
use Rattle.core_layout.proofs.Canonical.{read_canonical_layout}
use Rattle.core_module.specs.CoreText.{reading_text, reading_canonical}
use Rattle.core_module.proofs.ReadRows.{is_text_read}
use Rattle.core_loader.specs.inner.Stored.{StoresText, CountsText, own_print}
use Rattle.core_loader.proofs.Stored.{stops}

module _ (t core list core₁ list₁ : List ℕ) (z : Lengths) (a b : Answer) (e : b ≡ cond (canonical_layout t) a (own_print a))
    (h : StoresText (reading_text t z start) a core₁ list₁) (n : CountsText a core list) where
  abbrev Stored : Type 0
  Stored = StoresText (reading_canonical t z start) b core₁ list₁ × CountsText b core list

  -- A refusal stays.
  kept : (c : Bool) (x : Refusal) → a ≡ Err x → cond c a (own_print a) ≡ Err x
  kept true x f = f
  kept false x f = ap own_print f

  by_layout : (ds : List Declaration) (q : Position) → reading_text t z start ≡ done ds q → StoresText (done ds q) a core₁ list₁ → (c : Bool) → canonical_layout t ≡ c → Stored
  unfolding reading_canonical
  by_layout ds q f g true l =
      let own = read_canonical_layout t _ _ _ ds q (is_text_read t z ds q f).reads ∙ l in
      let k : b ≡ a = e ∙ rw l in
      let accepted : reading_canonical t z start ≡ done ds q = rw (f, own) in (
        subst (λ (y : Result (List Declaration)). StoresText y b core₁ list₁) (sym accepted) (k ∙ g.0, g.1, g.2),
        subst (λ (y : Answer). CountsText y core list) (sym k) n,
      )
  by_layout ds q f g false l =
      let own = read_canonical_layout t _ _ _ ds q (is_text_read t z ds q f).reads ∙ l in
      let k : b ≡ Err (nowhere Class.CoreText) = e ∙ rw l (ap own_print g.0) in
      stops (reading_canonical t z start) core list core₁ list₁ b (nowhere Class.CoreText) (rw (f, own)) k

  by : (o : Result (List Declaration)) → reading_text t z start ≡ o → StoresText o a core₁ list₁ → Stored
  unfolding reading_canonical
  by (refused x) f g = stops (reading_canonical t z start) core list core₁ list₁ b x (rw f) (e ∙ kept (canonical_layout t) x g)
  by (done ds q) f g = by_layout ds q f g (canonical_layout t) refl

  pub own_stored : Stored
  own_stored = by (reading_text t z start) refl h
