-- The canonical reader takes exactly the texts that are their own print.
use Rattle.token.specs.declared.Class.{Class}
use Rattle.std.specs.Prelude.{Err}
use mathlib.Core.Path.{◌≡◌, refl, sym, ap, ◌∙◌, subst}
use mathlib.Core.Logic.{◌↔◌, ◌⊎◌, inl, inr}
use mathlib.Core.Bool.{Bool, true, false}
use mathlib.Core.List.{List, map}
use Prim.Native.Nat.{ℕ}
use native.Mathlib.Omega.{arith}
use lib.ListN.{length}
use Rattle.token.specs.declared.Refusal.{Refusal}
use Rattle.words.specs.Words.{same_bytes}
use Rattle.words.proofs.Names.{eq_same, same_eq}
use Rattle.terms.specs.Label.{Declaration}
use Rattle.surface.specs.Answer.{Answer}
use Rattle.surface.specs.Reader.{Position, start, Result, done, refused, after, pure, require, nowhere}
use Rattle.surface.specs.Tables.{Lengths, Tables, lengths, leaves}
use Rattle.surface.specs.Loading.{Outcome}
use Rattle.surface.specs.SameCore.{Accepts}
use Rattle.surface.proofs.Steps.{after_elim, require_elim, done_as}
use Rattle.surface.proofs.Takes.{after_go, require_go}
use Rattle.printing.specs.Printing.{print_module}
use Rattle.core_module.specs.CoreText.{spelled_text, reading_text, reading_canonical, text_outcome, read_core, read_canonical}
use Rattle.core_module.specs.Statements.{OwnPrint, CanonicalExactly}

pub canonical_reads : (t : List ℕ) (z : Lengths) (ds : List Declaration) (q : Position)
    → (reading_canonical t z start ≡ done ds q) ↔ ((reading_text t z start ≡ done ds q) × (t ≡ print_module (map (spelled_text t) ds)))
unfolding reading_canonical
canonical_reads t z ds q = (
  λ e. after_elim (reading_text t z start) _ ds q e (λ es p f e₁.
      require_elim _ _ p _ ds q e₁ (λ g e₂.
      done_as (λ xs x. (reading_text t z start ≡ done xs x) × (t ≡ print_module (map (spelled_text t) xs))) e₂ (f, same_eq t (print_module (map (spelled_text t) es)) g))),
  λ h. after_go _ _ ds q _ h.0 (require_go _ _ q _ _ (eq_same t (print_module (map (spelled_text t) ds)) h.1) refl),
)

module _ (t : List ℕ) (z : Lengths) where
  -- What an accepted text is, and what reading it leaves.
  record Accepted (o : Outcome) : Type 0 where
    own : OwnPrint t z
    same : o ≡ text_outcome z (reading_text t z start)

  accepted : (o : Result (List Declaration)) → reading_canonical t z start ≡ o → Accepts (text_outcome z o) → Accepted (text_outcome z o)
  accepted (done ds q) e a =
      let h = (canonical_reads t z ds q).0 e in
      record { own = record { declarations = ds; position = q; reads = h.0; printed = h.1 }; same = ap (text_outcome z) (sym h.0) }
  accepted (refused r) e a = absurd (let f = a.2 in let n : ◌≡◌ {A = ℕ} 0 1 = cc in omega arith)

  accepts : OwnPrint t z → Accepts (text_outcome z (reading_canonical t z start))
  accepts w =
      subst (λ (o : Result (List Declaration)). Accepts (text_outcome z o)) (sym ((canonical_reads t z w.declarations w.position).1 (w.reads, w.printed)))
      (w.position.rows, length w.declarations, refl)

  -- A test behind reading, and the refusal where it fails.
  refuses : (test : List Declaration → Bool) (o : Result (List Declaration)) (r : Refusal) (left : Tables)
      → leaves (Err r) left ≡ text_outcome z (after o (λ ds p. after (require (test ds) (nowhere Class.CoreText) p) (λ _. pure ds)))
      → (leaves (Err r) left ≡ text_outcome z o) ⊎ ((r ≡ nowhere Class.CoreText) × Accepts (text_outcome z o))
  refuses test (refused x) r left e = inl e
  refuses test (done ds p) r left e = go (test ds) e
    where
      go : (b : Bool) → leaves (Err r) left ≡ text_outcome z (after (require b (nowhere Class.CoreText) p) (λ _. pure ds))
          → (leaves (Err r) left ≡ text_outcome z (done ds p)) ⊎ ((r ≡ nowhere Class.CoreText) × Accepts (text_outcome z (done ds p)))
      go true e = inl e
      go false e = let f = ap (λ (o : Outcome). o.answer) e in inr (cc, (p.rows, length ds, refl))

  refused_as : (a : Answer) (left : Tables) → leaves a left ≡ text_outcome z (reading_canonical t z start) → (r : Refusal) → a ≡ Err r
      → (leaves a left ≡ text_outcome z (reading_text t z start)) ⊎ ((r ≡ nowhere Class.CoreText) × Accepts (text_outcome z (reading_text t z start)))
  unfolding reading_canonical
  refused_as a left e r f =
      let i = ap (λ (x : Answer). leaves x left) f in
      subst (λ (x : Outcome). (x ≡ text_outcome z (reading_text t z start)) ⊎ ((r ≡ nowhere Class.CoreText) × Accepts (text_outcome z (reading_text t z start)))) (sym i)
      (refuses (λ ds. same_bytes t (print_module (map (spelled_text t) ds))) (reading_text t z start) r left (sym i ∙ e))

pub canonical_exactly : CanonicalExactly
unfolding read_core read_canonical
canonical_exactly t before a left e =
    let z = lengths before in
    let go = accepted t z (reading_canonical t z start) refl in
    ((λ h. (go (subst Accepts e h)).own, λ w. subst Accepts (sym e) (accepts t z w)), λ h. e ∙ (go (subst Accepts e h)).same, refused_as t z a left e)
