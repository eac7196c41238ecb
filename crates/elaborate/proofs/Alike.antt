-- Resolution looks at a label's kind and offset, and at its start and length only where the kind has a span.
use Prim.Native.Nat.{ℕ}
use mathlib.Core.Path.{◌≡◌, refl, sym, ◌∙◌, ap, ap₂}
use mathlib.Core.List.{List, [], ◌∷◌, ◌++◌}
use mathlib.Core.Option.{Option}
use mathlib.Core.Bool.{Bool, true, false, cond}
use native.Mathlib.Omega.{arith}
use native.Mathlib.Decide.{ℕ_discrete}
use borrow.Author.Tests.{ne_eqb}
use lib.Dec.{eqb}
use Rattle.terms.specs.Forms.{universe, pi, lam, sigma, ref, arrow, counts_as, forms, forms_0_2, form_of_kind, holds_span, holds_span_in}
use Rattle.terms.specs.Label.{Name, part, Label}
use Rattle.terms.specs.Resolution.{Locals, find, find_local, Core, kept, var, global, unknown, referent, core_of, covers, bound_name, locals_in, is_unknown}
use Rattle.terms.specs.Rows.{row, span, core_kind, core_fields, core_words}
use Rattle.terms.proofs.Spans.{core_of_ref, core_of_kept}
use Rattle.rows.proofs.Covering.{covers_none}

-- Which kinds have a span: those of a reference, a universe, and what covers an argument and is no arrow.
pub spans : (holds_span ref ≡ true) × (holds_span universe ≡ true) × (holds_span pi ≡ true) × (holds_span sigma ≡ true) × (holds_span lam ≡ true)
unfolding holds_span_in form_of_kind forms forms_0_2
spans = (refl, refl, refl, refl, refl)

not_both : {A : Type 0} (b : Bool) → b ≡ true → b ≡ false → A
not_both b p q = absurd (let z : ◌≡◌ {A = ℕ} 0 1 = ap (λ (x : Bool). cond x 0 1) (sym p ∙ q) in omega arith)

span_covers : (k i : ℕ) → (k ≡ arrow → ⊥) → covers k i ≡ true → holds_span k ≡ true
span_covers k i n h = go (ℕ_discrete k pi) (ℕ_discrete k sigma) (ℕ_discrete k lam)
  where
    go : Dec (k ≡ pi) → Dec (k ≡ sigma) → Dec (k ≡ lam) → holds_span k ≡ true
    go (yes p) q r = ap holds_span p ∙ spans.2
    go (no p) (yes q) r = ap holds_span q ∙ spans.3
    go (no p) (no q) (yes r) = ap holds_span r ∙ spans.4
    go (no p) (no q) (no r) = not_both (covers k i) h (covers_none k i p q r n)

-- The label l' is read from the row of the label l.
pub record Alike (l' l : Label) : Type 0 where
  pub kind : l'.kind ≡ l.kind
  pub span : holds_span l.kind ≡ true → (l'.start ≡ l.start) × (l'.length ≡ l.length)
  pub offset : l'.offset ≡ l.offset

module _ (s : List ℕ) (l' l : Label) (a : Alike l' l) where
  module _ (locals : Locals) (globals : List Name) where
    abbrev core' : Core
    core' = core_of s locals globals l'

    abbrev core : Core
    core = core_of s locals globals l

    pub same_core : core' ≡ core
    same_core = go (ℕ_discrete l.kind ref)
      where
        go : Dec (l.kind ≡ ref) → core' ≡ core
        go (yes e) =
            let p = a.span (ap holds_span e ∙ spans.0) in
            core_of_ref s locals globals l' (a.kind ∙ e)
            ∙ ap₂ (λ (x n : ℕ). referent (find_local (part s x n) locals) (find (part s x n) globals)) p.0 p.1
            ∙ sym (core_of_ref s locals globals l e)
        go (no e) = core_of_kept s locals globals l' (λ q. e (sym a.kind ∙ q)) ∙ sym (core_of_kept s locals globals l e)

    -- Only a reference is unknown.
    pub same_unknown : is_unknown core ≡ true → (l'.start ≡ l.start) × (l'.length ≡ l.length)
    same_unknown h = go (ℕ_discrete l.kind ref)
      where
        go : Dec (l.kind ≡ ref) → (l'.start ≡ l.start) × (l'.length ≡ l.length)
        go (yes e) = a.span (ap holds_span e ∙ spans.0)
        go (no e) = not_both (is_unknown core) h (ap is_unknown (core_of_kept s locals globals l e))

  -- An arrow's row has no span, and what stands in its place is not looked at.
  pub same_name : (i : ℕ) → covers l.kind i ≡ true → bound_name l.kind (part s l'.start l'.length) ≡ bound_name l.kind (part s l.start l.length)
  same_name i e = go (ℕ_discrete l.kind arrow)
    where
      go : Dec (l.kind ≡ arrow) → bound_name l.kind (part s l'.start l'.length) ≡ bound_name l.kind (part s l.start l.length)
      go (yes q) = ap (λ (k : ℕ). bound_name k (part s l'.start l'.length)) q ∙ ap (λ (k : ℕ). bound_name k (part s l.start l.length)) (sym q)
      go (no q) =
          let p = a.span (span_covers l.kind i q e) in
          ap₂ (λ (x n : ℕ). bound_name l.kind (part s x n)) p.0 p.1

  pub same_locals : (locals : Locals) (i : ℕ) → locals_in s l' locals i ≡ locals_in s l locals i
  same_locals locals i = ap (λ (k : ℕ). cond (covers k i) (bound_name k (part s l'.start l'.length) ∷ locals) locals) a.kind ∙ go (covers l.kind i) refl
    where
      go : (b : Bool) → covers l.kind i ≡ b
          → cond b (bound_name l.kind (part s l'.start l'.length) ∷ locals) locals ≡ cond b (bound_name l.kind (part s l.start l.length) ∷ locals) locals
      go false e = refl
      go true e = ap (λ (o : Option Name). o ∷ locals) (same_name i e)

  -- Only a universe has its span in the core.
  same_fields : (c : Core) (ids : List ℕ) → core_fields l' c ids ≡ core_fields l c ids
  same_fields kept ids = ap (λ (k : ℕ). cond (eqb k universe) (span l') [] ++ ids) a.kind ∙ go (ℕ_discrete l.kind universe)
    where
      fields : Bool → Label → List ℕ
      fields b m = cond b (span m) [] ++ ids

      go : Dec (l.kind ≡ universe) → fields (eqb l.kind universe) l' ≡ fields (eqb l.kind universe) l
      go (yes e) =
          let p = a.span (ap holds_span e ∙ spans.1) in
          ap₂ (λ (x n : ℕ). cond (eqb l.kind universe) (x ∷ n ∷ []) [] ++ ids) p.0 p.1
      go (no e) =
          let q = ne_eqb l.kind universe e in
          ap (λ (b : Bool). fields b l') q ∙ ap (λ (b : Bool). fields b l) (sym q)
  same_fields (var i) ids = refl
  same_fields (global j) ids = refl
  same_fields unknown ids = refl

  same_kind : (c : Core) → core_kind l' c ≡ core_kind l c
  same_kind kept = ap counts_as a.kind
  same_kind (var i) = refl
  same_kind (global j) = refl
  same_kind unknown = refl

  pub same_words : (c : Core) (ids : List ℕ) → core_words l' c ids ≡ core_words l c ids
  same_words c ids = λ i. row (same_kind c i) (same_fields c ids i) (a.offset i)
