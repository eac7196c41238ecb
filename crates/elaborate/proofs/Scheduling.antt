-- A form's arguments pushed as work items, the last first.
use Prim.Native.Nat.{ℕ, suc, ◌-◌, ◌≤◌, ◌<◌}
use mathlib.Core.Path.{◌≡◌, refl, sym, ◌∙◌, ap, ap₂}
use mathlib.Core.List.{List, [], ◌∷◌}
use mathlib.Core.Bool.{Bool}
use native.Mathlib.Omega.{arith}
use lib.ListN.{length, get_or, take, drop}
use lib.Seq.{drop-cons, get_or-take, length-take-le, drop-length}
use Rattle.terms.specs.Resolution.{covers}
use Rattle.stacks.specs.Stacks.{works_in, WorkPushed}
use Rattle.stacks.specs.declared.Work.{Work}
use Rattle.elaborate.specs.Machine.{scheduled_one, scheduled}

pub then_pushed : {w w₁ w₂ : List ℕ} {t₁ t₂ : ℕ} {xs : List Work} (f : List Work → List Work)
    → WorkPushed w w₁ t₁ xs → WorkPushed w₁ w₂ t₂ (f (works_in w₁ t₁)) → WorkPushed w w₂ t₂ (f xs)
then_pushed f p q = record {
  works = q.works ∙ ap f p.works;
  values = λ v h. q.values v h ∙ p.values v h;
  locals = λ s l h. q.locals s l h ∙ p.locals s l h;
}

pub none_pushed : (w : List ℕ) (t : ℕ) → WorkPushed w w t (works_in w t)
none_pushed w t = record { works = refl; values = λ v h. refl; locals = λ s l h. refl }

module _ (w : List ℕ) (t k form left : ℕ) (children : List ℕ) (m : ℕ) (six : length children ≡ 6) (few : m ≤ 6) where
  -- The arguments from i on are pushed.
  abbrev pub Pushed : List ℕ → ℕ → ℕ → Type 0
  Pushed w₁ i top = WorkPushed w w₁ top (scheduled k form left i (drop i (take m children)) (works_in w t))

  long : length (take m children) ≡ m
  long = length-take-le m children (omega arith)

  pub pushed_none : Pushed w m t
  unfolding scheduled
  pushed_none =
      let e : drop m (take m children) ≡ [] = ap (λ (j : ℕ). drop j (take m children)) (sym long) ∙ drop-length (take m children) in
      rw e (none_pushed w t)

  pub pushed_next : (w₁ w₂ : List ℕ) (i top r : ℕ) (covered : Bool) → 0 < i → i ≤ m → covered ≡ covers k (i - 1) → Pushed w₁ i top
      → WorkPushed w₁ w₂ r (scheduled_one covered form left (get_or children (i - 1) 0) (works_in w₁ top)) → Pushed w₂ (i - 1) r
  unfolding scheduled
  pushed_next w₁ w₂ i top r covered h q e p g =
      let j = i - 1 in
      let l = take m children in
      let id = get_or children j 0 in
      let back : suc j ≡ i = omega arith in
      let z : drop j l ≡ id ∷ drop i l =
      drop-cons l j 0 (omega (arith, long)) ∙ ap₂ (λ (x u : ℕ). x ∷ drop u l) (get_or-take m children j 0 (omega arith)) back in
      let tail = ap (λ (u : ℕ). scheduled k form left u (drop i l) (works_in w t)) (sym back) in
      rw (z, ← e) (then_pushed (scheduled_one covered form left id) (rw tail at p) g)
