-- DEMAND 1, from the promise of `load`: which sources a call accepts, and what it leaves where it refuses.
use Rattle.std.specs.Prelude.{Err}
use mathlib.Core.Path.{◌≡◌, refl, sym, ◌∙◌, subst}
use mathlib.Core.Logic.{◌↔◌}
use mathlib.Core.List.{List}
use Prim.Native.Nat.{ℕ}
use native.Mathlib.Omega.{arith}
use lib.ListN.{length}
use Rattle.token.specs.declared.Refusal.{Refusal}
use Rattle.terms.specs.Label.{Declaration}
use Rattle.surface.specs.Reader.{start, Result, done, refused}
use Rattle.surface.specs.Tables.{Lengths, lengths, blank}
use Rattle.surface.specs.Loading.{Outcome, outcome, loading, load}
use Rattle.surface.specs.SameCore.{Accepts}
use Rattle.surface.specs.Statements.{Acceptable, Demand1}
use Rattle.surface.proofs.Acceptance.{loads_exactly}

module _ (s : List ℕ) (z : Lengths) where
  accepts : (o : Result (List Declaration)) → loading s z start ≡ o → Accepts (outcome s z o) → Acceptable s z
  accepts (done ds q) e a = let h = (loads_exactly s z ds).0 (q, e) in (ds, h.0, h.1, h.2)
  accepts (refused r) e a = absurd (let f = a.2 in let n : ◌≡◌ {A = ℕ} 0 1 = cc in omega arith)

  accepted : (o : Result (List Declaration)) → loading s z start ≡ o → Acceptable s z → Accepts (outcome s z o)
  accepted o e (ds, r, h, n) =
      let w = (loads_exactly s z ds).1 (r, h, n) in
      subst (λ (x : Result (List Declaration)). Accepts (outcome s z x)) (sym w.1 ∙ e) (w.0.rows, length ds, refl)

  refused_blank : (o : Result (List Declaration)) (r : Refusal) → (outcome s z o).answer ≡ Err r → (outcome s z o).tables ≡ blank z
  refused_blank (refused x) r e = refl
  refused_blank (done ds q) r e = absurd (let n : ◌≡◌ {A = ℕ} 0 1 = cc in omega arith)

  pub accepts_exactly : (Accepts (load s z) ↔ Acceptable s z) × ((r : Refusal) → (load s z).answer ≡ Err r → (load s z).tables ≡ blank z)
  unfolding load
  accepts_exactly = ((accepts (loading s z start) refl, accepted (loading s z start) refl), refused_blank (loading s z start))

pub demand_1 : Demand1
demand_1 s before a after e =
    subst (λ (o : Outcome). (Accepts o ↔ Acceptable s (lengths before)) × ((r : Refusal) → o.answer ≡ Err r → o.tables ≡ blank (lengths before)))
    (sym e) (accepts_exactly s (lengths before))
