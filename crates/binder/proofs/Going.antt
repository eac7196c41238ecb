-- The loop of the way down: what is still to come is what the whole way comes to.
use Prim.Native.Nat.{ℕ, zero, suc, ◌+◌, ◌-◌, ◌≤◌, ◌<◌}
use mathlib.Core.Path.{◌≡◌, refl, sym, ap, ap₂, ◌∙◌}
use mathlib.Core.Bool.{Bool, true, false}
use mathlib.Core.List.{List, []}
use native.Mathlib.Omega.{arith}
use borrow.Author.Tests.{eq-eqb, ne_eqb}
use Rattle.terms.specs.Lookup.{Local}
use Rattle.scope.specs.Scope.{in_scope}
use Rattle.binder.specs.declared.Way.{Way}
use Rattle.binder.specs.inner.Walk.{child_at, argument_with, entered, walk, WentDown}

module _ (t : List ℕ) (k root : ℕ) where
  -- After so many of the 512 steps.
  pub record OnWay (work : List ℕ) (way : Way) (steps : ℕ) : Type 0 where
    pub few : way.locals ≤ steps
    pub same : (s : List ℕ) → walk t k s (512 - steps) way.row (in_scope s work way.locals) ≡ walk t k s 512 root []

  pub begins : (work : List ℕ) → OnWay work (record { row = root; locals = 0 }) 0
  unfolding in_scope
  begins work = record { few = omega arith; same = λ s. refl }

  arrives : (s : List ℕ) (left id : ℕ) (l : List Local) → id ≡ k → walk t k s left id l ≡ l
  unfolding walk
  arrives s zero id l e = refl
  arrives s (suc left) id l e = ap (λ (b : Bool). elim b as (λ _. List Local) [ true ↦ l | false ↦ walk t k s left (child_at t k id (argument_with t k id)) (entered t k s id l) ]) (eq-eqb id k e)

  goes : (s : List ℕ) (left id : ℕ) (l : List Local) → ¬ (id ≡ k) → 0 < left → walk t k s left id l ≡ walk t k s (left - 1) (child_at t k id (argument_with t k id)) (entered t k s id l)
  unfolding walk
  goes s zero id l e h = absurd (omega arith)
  goes s (suc left) id l e h =
      ap (λ (b : Bool). elim b as (λ _. List Local) [ true ↦ l | false ↦ walk t k s left (child_at t k id (argument_with t k id)) (entered t k s id l) ]) (ne_eqb id k e)
      ∙ ap (λ (n : ℕ). walk t k s n (child_at t k id (argument_with t k id)) (entered t k s id l)) (let z : left ≡ suc left - 1 = omega arith in z)

  ends : (s : List ℕ) (left id : ℕ) (l : List Local) → left ≡ 0 → walk t k s left id l ≡ l
  unfolding walk
  ends s left id l e = ap (λ (n : ℕ). walk t k s n id l) e

  module _ (work : List ℕ) (way : Way) (steps : ℕ) (o : OnWay work way steps) where
    pub arrived : way.row ≡ k → (s : List ℕ) → in_scope s work way.locals ≡ walk t k s 512 root []
    arrived e s = sym (arrives s (512 - steps) way.row _ e) ∙ o.same s

    pub ended : 512 ≤ steps → (s : List ℕ) → in_scope s work way.locals ≡ walk t k s 512 root []
    ended h s = sym (ends s (512 - steps) way.row _ (omega arith)) ∙ o.same s

    pub went : ¬ (way.row ≡ k) → steps < 512 → (way₁ : Way) (work₁ : List ℕ) → WentDown t k way work way₁ work₁ → OnWay work₁ way₁ (steps + 1)
    went e h way₁ work₁ w = record {
      few = omega (arith, o.few, w.few);
      same = λ s.
          ap (λ (n : ℕ). walk t k s n way₁.row (in_scope s work₁ way₁.locals)) (let z : 512 - (steps + 1) ≡ 512 - steps - 1 = omega arith in z)
          ∙ ap₂ (walk t k s (512 - steps - 1)) w.row (w.locals s)
          ∙ sym (goes s (512 - steps) way.row (in_scope s work way.locals) e (omega arith)) ∙ o.same s;
    }
