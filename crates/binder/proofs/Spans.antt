-- Where in a row its arguments' rows stand.
use Prim.Native.Nat.{ℕ, ◌+◌, ◌-◌, ◌*◌, ◌≤◌}
use mathlib.Core.Path.{◌≡◌, sym, ap, ◌∙◌}
use mathlib.Core.List.{List}
use mathlib.Core.Bool.{Bool, true, false, cond}
use native.Mathlib.Omega.{arith}
use lib.Dec.{leb}
use lib.ListN.{get_or}
use Rattle.terms.specs.Forms.{arity_of, holds_span}
use Rattle.binder.specs.inner.Walk.{first_from, behind_span, argument_with}

pub small : (kind : ℕ) → behind_span kind ≤ 3
small kind = go (holds_span kind)
  where
    go : (b : Bool) → cond {A = ℕ} b 3 1 ≤ 3
    go true = omega arith
    go false = omega arith

-- The argument that has row k among its rows, by what was read of the row.
pub argument_is : (t : List ℕ) (k id kind n first : ℕ) → kind ≡ get_or t (id * 8) 0 → n ≡ arity_of kind → first ≡ id * 8 + behind_span kind
    → argument_with t k id ≡ first_from (λ j. leb k (get_or t (first + j) 0)) (n - 0) 0
argument_is t k id kind n first e f g =
    (λ i. first_from (λ j. leb k (get_or t (id * 8 + behind_span (sym e i) + j) 0)) (arity_of (sym e i)) 0)
    ∙ (λ i. first_from (λ j. leb k (get_or t (sym g i + j) 0)) (sym f i) 0)
    ∙ ap (λ (m : ℕ). first_from (λ j. leb k (get_or t (first + j) 0)) m 0) (let z : n ≡ n - 0 = omega arith in z)
