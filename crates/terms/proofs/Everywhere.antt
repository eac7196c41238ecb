-- Every row is the row of a place.
use mathlib.Core.Path.{◌≡◌, refl, sym, ap, ◌∙◌}
use mathlib.Core.List.{[], ◌∷◌}
use mathlib.Core.Option.{Option, some}
use Prim.Native.Nat.{ℕ, zero, suc, ◌≤◌, ◌<◌}
use native.Mathlib.Omega.{arith}
use native.Mathlib.Decide.{dec_lt, ℕ_discrete}
use Rattle.terms.specs.Tree.{Forest, nil, node, Tree, then, Place, pick, at, next}
use Rattle.terms.specs.RowAt.{tree_row, row_at}

pub record PlaceOf {A : Type 0} (n : ℕ) (f : Forest A) (k : ℕ) : Type 0 where
  pub number : ℕ
  pub place : Place
  pub term : Tree A
  pub here : Tree A
  pub picked : pick f number ≡ some term
  pub there : at place term ≡ some here
  pub row : row_at (tree_row n f number) place term ≡ some k

module _ {A : Type 0} where
  pub place_of : (f : Forest A) (n k : ℕ) → n ≤ k → k < next n f → PlaceOf n f k
  place_of nil n k h l = absurd (omega arith)
  place_of (node t a r) n k h l = elim (dec_lt k (next n a)) [
    | yes q ↦ inside (place_of a n k h q)
    | no q ↦ elim (ℕ_discrete k (next n a)) [ yes e ↦ own e | no e ↦ behind (place_of r (suc (next n a)) k (omega arith) l) ]
  ]
    where
      inside : PlaceOf n a k → PlaceOf n (node t a r) k
      inside w = record {
        number = zero;
        place = w.number ∷ w.place;
        term = record { label = t; args = a };
        here = w.here;
        picked = refl;
        there = ap (λ (o : Option (Tree A)). then o (at w.place)) w.picked ∙ w.there;
        row = ap (λ (o : Option (Tree A)). then o (row_at (tree_row n a w.number) w.place)) w.picked ∙ w.row;
      }

      own : k ≡ next n a → PlaceOf n (node t a r) k
      own e = record {
        number = zero;
        place = [];
        term = record { label = t; args = a };
        here = record { label = t; args = a };
        picked = refl;
        there = refl;
        row = ap {B = Option ℕ} some (sym e);
      }

      behind : PlaceOf (suc (next n a)) r k → PlaceOf n (node t a r) k
      behind w = record { number = suc w.number; place = w.place; term = w.term; here = w.here; picked = w.picked; there = w.there; row = w.row }
