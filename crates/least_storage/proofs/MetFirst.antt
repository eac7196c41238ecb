-- Which of 8 and 9 is met first, by the rows of the declarations for which there is room.
use Rattle.token.specs.declared.Class.{Class}
use mathlib.Core.Path.{◌≡◌, refl, ap, ◌∙◌}
use mathlib.Core.List.{List, [], ◌∷◌}
use mathlib.Core.Option.{Option, none, some}
use mathlib.Core.Bool.{Bool, true, false}
use Prim.Native.Nat.{ℕ, zero, suc, ◌≤◌, ◌<◌}
use native.Mathlib.Omega.{arith}
use lib.Dec.{ltb}
use lib.ListN.{length, take}
use borrow.Author.Tests.{ltb-false, le-ltb}
use Rattle.terms.specs.Tree.{Forest, nil, next, maybe, tree}
use Rattle.terms.specs.Label.{Label, Declaration, trees}
use Rattle.terms.proofs.Cells.{next_cells}
use Rattle.terms.proofs.Widths.{total, total_grows}
use Rattle.least_storage.specs.Statements.{past, met_first}

-- A declaration has a row at least.
a_row : (n : ℕ) (d : Declaration) → n < next n (trees d)
a_row n d = let b : Forest Label = maybe d.body nil (λ b. tree b nil) in omega (arith, next_cells n d.type.args, next_cells (suc (next n d.type.args)) b)

-- There is room for all.
pub met_none : (r d n : ℕ) (ds : List Declaration) → length ds ≤ d → total n ds ≤ r → met_first r d n ds ≡ none
met_none r d n [] h k = refl
met_none r zero n (e ∷ l) h k = absurd (omega arith)
met_none r (suc d) n (e ∷ l) h k =
    ap (λ (b : Bool). past b (met_first r d (next n (trees e)) l)) (le-ltb r (next n (trees e)) (omega (arith, total_grows (next n (trees e)) l)))
    ∙ met_none r d (next n (trees e)) l (omega arith) k

-- The rows of the first d declarations fit, and there is one declaration more.
pub met_nine : (r d n : ℕ) (ds : List Declaration) → d < length ds → total n (take d ds) ≤ r → met_first r d n ds ≡ some Class.DeclarationsFull
met_nine r d n [] h k = absurd (omega arith)
met_nine r zero n (e ∷ l) h k = refl
met_nine r (suc d) n (e ∷ l) h k =
    ap (λ (b : Bool). past b (met_first r d (next n (trees e)) l)) (le-ltb r (next n (trees e)) (omega (arith, k, total_grows (next n (trees e)) (take d l))))
    ∙ met_nine r d (next n (trees e)) l (omega arith) k

-- There is room for as many declarations, and not for their rows.
pub met_eight : (r d n : ℕ) (ds : List Declaration) → n ≤ r → length ds ≤ d → r < total n ds → met_first r d n ds ≡ some Class.SurfaceFull
met_eight r d n [] h i k = absurd (omega arith)
met_eight r zero n (e ∷ l) h i k = absurd (omega arith)
met_eight r (suc d) n (e ∷ l) h i k = go (λ j. met_eight r d (next n (trees e)) l j (omega arith) k) (ltb r (next n (trees e))) refl
  where
    go : (next n (trees e) ≤ r → met_first r d (next n (trees e)) l ≡ some Class.SurfaceFull) → (b : Bool) → ltb r (next n (trees e)) ≡ b
        → past b (met_first r d (next n (trees e)) l) ≡ some Class.SurfaceFull
    go ih true f = refl
    go ih false f = ih (ltb-false r (next n (trees e)) f)

-- Fewer declarations have fewer rows.
pub fewer : (d n : ℕ) (ds : List Declaration) → d < length ds → total n (take d ds) < total n ds
fewer d n [] h = absurd (omega arith)
fewer zero n (e ∷ l) h = omega (arith, a_row n e, total_grows (next n (trees e)) l)
fewer (suc d) n (e ∷ l) h = fewer d (next n (trees e)) l (omega arith)

-- It is 8 or 9.
pub data Short : Option Class → Type 0 where
  nothing : Short none
  eight : Short (some Class.SurfaceFull)
  nine : Short (some Class.DeclarationsFull)

pub met_short : (r d n : ℕ) (ds : List Declaration) → Short (met_first r d n ds)
met_short r d n [] = nothing
met_short r zero n (e ∷ l) = nine
met_short r (suc d) n (e ∷ l) = go (ltb r (next n (trees e))) (met_first r d (next n (trees e)) l) (met_short r d (next n (trees e)) l)
  where
    go : (b : Bool) (o : Option Class) → Short o → Short (past b o)
    go true o h = eight
    go false o h = h
