-- Rows that name a place which passes a test: the first that is found is the lowest of them.
use mathlib.Core.Path.{◌≡◌, refl, sym, ap, ◌∙◌, subst}
use mathlib.Core.Logic.{inl, inr}
use mathlib.Core.Bool.{Bool, true, false, ◌&&◌, and-eq-true_iff}
use mathlib.Core.List.{List, [], ◌∷◌, ◌++◌, map}
use mathlib.Core.Option.{Option, none, some}
use Prim.Native.Nat.{ℕ, zero, suc, ◌<◌, ◌≤◌}
use native.Mathlib.Omega.{arith}
use lib.Dec.{eqb}
use borrow.Author.Tests.{eqb-true, eq-eqb}
use lib.ListN.{get_or}
use Rattle.terms.specs.Forms.{global_kind}
use Rattle.terms.specs.Tree.{cells, next}
use Rattle.terms.specs.Resolution.{CoreDeclaration}
use Rattle.terms.specs.Rows.{core_row}
use Rattle.dependence.specs.Depends.{NumberedRow, GlobalRow, Among}
use Rattle.dependence.specs.First.{own_rows, row_names, first_naming, is_found}
use Rattle.dependence.proofs.Numbered.{number_from, consecutive, tree_rows, own_trees}
use Rattle.dependence.proofs.Counted.{among_right}

-- Row r is among some rows, is a global row, and names a place that passes the test.
pub record Passes (p : ℕ → Bool) (r : ℕ) (l : List NumberedRow) : Type 0 where
  pub place : ℕ
  pub among : Among place r l
  pub passes : p place ≡ true

-- Rows whose numbers ascend from n on.
abbrev pub From : ℕ → List NumberedRow → Type 0
From n [] = Unit {0}
From n (x ∷ l) = (n ≤ x.number) × From (suc x.number) l

from_number : (n k : ℕ) (l : List (List ℕ)) → n ≤ k → From n (number_from k l)
from_number n k [] h = tt
from_number n k (w ∷ l) h = (h, from_number (suc k) (suc k) l (omega arith))

trees_from : (n : ℕ) (m : List CoreDeclaration) (i : ℕ) → From 0 (tree_rows n m i)
trees_from n [] i = tt
trees_from n (d ∷ l) zero = subst (From 0) (sym (consecutive n d.trees)) (from_number 0 n (map core_row (cells n d.trees)) (omega arith))
trees_from n (d ∷ l) (suc i) = trees_from (next n d.trees) l i

pub rows_from : (m : List CoreDeclaration) (i : ℕ) → From 0 (own_rows m i)
rows_from m i = subst (From 0) (sym (own_trees 0 m i)) (trees_from 0 m i)

among_from : (n : ℕ) (l : List NumberedRow) → From n l → (j r : ℕ) → Among j r l → n ≤ r
among_from n [] f j r h = absurd h
among_from n (x ∷ l) f j r (inl h) = omega (arith, f.0, h.0)
among_from n (x ∷ l) f j r (inr h) = omega (arith, f.0, among_from (suc x.number) l f.1 j r h)

-- Of rows that ascend, those in front have the lower numbers.
pub front_lower : (n : ℕ) (l k : List NumberedRow) → From n (l ++ k) → (p q r t : ℕ) → Among p r l → Among q t k → r < t
front_lower n [] k f p q r t a b = absurd a
front_lower n (x ∷ l) k f p q r t (inl a) b = omega (arith, a.0, among_from (suc x.number) (l ++ k) f.1 q t (among_right q t l k b))
front_lower n (x ∷ l) k f p q r t (inr a) b = front_lower (suc x.number) l k f.1 p q r t a b

-- What is found: the lowest row that passes, or none where none does.
pub record Lowest (p : ℕ → Bool) (l : List NumberedRow) (r : ℕ) : Type 0 where
  pub passes : Passes p r l
  pub lowest : (q : ℕ) → Passes p q l → r ≤ q

abbrev pub Found : (ℕ → Bool) → List NumberedRow → Option ℕ → Type 0
Found p l none = (q : ℕ) → Passes p q l → ⊥
Found p l (some r) = Lowest p l r

module _ (p : ℕ → Bool) where
  row_is : (w : List ℕ) → row_names p w ≡ true → GlobalRow (get_or w 1 0) w × (p (get_or w 1 0) ≡ true)
  row_is w e = let h = (and-eq-true_iff (eqb (get_or w 0 0) global_kind) _).0 e in ((eqb-true _ _ h.0, refl), h.1)

  is_row : (j : ℕ) (w : List ℕ) → GlobalRow j w → p j ≡ true → row_names p w ≡ true
  is_row j w g e = (and-eq-true_iff (eqb (get_or w 0 0) global_kind) _).1 (eq-eqb _ _ g.0, ap p g.1 ∙ e)

  -- A row in front that does not pass.
  only_later : (x : NumberedRow) (l : List NumberedRow) → row_names p x.words ≡ false → (q : ℕ) → Passes p q (x ∷ l) → Passes p q l
  only_later x l e q h = go h.among
    where
      go : Among h.place q (x ∷ l) → Passes p q l
      go (inl g) = absurd (let b = is_row h.place x.words g.1 h.passes in let z : ◌≡◌ {A = ℕ} 0 1 = cc in omega arith)
      go (inr g) = record { place = h.place; among = g; passes = h.passes }

  pub first_found : (n : ℕ) (l : List NumberedRow) → From n l → Found p l (first_naming p l)
  unfolding first_naming
  first_found n [] f = λ q h. h.among
  first_found n (x ∷ l) f = go (row_names p x.words) refl (first_naming p l) (first_found (suc x.number) l f.1)
    where
      go : (b : Bool) → row_names p x.words ≡ b → (o : Option ℕ) → Found p l o → Found p (x ∷ l) (elim b as (λ _. Option ℕ) [ true ↦ some x.number | false ↦ o ])
      go true e o h =
          let g = row_is x.words e in
          record {
            passes = record { place = get_or x.words 1 0; among = inl (refl, g.0); passes = g.1 };
            lowest = λ q k. by q k.place k.among;
          }
        where
          by : (q j : ℕ) → Among j q (x ∷ l) → x.number ≤ q
          by q j (inl k) = omega (arith, k.0)
          by q j (inr k) = omega (arith, among_from (suc x.number) l f.1 j q k)
      go false e none h = λ q k. h q (only_later x l e q k)
      go false e (some r) h = record {
        passes = record { place = h.passes.place; among = inr h.passes.among; passes = h.passes.passes };
        lowest = λ q k. h.lowest q (only_later x l e q k);
      }

-- Whether some row passes, whatever the rows' numbers.
module _ (p : ℕ → Bool) where
  pub found_passes : (l : List NumberedRow) → is_found (first_naming p l) ≡ true → (r : ℕ) × Passes p r l
  unfolding first_naming
  found_passes [] e = absurd (let z : ◌≡◌ {A = ℕ} 0 1 = cc in omega arith)
  found_passes (x ∷ l) e = go (row_names p x.words) refl (found_passes l) e
    where
      go : (b : Bool) → row_names p x.words ≡ b → (is_found (first_naming p l) ≡ true → (r : ℕ) × Passes p r l)
          → is_found (elim b as (λ _. Option ℕ) [ true ↦ some x.number | false ↦ first_naming p l ]) ≡ true → (r : ℕ) × Passes p r (x ∷ l)
      go true f ih e = let g = row_is p x.words f in (x.number, record { place = get_or x.words 1 0; among = inl (refl, g.0); passes = g.1 })
      go false f ih e = let w = ih e in (w.0, record { place = w.1.place; among = inr w.1.among; passes = w.1.passes })

  pub passes_found : (l : List NumberedRow) (r : ℕ) → Passes p r l → is_found (first_naming p l) ≡ true
  unfolding first_naming
  passes_found [] r h = absurd h.among
  passes_found (x ∷ l) r h = go (row_names p x.words) refl (passes_found l r)
    where
      go : (b : Bool) → row_names p x.words ≡ b → (Passes p r l → is_found (first_naming p l) ≡ true)
          → is_found (elim b as (λ _. Option ℕ) [ true ↦ some x.number | false ↦ first_naming p l ]) ≡ true
      go true e ih = refl
      go false e ih = ih (only_later p x l e r h)

-- Tests that agree on what the rows name find the same row.
names_same : (f g : ℕ → Bool) (w : List ℕ) → (GlobalRow (get_or w 1 0) w → f (get_or w 1 0) ≡ g (get_or w 1 0)) → row_names f w ≡ row_names g w
names_same f g w h = go (eqb (get_or w 0 0) global_kind) refl
  where
    go : (b : Bool) → eqb (get_or w 0 0) global_kind ≡ b → (b && f (get_or w 1 0)) ≡ (b && g (get_or w 1 0))
    go true e = h (eqb-true _ _ e, refl)
    go false e = refl

pub first_same : (f g : ℕ → Bool) (l : List NumberedRow) → ((p r : ℕ) → Among p r l → f p ≡ g p) → first_naming f l ≡ first_naming g l
unfolding first_naming
first_same f g [] h = refl
first_same f g (x ∷ l) h =
    let e = names_same f g x.words (λ a. h (get_or x.words 1 0) x.number (inl (refl, a))) in
    let k = first_same f g l (λ p r a. h p r (inr a)) in
    λ t. elim (e t) as (λ _. Option ℕ) [ true ↦ some x.number | false ↦ k t ]
