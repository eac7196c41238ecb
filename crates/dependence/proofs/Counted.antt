-- The rows that count further on: their list, and the mentions of the definition.
use mathlib.Core.Path.{◌≡◌, refl, sym, subst}
use mathlib.Core.Logic.{◌⊎◌, inl, inr}
use mathlib.Core.Bool.{Bool, true, false, cond}
use mathlib.Core.List.{List, [], ◌∷◌, ◌++◌, append-nil}
use Prim.Native.Nat.{ℕ}
use lib.Dec.{eqb}
use borrow.Author.Tests.{eqb-true, eq-eqb}
use Rattle.terms.specs.Resolution.{CoreDeclaration}
use Rattle.dependence.specs.Depends.{NumberedRow, type_rows, body_rows, kind_at, transparent, Among, Shows, by_type, by_body}
use Rattle.dependence.specs.First.{own_rows, counted_rows}

module _ (p r : ℕ) where
  pub among_left : (l k : List NumberedRow) → Among p r l → Among p r (l ++ k)
  among_left [] k h = absurd h
  among_left (x ∷ l) k (inl h) = inl h
  among_left (x ∷ l) k (inr h) = inr (among_left l k h)

  pub among_right : (l k : List NumberedRow) → Among p r k → Among p r (l ++ k)
  among_right [] k h = h
  among_right (x ∷ l) k h = inr (among_right l k h)

  pub among_either : (l k : List NumberedRow) → Among p r (l ++ k) → Among p r l ⊎ Among p r k
  among_either [] k h = inr h
  among_either (x ∷ l) k (inl h) = inl (inl h)
  among_either (x ∷ l) k (inr h) = go (among_either l k h)
    where
      go : Among p r l ⊎ Among p r k → Among p r (x ∷ l) ⊎ Among p r k
      go (inl g) = inl (inr g)
      go (inr g) = inr g

module _ (m : List CoreDeclaration) (k p r : ℕ) where
  pub own_either : Among p r (own_rows m k) → Among p r (type_rows 0 m k) ⊎ Among p r (body_rows 0 m k)
  own_either h = among_either p r (type_rows 0 m k) (body_rows 0 m k) h

  pub either_own : Among p r (type_rows 0 m k) ⊎ Among p r (body_rows 0 m k) → Among p r (own_rows m k)
  either_own (inl h) = among_left p r (type_rows 0 m k) (body_rows 0 m k) h
  either_own (inr h) = among_right p r (type_rows 0 m k) (body_rows 0 m k) h

  pub type_counts : Among p r (type_rows 0 m k) → Among p r (counted_rows m k)
  type_counts h = among_left p r (type_rows 0 m k) _ h

  pub body_counts : kind_at m k ≡ transparent → Among p r (body_rows 0 m k) → Among p r (counted_rows m k)
  body_counts e h =
      subst (λ (b : Bool). Among p r (type_rows 0 m k ++ cond b (body_rows 0 m k) [])) (sym (eq-eqb (kind_at m k) transparent e))
      (among_right p r (type_rows 0 m k) (body_rows 0 m k) h)

  -- A row that counts is a row of the declaration.
  pub counted_own : Among p r (counted_rows m k) → Among p r (own_rows m k)
  counted_own h = by (eqb (kind_at m k) transparent) h
    where
      by : (b : Bool) → Among p r (type_rows 0 m k ++ cond b (body_rows 0 m k) []) → Among p r (own_rows m k)
      by true g = g
      by false g = among_left p r (type_rows 0 m k) (body_rows 0 m k) (subst (Among p r) (append-nil (type_rows 0 m k)) g)

  -- It leads to what the named place shows.
  pub through : (j : ℕ) → Among p r (counted_rows m k) → Shows m j p → Shows m j k
  through j h s = by (eqb (kind_at m k) transparent) refl h
    where
      by : (b : Bool) → eqb (kind_at m k) transparent ≡ b → Among p r (type_rows 0 m k ++ cond b (body_rows 0 m k) []) → Shows m j k
      by true e g = go (among_either p r (type_rows 0 m k) (body_rows 0 m k) g)
        where
          go : Among p r (type_rows 0 m k) ⊎ Among p r (body_rows 0 m k) → Shows m j k
          go (inl a) = by_type r a s
          go (inr a) = by_body r (eqb-true _ _ e) a s
      by false e g = by_type r (subst (Among p r) (append-nil (type_rows 0 m k)) g) s
