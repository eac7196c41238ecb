-- Document 01, "The core module", and document 02, Req 10: what binds a reference, and when terms and declarations agree.
use Rattle.std.specs.Prelude.{◌≡◌, ◌⊎◌, List, [], ◌∷◌, ◌++◌, ℕ, ◌≤◌, length}
use Rattle.std.proofs.Math.Option.{Option, none, some}
use Rattle.terms.specs.Forms.{universe, pi, lam, sigma, ref, counts_as}
use Rattle.terms.specs.Tree.{Place, at}
use Rattle.terms.specs.Label.{Name, Term, NamedDeclaration}

-- The form, if a term stands there: "an arrow agrees in form with a pi".
abbrev pub form_at : Option Term → Option ℕ
form_at none = none
form_at (some a) = some (counts_as a.label.kind)

-- "in whose codomain or body": argument 1 of pi and sigma, argument 0 of lam. An arrow binds no name, and is none of these.
abbrev pub Covers : ℕ → ℕ → Type 0
Covers k i = (((k ≡ pi) ⊎ (k ≡ sigma)) × (i ≡ 1)) ⊎ ((k ≡ lam) × (i ≡ 0))

-- "pi, sigma or lam of that name in whose codomain or body it stands": such a binder of the name x stands at q, around the place p of t.
pub record Around (t : Term) (x : Name) (p q : Place) : Type 0 where
  pub binder : Term
  pub stands : at q t ≡ some binder
  pub same_name : x ≡ binder.label.name
  pub argument : ℕ
  pub below : Place
  pub reached : p ≡ q ++ (argument ∷ below)
  pub covered : Covers binder.label.kind argument

-- "What binds a ref is the innermost" of these: what binds the name x at the place p of t stands at q.
pub record BoundBy (t : Term) (x : Name) (p q : Place) : Type 0 where
  pub around : Around t x p q
  pub innermost : (r : Place) → Around t x p r → length r ≤ length q

-- "with none it is free."
abbrev pub Free : Term → Name → Place → Type 0
Free t x p = (q : Place) → Around t x p q → ⊥

-- "at a ref also either both bound, by binders at the same place, or both free, with equal name bytes": a ref x of t and a ref y of u at p.
abbrev pub SameRef : Term → Term → Place → Name → Name → Type 0
SameRef t u p x y = ((q : Place) × BoundBy t x p q × BoundBy u y p q) ⊎ (Free t x p × Free u y p × (x ≡ y))

-- "the same places and at each the same form; at a universe also the same numeral bytes; at a ref also ..": what stands, or does not stand,
-- at one place of two terms, with R for what is asked of two refs.
pub record Alike (R : Name → Name → Type 0) (x y : Option Term) : Type 0 where
  pub same_form : form_at x ≡ form_at y
  pub same_digits : (a b : Term) → x ≡ some a → y ≡ some b → a.label.kind ≡ universe → a.label.name ≡ b.label.name
  pub same_ref : (a b : Term) → x ≡ some a → y ≡ some b → a.label.kind ≡ ref → R a.label.name b.label.name

-- "Two terms agree if" that is so at every place.
abbrev pub Agree : Term → Term → Type 0
Agree t u = (p : Place) → Alike (SameRef t u p) (at p t) (at p u)

-- "equal kind, equal name bytes, types that agree, and bodies that agree where the kind has one."
pub record AgreeDeclaration (d e : NamedDeclaration) : Type 0 where
  pub kinds : d.kind ≡ e.kind
  pub names : d.name ≡ e.name
  pub types : Agree d.type e.type
  pub bodies : (b c : Term) → d.body ≡ some b → e.body ≡ some c → Agree b c

-- "There must be equally many declarations, and the first agrees with the first, the second with the second, and so on."
abbrev pub AgreeModule : List NamedDeclaration → List NamedDeclaration → Type 0
AgreeModule [] [] = Unit {0}
AgreeModule [] (e ∷ m) = ⊥
AgreeModule (d ∷ l) [] = ⊥
AgreeModule (d ∷ l) (e ∷ m) = AgreeDeclaration d e × AgreeModule l m
