-- Document 01, "The core module", and document 02, Req 10: what each reference becomes, and the first name that is refused.
use Rattle.token.specs.declared.Class.{Class}
use Rattle.std.specs.Prelude.{List, [], ◌∷◌, ◌++◌, Bool, true, false, ◌&&◌, ◌||◌, cond, ℕ, zero, suc, eqb}
use Rattle.std.proofs.Math.Option.{Option, none, some}
use Rattle.words.specs.Words.{same_bytes}
use Rattle.terms.specs.Forms.{pi, lam, sigma, ref, arrow}
use Rattle.terms.specs.Tree.{Forest, nil, node}
use Rattle.terms.specs.Label.{Name, part, Label, Declaration, trees, declared_name}

abbrev pub next_number : Option ℕ → Option ℕ
next_number none = none
next_number (some i) = some (suc i)

-- The number of the first name of a list that is x, counted from 0.
unfoldable pub find : Name → List Name → Option ℕ
find x [] = none
find x (y ∷ l) = elim (same_bytes x y) [ true ↦ some zero | false ↦ next_number (find x l) ]

-- The local binders, innermost first. An arrow is one without a name, "that no name reaches".
abbrev pub Locals : Type 0
Locals = List (Option Name)

-- Whether a local binder has the name x.
abbrev pub called : Name → Option Name → Bool
called x none = false
called x (some y) = same_bytes x y

-- The number of the first local binder that has the name x: each one before it counts.
unfoldable pub find_local : Name → Locals → Option ℕ
find_local x [] = none
find_local x (o ∷ l) = elim (called x o) [ true ↦ some zero | false ↦ next_number (find_local x l) ]

-- What a term becomes in the core.
pub data Core : Type 0 where
  kept : Core
  var : (count : ℕ) → Core
  global : (place : ℕ) → Core
  unknown : Core

-- "ref becomes var with a count, or global with a place from 0. .. A local hides a declaration."
abbrev pub referent : Option ℕ → Option ℕ → Core
referent (some i) g = var i
referent none (some j) = global j
referent none none = unknown

-- With the local binders, innermost first, and the names of the earlier declarations.
unfoldable pub core_of : List ℕ → Locals → List Name → Label → Core
core_of s locals globals l =
    elim (eqb l.kind ref) [
      | true ↦ referent (find_local (part s l.start l.length) locals) (find (part s l.start l.length) globals)
      | false ↦ kept
    ]

-- "A binder covers the codomain or body, never its own domain": whether a term of kind k covers its argument i.
-- An arrow: "in the codomain it counts as one binder".
abbrev pub covers : ℕ → ℕ → Bool
covers k i = (((eqb k pi || eqb k sigma) || eqb k arrow) && eqb i 1) || (eqb k lam && eqb i 0)

-- The name that a binder of kind k gives, where x stands in its place: an arrow gives none.
abbrev pub bound_name : ℕ → Name → Option Name
bound_name k x = cond (eqb k arrow) none (some x)

-- The local binders in the argument i of a term.
abbrev pub locals_in : List ℕ → Label → Locals → ℕ → Locals
locals_in s l locals i = cond (covers l.kind i) (bound_name l.kind (part s l.start l.length) ∷ locals) locals

-- A term's label, with what it becomes.
pub record Resolved : Type 0 where
  pub label : Label
  pub core : Core

-- A list of trees, resolved; `locals i` are the local binders at the tree i of the list.
abbrev pub resolve : List ℕ → (ℕ → Locals) → List Name → Forest Label → Forest Resolved
resolve s locals globals nil = nil
resolve s locals globals (node l a r) =
    node (record { label = l; core = core_of s (locals zero) globals l })
    (resolve s (locals_in s l (locals zero)) globals a)
    (resolve s (λ i. locals (suc i)) globals r)

-- A declaration's trees. Nothing is local at the top, and "a declaration is unseen in its own type and body".
abbrev pub resolve_declaration : List ℕ → List Name → Declaration → Forest Resolved
resolve_declaration s globals d = resolve s (λ i. []) globals (trees d)

pub record CoreDeclaration : Type 0 where
  pub kind : ℕ
  pub start : ℕ
  pub length : ℕ
  pub trees : Forest Resolved

-- The declarations of a module in order; each sees the names of those before it.
abbrev pub resolve_module : List ℕ → List Name → List Declaration → List CoreDeclaration
resolve_module s globals [] = []
resolve_module s globals (d ∷ l) =
    record { kind = d.kind; start = d.start; length = d.length; trees = resolve_declaration s globals d }
    ∷ resolve_module s (globals ++ (declared_name s d ∷ [])) l

abbrev pub is_unknown : Core → Bool
is_unknown kept = false
is_unknown (var i) = false
is_unknown (global j) = false
is_unknown unknown = true

-- The label of the first unknown reference, left to right.
unfoldable pub first_unknown : Forest Resolved → Option Label
first_unknown nil = none
first_unknown (node t a r) =
    elim (is_unknown t.core) [
      | true ↦ some t.label
      | false ↦ elim (first_unknown a) [ some l ↦ some l | none ↦ first_unknown r ]
    ]

-- A refused name: the class, and the span of the name that it is about.
pub record RefusedName : Type 0 where
  pub class : Class
  pub start : ℕ
  pub length : ℕ

abbrev pub refused_name : Class → ℕ → ℕ → RefusedName
refused_name c a n = record { class = c; start = a; length = n }

-- "then declarations in order: 4, its type, its body, references left to right."
-- "4 declaration name used before", "5 unknown name": the first, if there is one. `globals` are the earlier names.
unfoldable pub first_refused : List ℕ → List Name → List Declaration → Option RefusedName
first_refused s globals [] = none
first_refused s globals (d ∷ l) =
    elim (find (declared_name s d) globals) [
      | some i ↦ some (refused_name Class.DuplicateName d.start d.length)
      | none ↦ elim (first_unknown (resolve_declaration s globals d)) [
        | some u ↦ some (refused_name Class.UnknownName u.start u.length)
        | none ↦ first_refused s (globals ++ (declared_name s d ∷ [])) l
      ]
    ]
