-- The way from the top of a type or body down to a row, and the binders that come into scope on it. A row's arguments have the rows before it, each
-- argument those from behind the one before it up to its own. Only contracts of private functions cite this.
use Rattle.token.specs.declared.Class.{Class}
use Rattle.std.specs.Prelude.{ℕ, zero, suc, ◌+◌, ◌*◌, ◌<◌, ◌≤◌, ◌≡◌, List, [], ◌∷◌, Bool, true, false, cond, eqb, leb, ltb, get_or, length, Ok, Err}
use Rattle.terms.specs.Forms.{arity_of, holds_span}
use Rattle.terms.specs.Label.{part}
use Rattle.terms.specs.Resolution.{find, covers}
use Rattle.terms.specs.Lookup.{Local, local_of, lookup, Referent, local, global, unknown, refers}
use Rattle.surface.specs.Reader.{nowhere}
use Rattle.binding.specs.declared.Binder.{Binder}
use Rattle.binding.specs.Answer.{Binding}
use Rattle.rows.specs.DeclarationRows.{row_behind}
use Rattle.scope.specs.Scope.{in_scope, declared_names}
use Rattle.elaborate.specs.RowTerm.{row_word, label_at, bound_at}
use Rattle.binder.specs.declared.Way.{Way}

-- The first of n numbers from i on that a test takes, or the number behind them.
unfoldable pub first_from : (ℕ → Bool) → ℕ → ℕ → ℕ
first_from test zero i = i
first_from test (suc n) i = elim (test i) [ true ↦ i | false ↦ first_from test n (i + 1) ]

-- The place of the declaration whose rows have row k among them.
abbrev pub declaration_with : List ℕ → ℕ → ℕ → ℕ
declaration_with declarations count k = first_from (λ j. ltb k (row_behind declarations j)) count 0

-- The row of its type, if row k is not behind that, else of its body.
abbrev pub root_with : List ℕ → ℕ → ℕ → ℕ
root_with declarations j k = cond (leb k (get_or declarations (j * 5 + 3) 0)) (get_or declarations (j * 5 + 3) 0) (get_or declarations (j * 5 + 4) 0)

-- Where in a row its arguments' rows stand.
abbrev pub behind_span : ℕ → ℕ
behind_span kind = cond (holds_span kind) 3 1

module _ (t : List ℕ) (k : ℕ) where
  -- The row of the argument i of the row `id`.
  abbrev pub child_at : ℕ → ℕ → ℕ
  child_at id i = get_or t (id * 8 + behind_span (label_at t id).kind + i) 0

  -- The argument that has row k among its rows.
  abbrev pub argument_with : ℕ → ℕ
  argument_with id = first_from (λ i. leb k (child_at id i)) (arity_of (label_at t id).kind) 0

  -- The row's binder, if it covers that argument, in front of others.
  abbrev pub entered : List ℕ → ℕ → List Local → List Local
  entered s id locals =
      cond (covers (label_at t id).kind (argument_with id)) (local_of (bound_at s t id) id ∷ locals) locals

  -- The local binders at row k, from those at the row `id`, by a way of at most so many steps.
  unfoldable pub walk : List ℕ → ℕ → ℕ → List Local → List Local
  walk s zero id locals = locals
  walk s (suc left) id locals = elim (eqb id k) [ true ↦ locals | false ↦ walk s left (child_at id (argument_with id)) (entered s id locals) ]

-- What row k refers to, among so many declarations.
abbrev pub refers_at : List ℕ → List ℕ → List ℕ → ℕ → ℕ → Referent
refers_at s surface declarations count k =
    let x = part s (row_word surface k 1) (row_word surface k 2) in
    let j = declaration_with declarations count k in
    refers (lookup x (walk surface k s 512 (root_with declarations j k) [])) (find x (declared_names s declarations 0 j))

-- A place of the list, whose number fits a word as its words do.
pub record Placed (declarations : List ℕ) (j : ℕ) : Type 0 where
  pub fits : ((i : ℕ) → get_or declarations i 0 < 4294967296) → j ≤ 4294967295
  pub listed : j * 5 ≤ length declarations

-- A step down from a row, on the way to row k.
pub record WentDown (t : List ℕ) (k : ℕ) (way : Way) (work : List ℕ) (way₁ : Way) (work₁ : List ℕ) : Type 0 where
  pub row : way₁.row ≡ child_at t k way.row (argument_with t k way.row)
  pub few : way₁.locals ≤ way.locals + 1
  pub locals : (s : List ℕ) → in_scope s work₁ way₁.locals ≡ entered t k s way.row (in_scope s work way.locals)

-- The answer, by what the reference refers to: in a source that is loaded it is known.
abbrev pub binding_of : Referent → Binding
binding_of (local f) = Ok (Binder.Local f.count f.row)
binding_of (global j) = Ok (Binder.Global j)
binding_of unknown = Err (nowhere Class.NoDeclaration)
