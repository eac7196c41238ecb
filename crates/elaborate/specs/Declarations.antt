-- The resolution of a declaration by its record: what `declaration_step` comes to.
-- Only contracts of private functions cite this; that it is the resolution of the declaration is proved.
use Rattle.token.specs.declared.Class.{Class}
use Rattle.std.specs.Prelude.{Result, Ok, Err, ℕ, ◌+◌, ◌*◌, ◌≤◌, ◌≡◌, List, [], cond, eqb, length, get_or}
use Rattle.std.proofs.Math.Option.{none, some}
use Rattle.terms.specs.Label.{part}
use Rattle.terms.specs.Resolution.{find, RefusedName, refused_name}
use Rattle.scope.specs.Scope.{declared_names}
use Rattle.stacks.specs.Stacks.{WorkArea}
use Rattle.elaborate.specs.RowTerm.{TermOutcome, done, unknown_at, and_then, row_term}
use Rattle.elaborate.specs.declared.RefusedName as declared

-- The tables are long enough for so many rows and declarations, and a declaration's place fits a word.
pub record Fitting (surface declarations work : List ℕ) (rows count : ℕ) : Type 0 where
  pub area : WorkArea work
  pub read : rows * 8 ≤ length surface
  pub listed : count * 5 ≤ length declarations
  pub few : count ≤ 4294967296

-- An index with nothing in it.
abbrev pub Blank : List ℕ → Type 0
Blank index = (i : ℕ) → get_or index i 0 ≡ 0

-- What resolving declarations comes to: the core table, or the refused name.
pub data ModuleOutcome : Type 0 where
  resolved : (core : List ℕ) → ModuleOutcome
  refused : RefusedName → ModuleOutcome

-- "5 unknown name"
abbrev pub module_outcome : TermOutcome → ModuleOutcome
module_outcome (done c) = resolved c
module_outcome (unknown_at a n) = refused (refused_name Class.UnknownName a n)

module _ (s surface declarations : List ℕ) (rows d : ℕ) where
  -- A type, and the body if the kind has one.
  unfoldable pub parts_outcome : ℕ → ℕ → ℕ → List ℕ → TermOutcome
  parts_outcome kind type body core =
      and_then (row_term s surface declarations rows d 512 type [] core)
      (λ c. cond (eqb kind 1) (done c) (row_term s surface declarations rows d 512 body [] c))

  abbrev pub record_word : ℕ → ℕ
  record_word j = get_or declarations (d * 5 + j) 0

  -- The type and the body of the declaration at place d.
  abbrev pub record_outcome : List ℕ → TermOutcome
  record_outcome core = parts_outcome (get_or declarations (d * 5) 0) (record_word 3) (record_word 4) core

  -- The declaration at place d. "4 declaration name used before": it is compared with those before it.
  unfoldable pub declaration_outcome : List ℕ → ModuleOutcome
  declaration_outcome core =
      elim (find (part s (record_word 1) (record_word 2)) (declared_names s declarations 0 d)) [
        | some i ↦ refused (refused_name Class.DuplicateName (record_word 1) (record_word 2))
        | none ↦ module_outcome (record_outcome core)
      ]

-- A refused name, as it is answered.
abbrev pub name_refused : RefusedName → declared.RefusedName
name_refused x = record { class = x.class; start = x.start; length = x.length }

-- The answer, and the core table.
abbrev pub Declared : ModuleOutcome → Result (Unit {0}) declared.RefusedName → List ℕ → Type 0
Declared (resolved c) r core = (r ≡ Ok tt) × (core ≡ c)
Declared (refused x) r core = r ≡ Err (name_refused x)
