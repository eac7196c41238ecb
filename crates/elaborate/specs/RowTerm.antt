-- The resolution of a term by a plain recursion over its rows: what `elaborate_term` comes to.
-- Only contracts of private functions cite this; that it is the resolution of the tree is proved.
use Rattle.std.specs.Prelude.{ℕ, zero, suc, ◌+◌, ◌*◌, List, [], ◌∷◌, Bool, true, false, ltb, get_or, take}
use Rattle.std.proofs.Math.Option.{Option}
use Rattle.terms.specs.Forms.{arity_of, holds_span}
use Rattle.terms.specs.Label.{Name, part, Label}
use Rattle.terms.specs.Resolution.{Locals, Core, core_of, bound_name, locals_in, is_unknown}
use Rattle.terms.specs.Rows.{core_words}
use Rattle.rows.specs.Places.{stored_at}
use Rattle.scope.specs.Scope.{declared_names}

-- Word j of a row.
abbrev pub row_word : List ℕ → ℕ → ℕ → ℕ
row_word t id j = get_or t (id * 8 + j) 0

-- What a row says of its term. Where the kind has no span, nothing looks at the start and the length.
abbrev pub label_at : List ℕ → ℕ → Label
label_at t id = record { kind = get_or t (id * 8) 0; start = row_word t id 1; length = row_word t id 2; offset = row_word t id 7 }

-- The name that the form at a row binds: an arrow binds none.
abbrev pub bound_at : List ℕ → List ℕ → ℕ → Option Name
bound_at s t id = bound_name (label_at t id).kind (part s (row_word t id 1) (row_word t id 2))

-- The six words that can hold children: behind a span there are at most two.
unfoldable pub six_at : List ℕ → ℕ → Bool → List ℕ
six_at t id true = row_word t id 3 ∷ row_word t id 4 ∷ 0 ∷ 0 ∷ 0 ∷ 0 ∷ []
six_at t id false = row_word t id 1 ∷ row_word t id 2 ∷ row_word t id 3 ∷ row_word t id 4 ∷ row_word t id 5 ∷ row_word t id 6 ∷ []

abbrev pub children_at : List ℕ → ℕ → List ℕ
children_at t id = take (arity_of (label_at t id).kind) (six_at t id (holds_span (label_at t id).kind))

-- What resolving a term comes to: the core table, or the span of the first unknown reference.
pub data TermOutcome : Type 0 where
  done : (core : List ℕ) → TermOutcome
  unknown_at : (start length : ℕ) → TermOutcome

unfoldable pub and_then : TermOutcome → (List ℕ → TermOutcome) → TermOutcome
and_then (done c) f = f c
and_then (unknown_at a n) f = unknown_at a n

-- The arguments in order, with R for one of them; `locals i` are the local binders in argument i.
unfoldable pub arguments : (ℕ → Locals → List ℕ → TermOutcome) → (ℕ → Locals) → List ℕ → List ℕ → TermOutcome
arguments R locals [] core = done core
arguments R locals (id ∷ ids) core = and_then (R id (locals zero) core) (λ c. arguments R (λ i. locals (suc i)) ids c)

-- s: the source; surface: the rows read, of which there are `rows`; the first d declarations are the earlier ones.
module _ (s surface declarations : List ℕ) (rows d : ℕ) where
  abbrev pub core_at : ℕ → Locals → Core
  core_at id locals = core_of s locals (declared_names s declarations 0 d) (label_at surface id)

  -- A row, with R for its arguments. A row that is not there counts as an unknown reference without a name.
  unfoldable pub visit : (ℕ → Locals → List ℕ → TermOutcome) → ℕ → Locals → List ℕ → TermOutcome
  visit R id locals core =
      elim (ltb id rows) [
        | false ↦ unknown_at 0 0
        | true ↦ elim (is_unknown (core_at id locals)) [
          | true ↦ unknown_at (row_word surface id 1) (row_word surface id 2)
          | false ↦
              and_then (arguments R (locals_in s (label_at surface id) locals) (children_at surface id) core)
              (λ c. done (stored_at 8 c id (core_words (label_at surface id) (core_at id locals) (children_at surface id))))
        ]
      ]

  -- A row in which so many forms may still be opened: a form that is one too many counts as an unknown reference without a name.
  unfoldable pub row_term : ℕ → ℕ → Locals → List ℕ → TermOutcome
  row_term zero id locals core = visit (λ j l c. unknown_at 0 0) id locals core
  row_term (suc left) id locals core = visit (row_term left) id locals core
