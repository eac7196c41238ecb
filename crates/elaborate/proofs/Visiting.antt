-- What a row's resolution comes to, case by case.
use Prim.Native.Nat.{ℕ, zero, suc, ◌*◌}
use mathlib.Core.Path.{◌≡◌, refl, ◌∙◌, ap}
use mathlib.Core.List.{List, []}
use mathlib.Core.Bool.{true, false}
use lib.Dec.{ltb}
use lib.ListN.{get_or}
use Rattle.terms.specs.Forms.{arity_of}
use Rattle.terms.specs.Resolution.{Locals, Core, locals_in, is_unknown}
use Rattle.terms.specs.Rows.{core_words}
use Rattle.rows.specs.Places.{stored_at}
use Rattle.elaborate.specs.RowTerm.{row_word, label_at, children_at, TermOutcome, done, unknown_at, and_then, arguments, core_at, visit, row_term}

module _ (s surface declarations : List ℕ) (rows d : ℕ) where
  abbrev At : ℕ → Locals → Core
  At = core_at s surface declarations rows d

  -- The resolution of the arguments of a row in which so many forms may still be opened.
  abbrev pub inner : ℕ → ℕ → Locals → List ℕ → TermOutcome
  inner zero id locals core = unknown_at 0 0
  inner (suc left) id locals core = row_term s surface declarations rows d left id locals core

  pub row_visit : (left id : ℕ) (locals : Locals) (core : List ℕ) → row_term s surface declarations rows d left id locals core ≡ visit s surface declarations rows d (inner left) id locals core
  unfolding row_term
  row_visit zero id locals core = refl
  row_visit (suc left) id locals core = refl

  module _ (R : ℕ → Locals → List ℕ → TermOutcome) (id : ℕ) (locals : Locals) (core : List ℕ) where
    abbrev visited : TermOutcome
    visited = visit s surface declarations rows d R id locals core

    pub visit_out : ltb id rows ≡ false → visited ≡ unknown_at 0 0
    unfolding visit
    visit_out e = rw (e, visit)

    pub visit_unknown : ltb id rows ≡ true → is_unknown (At id locals) ≡ true → visited ≡ unknown_at (row_word surface id 1) (row_word surface id 2)
    unfolding visit
    visit_unknown e u = rw (e, u, visit)

    pub visit_known : ltb id rows ≡ true → is_unknown (At id locals) ≡ false
        → visited ≡ and_then (arguments R (locals_in s (label_at surface id) locals) (children_at surface id) core)
        (λ c. done (stored_at 8 c id (core_words (label_at surface id) (At id locals) (children_at surface id))))
    unfolding visit
    visit_known e u = rw (e, u, visit)

    -- A term that has no arguments.
    pub visit_leaf : ltb id rows ≡ true → is_unknown (At id locals) ≡ false → arity_of (get_or surface (id * 8) 0) ≡ 0
        → visited ≡ done (stored_at 8 core id (core_words (label_at surface id) (At id locals) []))
    unfolding and_then arguments
    visit_leaf e u z =
        let none : children_at surface id ≡ [] = rw z in
        visit_known e u
        ∙ ap (λ (l : List ℕ). and_then (arguments R (locals_in s (label_at surface id) locals) l core)
        (λ c. done (stored_at 8 c id (core_words (label_at surface id) (At id locals) l)))) none
