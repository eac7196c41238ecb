-- The stack of work items of `elaborate_term`: what it comes to, the room that it takes, and how long it goes on.
-- Only contracts of private functions cite this.
use Rattle.std.specs.Prelude.{Result, Ok, Err, ℕ, zero, suc, ◌+◌, ◌-◌, ◌*◌, ◌≤◌, ◌<◌, ◌≡◌, List, [], ◌∷◌, ◌++◌, Bool, true, false, length, take, drop}
use Rattle.terms.specs.Forms.{counts_as, arity_of, holds_span}
use Rattle.terms.specs.Label.{Label}
use Rattle.terms.specs.Resolution.{Locals, Core, var, global, covers, is_unknown}
use Rattle.terms.specs.Rows.{row, core_words}
use Rattle.rows.specs.Places.{stored_at}
use Rattle.scope.specs.Scope.{local_names}
use Rattle.scope.specs.Index.{Indexed}
use Rattle.scope.specs.declared.Referent.{Referent}
use Rattle.stacks.specs.Stacks.{works_in, values_in, WorkArea, WorkPushed, ValuePushed}
use Rattle.stacks.specs.declared.Work.{Work}
use Rattle.elaborate.specs.RowTerm.{row_word, bound_at, six_at, TermOutcome, done, unknown_at, and_then, row_term}
use Rattle.elaborate.specs.declared.State.{State}
use Rattle.elaborate.specs.declared.UnknownName.{UnknownName}

-- The core row of the form at row `id`, of kind k in the core, with the rows of its arguments: there is no span in it.
abbrev pub form_words : List ℕ → ℕ → ℕ → List ℕ → List ℕ
form_words surface k id ids = row k ids (row_word surface id 7)

abbrev pub Six : List ℕ → Type 0
Six l = length l ≡ 6

-- Without the innermost binder.
abbrev pub outer : Locals → Locals
outer [] = []
outer (x ∷ l) = l

-- An argument's work items on top of others: where the binder of the form at row `form` covers it, its name is in scope meanwhile.
abbrev pub scheduled_one : Bool → ℕ → ℕ → ℕ → List Work → List Work
scheduled_one true form left id works = Work.PushLocal form ∷ Work.Eval id left ∷ Work.PopLocal ∷ works
scheduled_one false form left id works = Work.Eval id left ∷ works

-- The arguments of the form of kind k at row `form` from argument i on, the first on top.
unfoldable pub scheduled : ℕ → ℕ → ℕ → ℕ → List ℕ → List Work → List Work
scheduled k form left i [] works = works
scheduled k form left i (id ∷ ids) works = scheduled_one (covers k i) form left id (scheduled k form left (suc i) ids works)

-- What work items come to, with the local binders, the values and the core table.
module _ (s surface declarations : List ℕ) (rows d : ℕ) where
  unfoldable pub run : List Work → Locals → List ℕ → List ℕ → TermOutcome
  run [] locals values core = done core
  run (Work.Eval id left ∷ works) locals values core =
      and_then (row_term s surface declarations rows d left id locals core) (λ c. run works locals (values ++ (id ∷ [])) c)
  run (Work.PushLocal form ∷ works) locals values core = run works (bound_at s surface form ∷ locals) values core
  run (Work.PopLocal ∷ works) locals values core = run works (outer locals) values core
  run (Work.Build k id ∷ works) locals values core =
      run works locals (take (length values - arity_of k) values ++ (id ∷ []))
      (stored_at 8 core id (form_words surface k id (drop (length values - arity_of k) values)))

-- There is room for what is to come, with v values and l names: at most 7 work items, 5 values and a name for each of the 512 forms that may be
-- opened, and 7 * 512 is 3,584, 5 * 512 is 2,560.
unfoldable pub Room : List Work → ℕ → ℕ → Type 0
Room [] v l = Unit {0}
Room (Work.Eval id left ∷ works) v l = (length works + 7 * left ≤ 3584) × (v + 5 * left ≤ 2560) × (l + left ≤ 512) × Room works (v + 1) l
Room (Work.PushLocal form ∷ works) v l = (l < 512) × Room works v (l + 1)
Room (Work.PopLocal ∷ works) v l = (0 < l) × Room works v (l - 1)
Room (Work.Build k id ∷ works) v l = (arity_of k ≤ v) × (v ≤ arity_of k + 2560) × (l ≤ 512) × Room works (v - arity_of k + 1) l

-- A number that falls with each step.
unfoldable pub form_weight : ℕ → ℕ
form_weight zero = 1
form_weight (suc left) = 6 * form_weight left + 14

unfoldable pub weight : List Work → ℕ
weight [] = 0
weight (Work.Eval id left ∷ works) = form_weight left + weight works
weight (Work.PushLocal form ∷ works) = 1 + weight works
weight (Work.PopLocal ∷ works) = 1 + weight works
weight (Work.Build k id ∷ works) = 1 + weight works

-- The tables are long enough, a declaration's place fits a word, and the index holds the earlier declarations.
pub record RowsInside (s surface declarations index work : List ℕ) (rows d : ℕ) : Type 0 where
  pub area : WorkArea work
  pub read : rows * 8 ≤ length surface
  pub few : d ≤ 4294967295
  pub indexed : Indexed s declarations d index

-- The arguments of the form at row `id` are scheduled on top of its Build.
pub record FormScheduled (surface : List ℕ) (k id left : ℕ) (st : State) (work : List ℕ) (st₁ : State) (work₁ : List ℕ) : Type 0 where
  pub state : st₁ ≡ record { works = st₁.works; values = st.values; locals = st.locals }
  pub items : WorkPushed work work₁ st₁.works
      (scheduled k id left 0 (take (arity_of k) (six_at surface id (holds_span k))) (Work.Build (counts_as k) id ∷ works_in work st.works))

-- A row is stored, and its number is one more value.
pub record RowDone (id : ℕ) (words : List ℕ) (st : State) (core work : List ℕ) (st₁ : State) (core₁ work₁ : List ℕ) : Type 0 where
  pub row : core₁ ≡ stored_at 8 core id words
  pub value : ValuePushed work work₁ st.values id
  pub state : st₁ ≡ record { works = st.works; values = st.values + 1; locals = st.locals }

-- What a reference becomes that was found.
abbrev pub core_of_found : Referent → Core
core_of_found (Referent.Local f) = var f.count
core_of_found (Referent.Global place) = global place

-- A reference to c: its row is stored, or it is unknown.
abbrev pub ReferenceDone : Core → Label → ℕ → State → List ℕ → List ℕ → Result State UnknownName → List ℕ → List ℕ → Type 0
ReferenceDone c l id st core work (Ok st₁) core₁ work₁ = (is_unknown c ≡ false) × RowDone id (core_words l c []) st core work st₁ core₁ work₁
ReferenceDone c l id st core work (Err u) core₁ work₁ = (is_unknown c ≡ true) × (u.start ≡ l.start) × (u.length ≡ l.length)

-- The state without the values of a form's arguments.
abbrev pub without_arguments : ℕ → State → State
without_arguments k st = record { works = st.works; values = st.values - arity_of k; locals = st.locals }

-- The row of a form whose arguments are the values on top.
abbrev pub form_row : List ℕ → ℕ → ℕ → State → List ℕ → List ℕ
form_row surface k id st work = form_words surface k id (drop (st.values - arity_of k) (values_in work st.values))

module _ (s surface declarations : List ℕ) (rows d : ℕ) where
  -- What a state comes to whose work items are `works`.
  abbrev pub outcome : List Work → List ℕ → State → List ℕ → TermOutcome
  outcome works work st core = run s surface declarations rows d works (local_names s work st.locals) (values_in work st.values) core

  -- A step to another state: it comes to the same, there is less to do, and room for it.
  pub record Went (works : List Work) (work : List ℕ) (st : State) (core : List ℕ) (st₁ : State) (core₁ work₁ : List ℕ) : Type 0 where
    pub same : outcome works work st core ≡ outcome (works_in work₁ st₁.works) work₁ st₁ core₁
    pub less : weight (works_in work₁ st₁.works) < weight works
    pub room : Room (works_in work₁ st₁.works) st₁.values st₁.locals
    pub fits : st₁.works ≤ 3754

  abbrev pub WorkStepped : List Work → List ℕ → State → List ℕ → Result State UnknownName → List ℕ → List ℕ → Type 0
  WorkStepped works work st core (Ok st₁) core₁ work₁ = Went works work st core st₁ core₁ work₁
  WorkStepped works work st core (Err u) core₁ work₁ = outcome works work st core ≡ unknown_at u.start u.length

-- The answer, and the core table.
abbrev pub Answered : TermOutcome → Result (Unit {0}) UnknownName → List ℕ → Type 0
Answered (done c) r core = (r ≡ Ok tt) × (core ≡ c)
Answered (unknown_at a n) r core = r ≡ Err (record { start = a; length = n })
