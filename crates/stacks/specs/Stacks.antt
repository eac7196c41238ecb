-- The three stacks in the work area: local binders, the starts and lengths of their names from word 0, the rows of their forms from word 1,024 and the kinds
-- from word 1,536; values from word 2,048; work items from word 5,120. There is room for 512 binders, for 3,072 values, and for 3,754 work items of three words.
use Rattle.std.specs.Prelude.{ℕ, zero, suc, ◌+◌, ◌*◌, ◌≤◌, ◌≡◌, List, [], ◌∷◌, ◌++◌, true, false, length, get_or, eqb}
use Rattle.terms.specs.Label.{part}
use Rattle.terms.specs.Resolution.{bound_name}
use Rattle.terms.specs.Lookup.{local_of}
use Rattle.scope.specs.Scope.{in_scope}
use Rattle.stacks.specs.declared.Work.{Work}

-- How many local binders, values and work items there is room for.
abbrev pub names_room : ℕ
names_room = 512

abbrev pub values_room : ℕ
values_room = 3072

abbrev pub works_room : ℕ
works_room = 3754

-- A work item's three words: 0 Eval, 1 PushLocal, 2 PopLocal, otherwise Build; and what it holds.
unfoldable pub work_of : ℕ → ℕ → ℕ → Work
work_of op a b =
    elim (eqb op 0) [
      | true ↦ Work.Eval a b
      | false ↦ elim (eqb op 1) [
        | true ↦ Work.PushLocal a
        | false ↦ elim (eqb op 2) [ true ↦ Work.PopLocal | false ↦ Work.Build a b ]
      ]
    ]

-- The first t work items, the one on top in front.
unfoldable pub works_in : List ℕ → ℕ → List Work
works_in w zero = []
works_in w (suc t) = work_of (get_or w (5120 + t * 3) 0) (get_or w (5120 + t * 3 + 1) 0) (get_or w (5120 + t * 3 + 2) 0) ∷ works_in w t

-- The first v values, the lowest in front.
unfoldable pub values_in : List ℕ → ℕ → List ℕ
values_in w zero = []
values_in w (suc v) = values_in w v ++ (get_or w (2048 + v) 0 ∷ [])

-- "11 work area under 16,384 words"
abbrev pub WorkArea : List ℕ → Type 0
WorkArea w = 16384 ≤ length w

-- The work items have become `items`, of which there are t; the other stacks are as they were.
pub record WorkPushed (w w' : List ℕ) (t : ℕ) (items : List Work) : Type 0 where
  pub works : works_in w' t ≡ items
  pub values : (v : ℕ) → v ≤ values_room → values_in w' v ≡ values_in w v
  pub locals : (s : List ℕ) (l : ℕ) → l ≤ names_room → in_scope s w' l ≡ in_scope s w l

pub record ValuePushed (w w' : List ℕ) (v value : ℕ) : Type 0 where
  pub works : (t : ℕ) → works_in w' t ≡ works_in w t
  pub values : values_in w' (v + 1) ≡ values_in w v ++ (value ∷ [])
  pub locals : (s : List ℕ) (l : ℕ) → l ≤ names_room → in_scope s w' l ≡ in_scope s w l

-- A form's binder has come into scope.
pub record LocalPushed (w w' : List ℕ) (l kind start n row : ℕ) : Type 0 where
  pub works : (t : ℕ) → works_in w' t ≡ works_in w t
  pub values : (v : ℕ) → values_in w' v ≡ values_in w v
  pub locals : (s : List ℕ) → in_scope s w' (l + 1) ≡ local_of (bound_name kind (part s start n)) row ∷ in_scope s w l
