-- Statements about calls of `binder`, each as a type; binding/proofs/Statements.antt has a proof of each.
use Rattle.token.specs.declared.Class.{Class}
use Rattle.std.specs.Prelude.{◌≡◌, ◌⊎◌, List, [], ◌∷◌, ℕ, ◌+◌, ◌*◌, ◌<◌, get_or, Ok, Err}
use Rattle.std.proofs.Math.Option.{some}
use Rattle.terms.specs.Forms.{var_kind, global_kind, arrow}
use Rattle.terms.specs.Tree.{at}
use Rattle.terms.specs.Label.{Declaration, Term}
use Rattle.surface.specs.Reader.{Position, start, Result, done, refused, nowhere}
use Rattle.surface.specs.Tables.{Lengths, Tables, lengths}
use Rattle.surface.specs.Reports.{Report, accepted, report_refusal}
use Rattle.surface.specs.Loading.{loading}
use Rattle.binding.specs.declared.Binder.{Binder}
use Rattle.binding.specs.Answer.{Binding}
use Rattle.binding.specs.Binds.{Standing, IsRef, Bound, Unbound, AsksBinder, report_binding}

-- Nothing is left free: two calls for one source and one row, with tables of equal lengths, give the same answer and leave the same tables.
abbrev pub OneAnswer : Type 0
OneAnswer =
    (s : List ℕ) (k : ℕ) (before₁ before₂ : Tables) (a b : Binding) (after₁ after₂ : Tables)
    → lengths before₁ ≡ lengths before₂ → AsksBinder s k before₁ a after₁ → AsksBinder s k before₂ b after₂ → (a ≡ b) × (after₁ ≡ after₂)

-- Every row that loading counts is the row of a term, and no other is.
abbrev pub EveryRow : Type 0
EveryRow =
    (s : List ℕ) (z : Lengths) (ds : List Declaration) (q : Position) → loading s z start ≡ done ds q
    → (k : ℕ) → (k < q.rows → Standing s ds k) × (Standing s ds k → k < q.rows)

-- "Nothing in the core changes": after an answer row k of the core table is the var with this count, or the global with this place.
abbrev pub CoreRow : ℕ → List ℕ → Binding → Type 0
CoreRow k core (Ok (Binder.Local count row)) = (get_or core (k * 8) 0 ≡ var_kind) × (get_or core (k * 8 + 1) 0 ≡ count)
CoreRow k core (Ok (Binder.Global place)) = (get_or core (k * 8) 0 ≡ global_kind) × (get_or core (k * 8 + 1) 0 ≡ place)
CoreRow k core (Err r) = Unit {0}

abbrev pub CoreKept : Type 0
CoreKept = (s : List ℕ) (k : ℕ) (before : Tables) (a : Binding) (after : Tables) → AsksBinder s k before a after → CoreRow k after.core a

-- What binds a reference is completed behind it: its row is higher.
abbrev pub BinderHigher : Type 0
BinderHigher = (s : List ℕ) (ds : List Declaration) (k count row : ℕ) → Bound s ds k count row → k < row

-- Document 02, Req 10: what binds a reference is no arrow.
abbrev pub NeverAnArrow : Type 0
NeverAnArrow =
    (s : List ℕ) (ds : List Declaration) (k count row : ℕ) (b : Bound s ds k count row) (t : Term) → at b.q b.term.whole ≡ some t
    → ¬ (t.label.kind ≡ arrow)

-- "The promises use that definition": the number and values of what a call of `binder` answers.
abbrev pub BindingReports : List ℕ → ℕ → Result (List Declaration) → Report → Type 0
BindingReports s k (refused r) n = n ≡ report_refusal r
BindingReports s k (done ds p) n =
    ((count row : ℕ) × (n ≡ accepted (count ∷ row ∷ [])) × Bound s ds k count row)
    ⊎ (((place : ℕ) × (n ≡ accepted (place ∷ [])) × Unbound s ds k place)
    ⊎ ((n ≡ report_refusal (nowhere Class.NoDeclaration)) × ((w : Standing s ds k) → IsRef w → ⊥)))

abbrev pub BinderReports : Type 0
BinderReports =
    (s : List ℕ) (k : ℕ) (before : Tables) (a : Binding) (after : Tables) → AsksBinder s k before a after
    → BindingReports s k (loading s (lengths before) start) (report_binding a)
