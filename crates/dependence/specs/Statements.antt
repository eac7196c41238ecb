-- Statements about the dependence question, each as a type; dependence/proofs/Statements.antt has a proof of each.
use Rattle.std.specs.Prelude.{◌≡◌, ◌↔◌, ◌⊎◌, true, ◌||◌, List, [], ◌∷◌, ℕ, ◌<◌, ◌≤◌, eqb, Ok, Some, None, Err}
use Rattle.std.proofs.Math.Option.{Option, none, some}
use Rattle.terms.specs.Label.{Declaration}
use Rattle.terms.specs.Resolution.{CoreDeclaration, resolve_module}
use Rattle.surface.specs.Reader.{Position, start, Result, done, refused}
use Rattle.surface.specs.Tables.{Lengths, Tables, lengths}
use Rattle.surface.specs.Reports.{Report, accepted, report_refusal}
use Rattle.surface.specs.Loading.{loading}
use Rattle.dependence.specs.Answer.{Dependence}
use Rattle.dependence.specs.Depends.{type_rows, body_rows, Among, Shows, Qualifies, Depends, LowestRow}
use Rattle.dependence.specs.First.{counted_rows, first_naming, is_found, shows, first_mention}
use Rattle.dependence.specs.Asks.{asking, Asks, report_dependence}

-- A core module is one that loading leaves, of some source with some tables.
abbrev pub Accepted : List CoreDeclaration → Type 0
Accepted m = (s : List ℕ) × (z : Lengths) × (ds : List Declaration) × (q : Position) × (loading s z start ≡ done ds q) × (m ≡ resolve_module s [] ds)

-- Every path of mentions ends: in an accepted source a global row of a declaration names an earlier place.
abbrev pub NamesEarlier : Type 0
NamesEarlier = (m : List CoreDeclaration) → Accepted m → (i p r : ℕ) → Among p r (type_rows 0 m i) ⊎ Among p r (body_rows 0 m i) → p < i

-- So what shows j is not before it, and what depends on j is behind it.
abbrev pub ShowsUpwards : Type 0
ShowsUpwards = (m : List CoreDeclaration) → Accepted m → (j k : ℕ) → Shows m j k → j ≤ k

abbrev pub DependsOnEarlier : Type 0
DependsOnEarlier = (m : List CoreDeclaration) → Accepted m → (i j : ℕ) → Depends m i j → j < i

-- The function of First follows the request's sentence without a word about steps, and is true exactly of what shows j.
abbrev pub ShowsRule : Type 0
ShowsRule = (m : List CoreDeclaration) → Accepted m → (j k : ℕ) → shows m j k ≡ (eqb k j || is_found (first_naming (shows m j) (counted_rows m k)))

abbrev pub ShowsExactly : Type 0
ShowsExactly = (m : List CoreDeclaration) → Accepted m → (j k : ℕ) → (shows m j k ≡ true) ↔ Shows m j k

-- DOCUMENT 02, REQ 09: the first mention is the lowest-numbered row that qualifies, and there is none exactly if i does not depend on j.
abbrev pub FirstExactly : Type 0
FirstExactly = (m : List CoreDeclaration) → Accepted m → (i j r : ℕ) → (first_mention m i j ≡ some r) ↔ LowestRow m i j r

abbrev pub NoneExactly : Type 0
NoneExactly = (m : List CoreDeclaration) → Accepted m → (i j : ℕ) → (first_mention m i j ≡ none) ↔ (¬ Depends m i j)

-- The same of any call that is not refused, with tables of any lengths: what each answer says, and that no other is given.
abbrev pub Says : List CoreDeclaration → ℕ → ℕ → Dependence → Type 0
Says m i j (Ok (Some r)) = LowestRow m i j r
Says m i j (Ok None) = ¬ Depends m i j
Says m i j (Err r) = ⊥

abbrev pub AnswersExactly : Type 0
AnswersExactly =
    (s : List ℕ) (i j : ℕ) (before : Tables) (a : Dependence) (after : Tables) → Asks s i j before a after
    → (ds : List Declaration) (q : Position) → asking s (lengths before) i j start ≡ done ds q
    → (b : Dependence) → (a ≡ b) ↔ Says (resolve_module s [] ds) i j b

-- The rows of a type come before those of its body, so that one of the type is shown where one of each qualifies.
abbrev pub TypeFirst : Type 0
TypeFirst = (m : List CoreDeclaration) (i p q r t : ℕ) → Among p r (type_rows 0 m i) → Among q t (body_rows 0 m i) → r < t

-- Direct mention, document 01's dependence, is a case of it: such a row qualifies.
abbrev pub MentionQualifies : Type 0
MentionQualifies = (m : List CoreDeclaration) (i j r : ℕ) → Among j r (type_rows 0 m i) ⊎ Among j r (body_rows 0 m i) → Qualifies m i j r

-- "The promises use that definition": the number and values of what a call of `depends` answers: 0 and the row that shows it, 0 and no value if
-- there is none, or the refusal.
abbrev pub row_values : Option ℕ → List ℕ
row_values none = []
row_values (some r) = r ∷ []

abbrev pub asking_reports : List ℕ → ℕ → ℕ → Result (List Declaration) → Report
asking_reports s i j (refused r) = report_refusal r
asking_reports s i j (done ds p) = accepted (row_values (first_mention (resolve_module s [] ds) i j))

abbrev pub AskReports : Type 0
AskReports =
    (s : List ℕ) (i j : ℕ) (before : Tables) (a : Dependence) (after : Tables) → Asks s i j before a after
    → report_dependence a ≡ asking_reports s i j (asking s (lengths before) i j start)
