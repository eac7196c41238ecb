-- What a call is lent and what it leaves: the lent tables, said once.
use Rattle.std.specs.Prelude.{List, [], ℕ, ◌*◌, length}
use Rattle.terms.specs.Rows.{pad, joined}

-- One thing of each lent table: its words, or how many they are. D: the same of the declaration list, which may be lent as records.
pub record Each (T D : Type 0) : Type 0 where
  pub surface : T
  pub core : T
  pub declarations : D
  pub work : T

-- What stands in them. A call that is not lent one of them is lent an empty one.
abbrev pub Tables : Type 0
Tables = Each (List ℕ) (List ℕ)

abbrev pub tables : List ℕ → List ℕ → List ℕ → List ℕ → Tables
tables surface core declarations work = record { surface = surface; core = core; declarations = declarations; work = work }

-- Their lengths in words.
abbrev pub Lengths : Type 0
Lengths = Each ℕ ℕ

abbrev pub lengths : Tables → Lengths
lengths t = record { surface = length t.surface; core = length t.core; declarations = length t.declarations; work = length t.work }

-- Tables that no source fills: a row and a declaration for each of its bytes, and a work area of so many words.
abbrev pub ample : List ℕ → ℕ → Lengths
ample s work = record { surface = length s * 8; core = length s * 8; declarations = length s * 5; work = work }

-- Tables of such lengths with rows and records at their beginnings: "after acceptance unused rows, unused records, words left over behind
-- the last whole row or record, and the work area are 0."
abbrev pub holding : Lengths → List (List ℕ) → List (List ℕ) → List (List ℕ) → Tables
holding z surface core declarations =
    tables (pad z.surface (joined surface)) (pad z.core (joined core)) (pad z.declarations (joined declarations)) (pad z.work [])

-- "After every refusal, 12 included, the row tables, declaration list and work area are all 0"
abbrev pub blank : Lengths → Tables
blank z = holding z [] [] []

-- Tables with the declaration list in another form, as the words that it stands for.
abbrev pub in_words : {D : Type 0} → (D → List ℕ) → Each (List ℕ) D → Tables
in_words words t = tables t.surface t.core (words t.declarations) t.work

-- What a call leaves: its answer, with the tables.
pub record Left (A T : Type 0) : Type 0 where
  pub answer : A
  pub tables : T

abbrev pub leaves : {A T : Type 0} → A → T → Left A T
leaves a t = record { answer = a; tables = t }
