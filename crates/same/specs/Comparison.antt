-- Ours, beyond document 01: whether two sources leave the same core, and otherwise where they part.
use Rattle.token.specs.Refusals.{number}
use Rattle.std.specs.Prelude.{◌≡◌, List, [], ◌∷◌, map, ℕ, zero, suc, Ok, Err, Some, None}
use Rattle.token.specs.declared.Refusal.{Refusal}
use Rattle.terms.specs.Label.{Declaration, NamedDeclaration, named_declaration}
use Rattle.terms.specs.Agreement.{AgreeDeclaration}
use Rattle.surface.specs.Answer.{Answer}
use Rattle.surface.specs.Grammar.{Derives}
use Rattle.surface.specs.Agreement.{Agreement}
pub use Rattle.surface.specs.Tables.{Lengths, Tables, tables, blank}
use Rattle.surface.specs.Reports.{Report, accepted, offsets}
use Rattle.surface.specs.Loading.{Outcome, load}
use Rattle.same.specs.declared.Unloaded.{Unloaded}
use Rattle.same.specs.Answer.{Comparison}

-- Ours: two modules part at place k if the declarations before k agree, the first with the first and so on, in document 01's meaning, and
-- those at k do not, or only one module has one there.
abbrev pub PartAt : ℕ → List NamedDeclaration → List NamedDeclaration → Type 0
PartAt zero [] [] = ⊥
PartAt zero [] (e ∷ m) = Unit {0}
PartAt zero (d ∷ l) [] = Unit {0}
PartAt zero (d ∷ l) (e ∷ m) = ¬ AgreeDeclaration d e
PartAt (suc k) [] m = ⊥
PartAt (suc k) (d ∷ l) [] = ⊥
PartAt (suc k) (d ∷ l) (e ∷ m) = AgreeDeclaration d e × PartAt k l m

-- The same of two sources, each read by the grammar alone, as *agreement* has it.
pub record Parting (k : ℕ) (s t : List ℕ) : Type 0 where
  pub one : List Declaration
  pub other : List Declaration
  pub one_derives : Derives s one
  pub other_derives : Derives t other
  pub part : PartAt k (map (named_declaration s) one) (map (named_declaration t) other)

-- Ours: what is promised of the answer for two sources that both load.
abbrev pub Compares : List ℕ → List ℕ → Comparison → Type 0
Compares s t (Ok None) = Agreement s t
Compares s t (Ok (Some k)) = Parting k s t
Compares s t (Err r) = ⊥

-- Ours: a source that does not load gives its refusal, the first source's coming first. By the answers of loading the two.
abbrev pub SameAnswers : List ℕ → List ℕ → Answer → Answer → Comparison → Type 0
SameAnswers s t (Err r) b a = a ≡ Err (Unloaded.First r)
SameAnswers s t (Ok l) (Err r) a = a ≡ Err (Unloaded.Second r)
SameAnswers s t (Ok l) (Ok m) a = Compares s t a

-- Ours: a yes or a no leaves both sets of tables as loading leaves them; a refusal leaves both all 0. By the two answers, the tables
-- of the lengths z that the loading o fills.
abbrev pub left : Lengths → Outcome → Answer → Answer → Tables
left z o (Err r) b = blank z
left z o (Ok l) (Err r) = blank z
left z o (Ok l) (Ok m) = o.tables

-- What is promised of a call with the sources s and t, tables of the lengths y and z, its answer a, and the tables x and w that it leaves.
pub record SameAsked (s t : List ℕ) (y z : Lengths) (a : Comparison) (x w : Tables) : Type 0 where
  pub answers : SameAnswers s t (load s y).answer (load t z).answer a
  pub first_left : x ≡ left y (load s y) (load s y).answer (load t z).answer
  pub second_left : w ≡ left z (load t z) (load s y).answer (load t z).answer

-- Numbers and values for each case of the answer, as document 01 has them for its own: 0 and nothing for the same core, 0 and the place
-- where they part; for a refusal its class, which source it is about, 1 or 2, and its offset if it has one.
abbrev pub report_refused : ℕ → Refusal → Report
report_refused source r = record { number = number r.class; values = source ∷ offsets r.place }

abbrev pub report_comparison : Comparison → Report
report_comparison (Ok None) = accepted []
report_comparison (Ok (Some k)) = accepted (k ∷ [])
report_comparison (Err (Unloaded.First r)) = report_refused 1 r
report_comparison (Err (Unloaded.Second r)) = report_refused 2 r
