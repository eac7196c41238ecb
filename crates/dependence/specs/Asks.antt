-- Document 01, "The core module" and refusal 12, as document 02, Req 05 and 09 amend them: the dependence question about a source.
use Rattle.token.specs.declared.Class.{Class}
use Rattle.std.specs.Prelude.{◌≡◌, List, [], ◌∷◌, ◌&&◌, ℕ, ltb, length, Ok, Some, None, Err}
use Rattle.std.proofs.Math.Option.{Option, none, some}
use Rattle.terms.specs.Label.{Declaration}
use Rattle.terms.specs.Resolution.{resolve_module}
use Rattle.surface.specs.Reader.{start, Result, done, refused, Reader, ◌>>=◌, ◌>>◌, pure, require, nowhere}
use Rattle.surface.specs.Loading.{Lengths, Tables, lengths, Left, leaves, loading, outcome}
use Rattle.surface.specs.Reports.{Report, accepted, report_refusal}
use Rattle.dependence.specs.Answer.{Dependence}
use Rattle.dependence.specs.First.{first_mention}

-- "The question loads the source first", "12 dependence asked of a place that is no declaration, nowhere, after loading".
unfoldable pub asking : List ℕ → Lengths → ℕ → ℕ → Reader (List Declaration)
asking s z i j = do
  ds ← loading s z
  require (ltb i (length ds) && ltb j (length ds)) (nowhere Class.NoDeclaration)
  pure ds

-- "A yes shall show the lowest-numbered row that qualifies": the row that is found, or a no where there is none.
abbrev pub shown : Option ℕ → Dependence
shown none = Ok None
shown (some r) = Ok (Some r)

abbrev pub answer_of : List ℕ → ℕ → ℕ → Result (List Declaration) → Dependence
answer_of s i j (refused r) = Err r
answer_of s i j (done ds p) = shown (first_mention (resolve_module s [] ds) i j)

-- What a call of `depends` leaves: "a yes or a no leaves the tables as loading does"; after a refusal, 12 included, they are all 0.
abbrev pub ask_outcome : List ℕ → ℕ → ℕ → Lengths → Result (List Declaration) → Left Dependence Tables
ask_outcome s i j z o = leaves (answer_of s i j o) (outcome s z o).tables

unfoldable pub ask : List ℕ → Lengths → ℕ → ℕ → Left Dependence Tables
ask s z i j = ask_outcome s i j z (asking s z i j start)

-- The promise of `depends`: a call for the source s and the places i and j, with such tables before it, gives this answer and leaves these
-- tables.
abbrev pub Asks : List ℕ → ℕ → ℕ → Tables → Dependence → Tables → Type 0
Asks s i j before answer after = leaves answer after ≡ ask s (lengths before) i j

-- "When an answer is an enum, a definition provides this paper's number and values for each of the enum's cases": a yes has its row.
abbrev pub report_dependence : Dependence → Report
report_dependence (Ok (Some row)) = accepted (row ∷ [])
report_dependence (Ok None) = accepted []
report_dependence (Err r) = report_refusal r
