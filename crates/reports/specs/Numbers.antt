-- The answers as plain numbers, for C and Rust.
use Rattle.std.specs.Prelude.{◌≡◌, cond, List, [], ◌∷◌, ◌++◌, ℕ, leb, length, get_or, take, drop}
use Rattle.surface.specs.Reports.{Report, report}
use Rattle.surface.specs.Tables.{Left}
use Rattle.lister.specs.declared.Listed.{Listed}
use Rattle.reports.specs.declared.Numbers.{Numbers}

-- The number and values of a listing: what loading reports, and then the length of the text.
abbrev pub report_listed : Listed → Report
report_listed l = record { number = (report l.answer).number; values = (report l.answer).values ++ (l.length ∷ []) }

-- A report by value: how many values follow, and these; then 0.
abbrev pub numbers : Report → Numbers
numbers r = record { number = r.number; count = length r.values; first = get_or r.values 0 0; second = get_or r.values 1 0; third = get_or r.values 2 0 }

abbrev pub words : Numbers → List ℕ
words x = x.count ∷ x.first ∷ x.second ∷ x.third ∷ []

-- A lent table with the first n of some words at its beginning, where there is room for them.
abbrev pub told : ℕ → List ℕ → List ℕ → List ℕ
told n t l = cond (leb n (length t)) (take n l ++ drop n t) t

-- What an exported function leaves: its result, the lent table that takes the numbers, and the other tables.
pub record Tells (T : Type 0) : Type 0 where
  pub number : ℕ
  pub answer : List ℕ
  pub tables : T

abbrev pub tells : {T : Type 0} → ℕ → List ℕ → T → Tells T
tells number answer t = record { number = number; answer = answer; tables = t }

-- What it leaves where a definition says what the call leaves: the answer's number as the result, and n numbers of its report in the lent table.
abbrev pub telling : {A T : Type 0} → (A → Report) → ℕ → List ℕ → Left A T → Tells T
telling reported n answer o = tells (reported o.answer).number (told n answer (words (numbers (reported o.answer)))) o.tables

-- The same where a promise says it otherwise: an answer that is promised of the call, and what is told of it.
pub record Told {A : Type 0} (Promised : A → Type 0) (reported : A → Report) (n : ℕ) (answer : List ℕ) (number : ℕ) (answer₁ : List ℕ) : Type 0 where
  pub given : A
  pub promised : Promised given
  pub number_told : number ≡ (reported given).number
  pub values_told : answer₁ ≡ told n answer (words (numbers (reported given)))
