-- What the parts of `read_core` store, before the tables are cleared behind it.
use Rattle.token.specs.declared.Class.{Class}
use Rattle.std.specs.Prelude.{◌≡◌, cond, List, [], ℕ, ◌*◌, ◌/◌, ◌≤◌, length, take, Ok, Err}
use Rattle.token.specs.declared.Refusal.{Refusal}
use Rattle.terms.specs.Label.{Declaration}
use Rattle.terms.specs.Rows.{joined, read_records}
use Rattle.surface.specs.Answer.{Answer, loaded}
use Rattle.surface.specs.Reader.{Result, done, refused, nowhere, at_offset}
use Rattle.surface.specs.SameCore.{row_count, declaration_count}
use Rattle.reader.specs.Answers.{ModuleRead}
use Rattle.core_module.specs.CoreText.{told_class, repeated, text_rows}

-- A refusal with the number that is told.
abbrev pub told_refusal : Refusal → Refusal
told_refusal r = record { class = told_class r.class; place = r.place }

-- The answer before the tables are cleared behind what was stored: rows and records stand at the beginning of their tables.
abbrev pub StoresText : Result (List Declaration) → Answer → List ℕ → List ℕ → Type 0
StoresText (done ds q) r core declarations =
    (r ≡ loaded q.rows (length ds))
    × (take (q.rows * 8) core ≡ joined (text_rows 0 ds))
    × (take (length ds * 5) declarations ≡ joined (read_records 0 ds))
StoresText (refused x) r core declarations = r ≡ Err x

-- There is room for what the answer counts.
pub record CountsText (r : Answer) (core declarations : List ℕ) : Type 0 where
  pub rows : row_count r ≤ length core / 8
  pub records : declaration_count r ≤ length declarations / 5

-- The answer for what was read: "13 at 0" where a name is used twice.
abbrev pub Judges : List ℕ → ModuleRead → List ℕ → Answer → Type 0
Judges t (Err x) list r = r ≡ Err (told_refusal x)
Judges t (Ok l) list r =
    (ds : List Declaration) → l.declarations ≡ length ds → l.declarations * 5 ≤ length list → l.declarations ≤ 4294967295
    → take (l.declarations * 5) list ≡ joined (read_records 0 ds) → r ≡ cond (repeated t [] ds) (Err (at_offset Class.CoreText 0)) (Ok l)

-- The answer where the text must be its own print.
abbrev pub own_print : Answer → Answer
own_print (Ok l) = Err (nowhere Class.CoreText)
own_print (Err x) = Err x
