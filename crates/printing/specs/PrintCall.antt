-- Document 02, Req 03: what printing the core text of a source answers and leaves.
use Rattle.token.specs.declared.Class.{Class}
use Rattle.std.specs.Prelude.{◌≡◌, List, [], ◌∷◌, ℕ, leb, length, Ok, Err}
use Rattle.terms.specs.Label.{Declaration}
use Rattle.terms.specs.Resolution.{resolve_module}
use Rattle.terms.specs.Rows.{pad}
use Rattle.surface.specs.Reader.{start, Result, done, refused, Reader, ◌>>=◌, ◌>>◌, pure, require, nowhere}
use Rattle.surface.specs.Tables.{Lengths, Tables, lengths}
use Rattle.surface.specs.Reports.{Report, accepted, report_refusal}
use Rattle.surface.specs.Loading.{loading, outcome}
use Rattle.printing.specs.Answer.{Printed}
use Rattle.printing.specs.Printing.{print_text}

-- The core text of a source whose declarations are ds.
abbrev pub text_of : List ℕ → List Declaration → List ℕ
text_of s ds = print_text s (resolve_module s [] ds)

-- "printing refuses only after a complete load"; "14: text buffer shorter than the text, after all else". The buffer has n bytes.
unfoldable pub printing : List ℕ → Lengths → ℕ → Reader (List Declaration)
printing s z n = do
  ds ← loading s z
  require (leb (length (text_of s ds)) n) (nowhere Class.TextShort)
  pure ds

-- What a call of `print` leaves: its answer, the tables that loading is lent, and the text buffer.
pub record PrintLeft : Type 0 where
  pub answer : Printed
  pub tables : Tables
  pub text : List ℕ

abbrev pub print_leaves : Printed → Tables → List ℕ → PrintLeft
print_leaves a t b = record { answer = a; tables = t; text = b }

-- "The text buffer is 0 behind the text, whose length printing answers, and all 0 after a refusal; a print that succeeds leaves the other
-- tables as loading does."
abbrev pub print_outcome : List ℕ → Lengths → ℕ → Result (List Declaration) → PrintLeft
print_outcome s z n (refused r) = print_leaves (Err r) (outcome s z (refused r)).tables (pad n [])
print_outcome s z n (done ds p) = print_leaves (Ok (length (text_of s ds))) (outcome s z (done ds p)).tables (pad n (text_of s ds))

unfoldable pub print : List ℕ → Lengths → ℕ → PrintLeft
print s z n = print_outcome s z n (printing s z n start)

-- The promise of `print`: a call for the source s, with such tables and such a text buffer before it, gives this answer and leaves these.
abbrev pub Prints : List ℕ → Tables → List ℕ → Printed → Tables → List ℕ → Type 0
Prints s before buffer answer after buffer₁ = print_leaves answer after buffer₁ ≡ print s (lengths before) (length buffer)

-- The number and values of the answer: 0 and the text's length, or the refusal.
abbrev pub report_printed : Printed → Report
report_printed (Ok n) = accepted (n ∷ [])
report_printed (Err r) = report_refusal r
