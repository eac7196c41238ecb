-- How the text is made from the rows: from the last to the first, with a stack of the terms whose arguments are not all written yet. Rows are
-- stored in the order in which terms are completed, so that no row's children are looked up: a term's row comes first, then those of its
-- last argument, and so on.
use Rattle.token.specs.declared.Class.{Class}
use Rattle.std.specs.Prelude.{◌≡◌, List, [], ◌∷◌, ◌++◌, Bool, true, false, cond, ℕ, zero, suc, ◌+◌, ◌-◌, ◌*◌, ◌/◌, ◌%◌, ◌≤◌, ◌<◌, eqb, length, get_or, Ok, Err}
use Rattle.std.proofs.Math.Option.{none, some}
use Rattle.terms.specs.Forms.{form_of_kind, arity_of, universe, holds_span_in}
use Rattle.terms.specs.Label.{Name, part, Named}
use Rattle.terms.specs.Rows.{pad}
use Rattle.surface.specs.Reader.{nowhere}
use Rattle.surface.specs.Tables.{Tables, tables, lengths, blank}
use Rattle.rows.specs.DeclarationRows.{row_behind, first_row}
use Rattle.terms.specs.TextForms.{text_forms}
use Rattle.printing.specs.Answer.{Printed}
use Rattle.printing.specs.Decimal.{decimal}
use Rattle.printing.specs.Printing.{print_form, declaration_word, text_head}
use Rattle.printing.specs.PrintCall.{print_leaves}
use Rattle.printer.specs.declared.Marks.{Marks}
use Rattle.printer.specs.declared.Row.{Row}
use Rattle.printer.specs.inner.Ends.{Written, Stacked, pushed}

-- The frames, the innermost first, and the text that is written so far. A frame is a word: a term's kind times 8, and how many of its
-- arguments are still to come.
pub record Machine : Type 0 where
  pub stack : List ℕ
  pub text : List ℕ

abbrev pub machine : List ℕ → List ℕ → Machine
machine l t = record { stack = l; text = t }

-- They stand in the work area and in the buffer.
pub record Stands (work out : List ℕ) (m : Machine) (at top : ℕ) : Type 0 where
  pub frames : Stacked work m.stack top
  pub written : Written out m.text at

-- Whatever stands there, a call does f to it.
pub record Turns (work out : List ℕ) (marks : Marks) (f : Machine → Machine) (work₁ out₁ : List ℕ) (marks₁ : Marks) : Type 0 where
  pub turn : (m : Machine) → Stands work out m marks.at marks.top → Stands work₁ out₁ (f m) marks₁.at marks₁.top

-- The word of a kind that has a form, and how a term with arguments begins.
unfoldable pub text_word : ℕ → List ℕ
text_word k = elim (form_of_kind k text_forms) [ none ↦ [] | some f ↦ f.word ]

unfoldable pub opening : ℕ → List ℕ
opening k = 32 ∷ 40 ∷ text_word k

-- A term without arguments.
unfoldable pub leaf : Named → List ℕ
leaf x = 32 ∷ print_form (form_of_kind x.kind text_forms) x.name []

-- The top frame has one argument less to come, if there is a frame.
unfoldable pub taken : List ℕ → List ℕ
taken [] = []
taken (w ∷ l) = (w - 1) ∷ l

-- A term is an argument of the top frame. Without arguments of its own it is written; with some it is closed, and a frame.
unfoldable pub enter : ℕ → Named → Machine → Machine
enter limit x m =
    elim (eqb (arity_of x.kind) 0) [
      | true ↦ machine (taken m.stack) (leaf x ++ m.text)
      | false ↦ machine (pushed limit (x.kind * 8 + arity_of x.kind) (taken m.stack)) (41 ∷ m.text)
    ]

-- Frames whose arguments are all written are opened.
unfoldable pub settled : List ℕ → List ℕ → Machine
settled [] t = machine [] t
settled (w ∷ l) t = elim (eqb (w % 8) 0) [ true ↦ settled l (opening (w / 8) ++ t) | false ↦ machine (w ∷ l) t ]

abbrev pub settle : Machine → Machine
settle m = settled m.stack m.text

unfoldable pub step : ℕ → Named → Machine → Machine
step limit x m = settle (enter limit x m)

-- The words that the code has read.
pub record Holds (t : List ℕ) (at : ℕ) (r : Row) : Type 0 where
  pub kind : r.kind ≡ get_or t at 0
  pub a : r.a ≡ get_or t (at + 1) 0
  pub b : r.b ≡ get_or t (at + 2) 0

-- The term of a core row, by its first three words: a universe's digits stand in the source.
unfoldable pub numeral_of : List ℕ → ℕ → ℕ → ℕ → Name
numeral_of s k a b = cond (eqb k universe) (part s a b) (decimal a)

-- Whether a term of a kind holds a numeral: var, global and universe.
abbrev pub holds_numeral : ℕ → Bool
holds_numeral k = holds_span_in text_forms k

abbrev pub spelled_row : List ℕ → ℕ → ℕ → ℕ → Named
spelled_row s k a b = record { kind = k; name = cond (holds_numeral k) (numeral_of s k a b) [] }

unfoldable pub row_at : List ℕ → List ℕ → ℕ → Named
row_at s core k = spelled_row s (get_or core (k * 8) 0) (get_or core (k * 8 + 1) 0) (get_or core (k * 8 + 2) 0)

-- What is done for each number of n from `first` on, the last first.
unfoldable pub down : {A : Type 0} → (ℕ → A → A) → ℕ → ℕ → A → A
down f first zero a = a
down f first (suc n) a = down f first n (f (first + n) a)

unfoldable pub step_row : List ℕ → List ℕ → ℕ → ℕ → Machine → Machine
step_row s core limit k m = step limit (row_at s core k) m

-- How a declaration begins, by the first three words of its record.
unfoldable pub declaration_start : List ℕ → ℕ → ℕ → ℕ → List ℕ
declaration_start s k a b = 32 ∷ 40 ∷ (declaration_word k ++ (32 ∷ 34 ∷ (part s a b ++ (34 ∷ []))))

unfoldable pub start_at : List ℕ → List ℕ → ℕ → List ℕ
start_at s declarations i = declaration_start s (get_or declarations (i * 5) 0) (get_or declarations (i * 5 + 1) 0) (get_or declarations (i * 5 + 2) 0)

-- A text that stands in no term.
abbrev pub aside : List ℕ → Machine → Machine
aside w m = machine m.stack (w ++ m.text)

-- A declaration is closed, its rows are written, and it is begun.
unfoldable pub step_declaration : List ℕ → List ℕ → List ℕ → ℕ → ℕ → Machine → Machine
step_declaration s core declarations limit i m =
    aside (start_at s declarations i)
    (down (step_row s core limit) (first_row declarations i) (row_behind declarations i - first_row declarations i) (aside (41 ∷ []) m))

-- The text of a core table and a declaration list with so many declarations.
unfoldable pub whole : List ℕ → List ℕ → List ℕ → ℕ → ℕ → Machine
whole s core declarations limit count =
    aside text_head (down (step_declaration s core declarations limit) 0 count (machine [] (41 ∷ 41 ∷ 10 ∷ [])))

-- What is left where such a text was written, and no frame is left, from the tables and the buffer before: the text where it fits, and 14
-- where it does not.
pub record Finishes (m : Machine) (before : Tables) (text : List ℕ) (r : Printed) (after : Tables) (text₁ : List ℕ) : Type 0 where
  pub fits : m.stack ≡ [] → length m.text ≤ length text
      → print_leaves r after text₁
      ≡ print_leaves (Ok (length m.text)) (tables before.surface before.core before.declarations (pad (length before.work) [])) (pad (length text) m.text)
  pub over : m.stack ≡ [] → length text < length m.text
      → print_leaves r after text₁ ≡ print_leaves (Err (nowhere Class.TextShort)) (blank (lengths before)) (pad (length text) [])
