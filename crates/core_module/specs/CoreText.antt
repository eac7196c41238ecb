-- Document 02, Req 03: the answer and the tables that reading a core text leaves, from the text and the tables' lengths.
use Rattle.token.specs.declared.Class.{Class}
use Rattle.std.specs.Prelude.{◌≡◌, List, [], ◌∷◌, ◌++◌, map, Bool, true, false, not, ℕ, ◌/◌, leb, eqb, length, Err}
use Rattle.std.proofs.Math.Option.{none, some}
use Rattle.words.specs.Words.{same_bytes}
use Rattle.utf8.specs.Utf8.{valid_length, byte_order_mark}
use Rattle.terms.specs.Forms.{holds_span_in}
use Rattle.terms.specs.TextForms.{text_forms}
use Rattle.terms.specs.Tree.{Cell, relabel}
use Rattle.terms.specs.Label.{Name, Label, Declaration, trees, named, declared_name}
use Rattle.terms.specs.Resolution.{find}
use Rattle.terms.specs.Rows.{row_holding, rows_by, read_records}
use Rattle.surface.specs.Answer.{Answer, loaded}
use Rattle.surface.specs.Reader.{start, Result, done, refused, Reader, ◌>>=◌, ◌>>◌, pure, require, nowhere, at_offset}
use Rattle.surface.specs.Tables.{Lengths, Tables, lengths, holding, blank, leaves}
use Rattle.surface.specs.Loading.{frame_limit, Outcome}
use Rattle.core_text.specs.TextReading.{read_text}
use Rattle.printing.specs.Printing.{Spelled, print_module}

-- The classes that are told: "13: core text that the Rust refuses for a class other than version or exhausted memory" where reading says 1;
-- "10 is given when a completed term finds the table full" where it says 8.
abbrev pub told_class : Class → Class
told_class Class.Malformed = Class.CoreText
told_class Class.SurfaceFull = Class.CoreShort
told_class c = c

abbrev pub told : {A : Type 0} → Result A → Result A
told (done a p) = done a p
told (refused r) = refused (record { class = told_class r.class; place = r.place })

-- `names.insert(..)`: whether a name stands among the earlier names, or twice in the declarations. Each character has one spelling, so
-- that names are equal exactly if their bytes between the quotes are.
unfoldable pub repeated : List ℕ → List Name → List Declaration → Bool
repeated t earlier [] = false
repeated t earlier (d ∷ l) = elim (find (declared_name t d) earlier) [ some i ↦ true | none ↦ repeated t (earlier ++ (declared_name t d ∷ [])) l ]

-- `parse_transport`. "11, then 6, come first, then 2 and 13 in the Rust's own order, with 7, 9 and 10 where its reading meets them": not UTF-8
-- (13 at the length of the longest valid beginning); leading EF BB BF (13 at 0); reading; a name used twice (13 at 0).
-- "11 work area under 16,384 words", "6 for a core text over 4,294,967,295 bytes".
unfoldable pub reading_text : List ℕ → Lengths → Reader (List Declaration)
reading_text t z = do
  require (leb 16384 z.work) (nowhere Class.WorkShort)
  require (leb (length t) 4294967295) (nowhere Class.LongSource)
  require (eqb (valid_length t) (length t)) (at_offset Class.CoreText (valid_length t))
  require (not (byte_order_mark t)) (at_offset Class.CoreText 0)
  ds ← λ p. told (read_text t (z.core / 8) (z.declarations / 5) frame_limit p)
  require (not (repeated t [] ds)) (at_offset Class.CoreText 0)
  pure ds

-- What is read, spelled: its own bytes.
abbrev pub spelled_text : List ℕ → Declaration → Spelled
spelled_text t d = record { kind = d.kind; name = declared_name t d; terms = relabel (named t) (trees d) }

-- `parse_canonical`: besides, the text is what is printed for it; else 13 nowhere.
unfoldable pub reading_canonical : List ℕ → Lengths → Reader (List Declaration)
reading_canonical t z = do
  ds ← reading_text t z
  require (same_bytes t (print_module (map (spelled_text t) ds))) (nowhere Class.CoreText)
  pure ds

-- "Var, global and universe rows there hold their numeral's start and length, the eighth word the term's offset."
abbrev pub text_row : Cell Label → List ℕ
text_row = row_holding (holds_span_in text_forms)

abbrev pub text_rows : ℕ → List Declaration → List (List ℕ)
text_rows = rows_by text_row

-- What a call leaves: its answer, and the tables, which are all 0 after a refusal. No surface table is lent.
abbrev pub text_outcome : Lengths → Result (List Declaration) → Outcome
text_outcome z (refused r) = leaves (Err r) (blank z)
text_outcome z (done ds p) = leaves (loaded p.rows (length ds)) (holding z [] (text_rows 0 ds) (read_records 0 ds))

unfoldable pub read_core : List ℕ → Lengths → Outcome
read_core t z = text_outcome z (reading_text t z start)

unfoldable pub read_canonical : List ℕ → Lengths → Outcome
read_canonical t z = text_outcome z (reading_canonical t z start)

-- The promises of `read_core` and `read_canonical`: a call for the text t, with such tables before it, gives this answer and leaves these.
abbrev pub ReadsCore : List ℕ → Tables → Answer → Tables → Type 0
ReadsCore t before answer after = leaves answer after ≡ read_core t (lengths before)

abbrev pub ReadsCanonical : List ℕ → Tables → Answer → Tables → Type 0
ReadsCanonical t before answer after = leaves answer after ≡ read_canonical t (lengths before)
