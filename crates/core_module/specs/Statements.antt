-- The headline statements of document 02's Req 03, as types; core_module/proofs/Statements.antt has their proofs.
use Rattle.token.specs.declared.Class.{Class}
use Rattle.std.specs.Prelude.{◌≡◌, ◌↔◌, ◌⊎◌, List, [], ◌∷◌, map, false, ℕ, ◌-◌, ◌/◌, ◌≤◌, ◌<◌, length, get_or, take, Err, Ok}
use Rattle.std.proofs.Math.Option.{some}
use Rattle.token.specs.declared.Token.{Token}
use Rattle.token.specs.declared.Refusal.{Refusal}
use Rattle.core_token.specs.CoreToken.{next_core_token}
use Rattle.terms.specs.Forms.{Shape, alone, with_name, with_numeral, binding, plain, Form, form_of_kind}
use Rattle.terms.specs.TextForms.{text_forms}
use Rattle.terms.specs.Label.{Declaration}
use Rattle.terms.specs.Rows.{first_rows}
use Rattle.terms.specs.Offsets.{eighth_word}
use Rattle.surface.specs.Answer.{Answer}
use Rattle.surface.specs.Text.{text}
use Rattle.surface.specs.Grammar.{Opens, Word, Numeral}
use Rattle.surface.specs.Reader.{Position, start, done, nowhere, at_offset}
use Rattle.surface.specs.Tables.{Lengths, Tables, lengths, blank, leaves}
use Rattle.surface.specs.Loading.{load, Loads}
use Rattle.surface.specs.SameCore.{row_count, declaration_count, Accepts}
use Rattle.least_storage.specs.Statements.{is_full}
use Rattle.core_text.specs.TextReading.{string}
use Rattle.printing.specs.Answer.{Printed}
use Rattle.printing.specs.Printing.{print_module}
use Rattle.printing.specs.PrintCall.{Prints}
use Rattle.core_module.specs.CoreText.{spelled_text, reading_text, read_core, read_canonical, ReadsCore, ReadsCanonical}
use Rattle.core_module.specs.SameText.{SameText}
use Rattle.core_module.specs.Escapes.{says, written}

-- Tables in which a core text of so many rows and declarations has room.
pub record Roomy (rows declarations : ℕ) (t : Tables) : Type 0 where
  pub core : rows ≤ (lengths t).core / 8
  pub list : declarations ≤ (lengths t).declarations / 5
  pub work : 16384 ≤ (lengths t).work

-- REQ 03, THE ROUND TRIP. "Given large enough tables, and unless the Rust refuses that text, reading what was printed for an accepted source
-- yields the same core, in document 01's meaning, a var or global read from text being compared by its numeral's value." About what calls of
-- `load`, `print` and `read_core` or `read_canonical` leave, with tables of any lengths and former contents: of every load that accepts the
-- source, every print of it, and every reading of the printed text with room for what the load counts. That the Rust does not refuse the text
-- is no condition: it never does.
abbrev pub RoundTrip : Type 0
RoundTrip =
    (s : List ℕ) (before₁ : Tables) (a : Answer) (after₁ : Tables) → Loads s before₁ a after₁ → Accepts (leaves a after₁)
    → (before₂ : Tables) (buffer : List ℕ) (n : ℕ) (after₂ : Tables) (text : List ℕ) → Prints s before₂ buffer (Ok n) after₂ text
    → (lent : Tables) (b : Answer) (left : Tables) → Roomy (row_count a) (declaration_count a) lent
    → ReadsCore (take n text) lent b left ⊎ ReadsCanonical (take n text) lent b left
    → Accepts (leaves b left) × SameText s (leaves a after₁) (take n text) (leaves b left)

-- REQ 03, PRINTING. "printing refuses only after a complete load"; "14: text buffer shorter than the text, after all else": a source that is loaded
-- has a text, of at most 4,294,967,295 bytes, and is printed into every buffer that is as long.
abbrev pub PrintsLoaded : Type 0
PrintsLoaded =
    (s : List ℕ) (before : Tables) → Accepts (load s (lengths before))
    → (n : ℕ) × (n ≤ 4294967295)
    × ((buffer : List ℕ) (a : Printed) (after : Tables) (text : List ℕ) → Prints s before buffer a after text
    → (n ≤ length buffer → a ≡ Ok n) × (length buffer < n → a ≡ Err (nowhere Class.TextShort)))

-- A text that reading takes, and that is what is printed for what is read.
pub record OwnPrint (t : List ℕ) (z : Lengths) : Type 0 where
  pub declarations : List Declaration
  pub position : Position
  pub reads : reading_text t z start ≡ done declarations position
  pub printed : t ≡ print_module (map (spelled_text t) declarations)

-- REQ 03, CANONICAL TEXT, about what a call of `read_canonical` leaves: it accepts exactly the texts that `read_core` accepts and that are
-- their own print, and then it leaves what `read_core` leaves; it refuses as `read_core` does, or, where that accepts, with 13 nowhere.
abbrev pub CanonicalExactly : Type 0
CanonicalExactly =
    (t : List ℕ) (before : Tables) (a : Answer) (after : Tables) → ReadsCanonical t before a after
    → (Accepts (leaves a after) ↔ OwnPrint t (lengths before)) × (Accepts (leaves a after) → ReadsCore t before a after)
    × ((r : Refusal) → a ≡ Err r → ReadsCore t before a after ⊎ ((r ≡ nowhere Class.CoreText) × Accepts (read_core t (lengths before))))

-- The refusals that `read_core` gives for a text of n bytes: "2, 7, 9, 10 and 11 serve here too, and 6 for a core text over 4,294,967,295
-- bytes", nowhere; "13: core text that the Rust refuses for a class other than version or exhausted memory, with its offset".
pub data TextRefusal (n : ℕ) : Refusal → Type 0 where
  version : TextRefusal n (nowhere Class.Version)
  long_text : TextRefusal n (nowhere Class.LongSource)
  many_frames : TextRefusal n (nowhere Class.Frames)
  full_list : TextRefusal n (nowhere Class.DeclarationsFull)
  full_table : TextRefusal n (nowhere Class.CoreShort)
  short_work : TextRefusal n (nowhere Class.WorkShort)
  malformed : (p : ℕ) → p ≤ n → TextRefusal n (at_offset Class.CoreText p)

-- REQ 03, THE REFUSALS, about what calls of `read_core` and `read_canonical` leave: there are no others, but for 13 nowhere,
-- from `read_canonical` alone; and after a refusal every lent table is 0.
abbrev pub ReadingRefusals : Type 0
ReadingRefusals =
    (t : List ℕ) (before : Tables) (r : Refusal) (after : Tables)
    → (ReadsCore t before (Err r) after → TextRefusal (length t) r × (after ≡ blank (lengths before)))
    × (ReadsCanonical t before (Err r) after → (TextRefusal (length t) r ⊎ (r ≡ nowhere Class.CoreText)) × (after ≡ blank (lengths before)))

-- REQ 08, of a core text as of a source: a term has at least 3 bytes and a declaration at least 17, so with tables for so many bytes neither
-- call answers 9 or 10, of whatever text.
abbrev pub TextNeverFull : Type 0
TextNeverFull =
    (t : List ℕ) (z : Lengths) → length t / 3 ≤ z.core / 8 → length t / 17 ≤ z.declarations / 5
    → ((r : Refusal) → (read_core t z).answer ≡ Err r → is_full r.class ≡ false)
    × ((r : Refusal) → (read_canonical t z).answer ≡ Err r → is_full r.class ≡ false)

-- `(` and the word of the form f, from an offset on.
pub record Tagged (t : List ℕ) (at : ℕ) (f : Form) (o w : Token) : Type 0 where
  pub first : next_core_token t at ≡ Ok o
  pub here : o.start ≡ at
  pub opens : Opens o
  pub second : next_core_token t o.end ≡ Ok w
  pub tag : Word t f.word w

-- A term of the form f begins at an offset: with its word, or with `(` and its word; then comes its numeral, of which a start and a length are
-- held. No form of core text has a name.
abbrev pub BeginsAs : List ℕ → ℕ → Form → Shape → ℕ → ℕ → Type 0
BeginsAs t at f alone start n = (w : Token) × (next_core_token t at ≡ Ok w) × (w.start ≡ at) × Word t f.word w
BeginsAs t at f with_name start n = ⊥
BeginsAs t at f with_numeral start n = (o w x : Token) × Tagged t at f o w × (next_core_token t w.end ≡ Ok x) × Numeral t x × (start ≡ x.start) × (n ≡ x.end - x.start)
BeginsAs t at f binding start n = ⊥
BeginsAs t at f plain start n = (o w : Token) × Tagged t at f o w

-- A row's kind has a form, and a term of it begins at the row's eighth word.
abbrev pub RowBegins : List ℕ → List ℕ → Type 0
RowBegins t w = (f : Form) × (form_of_kind (get_or w 0 0) text_forms ≡ some f) × BeginsAs t (eighth_word w) f f.shape (get_or w 1 0) (get_or w 2 0)

abbrev pub AllBegin : List ℕ → List (List ℕ) → Type 0
AllBegin t [] = Unit {0}
AllBegin t (w ∷ l) = RowBegins t w × AllBegin t l

-- REQ 03, THE ROWS, about what a call of `read_core` leaves that accepts its text: "Var, global and universe rows there hold their numeral's start
-- and length, the eighth word the term's offset."
abbrev pub TextRows : Type 0
TextRows =
    (t : List ℕ) (before : Tables) (a : Answer) (after : Tables) → ReadsCore t before a after → Accepts (leaves a after)
    → AllBegin t (first_rows 8 (row_count a) after.core)

-- REQ 03, NAMES. Each string that is read, a declaration's name or the theory's, is what `write_string` writes for the characters that it stands
-- for. So two are spelled alike exactly if they stand for the same, and names are compared and printed as they are spelled.
abbrev pub OneSpelling : Type 0
OneSpelling = (t : List ℕ) (p q : Position) (x : Token) → string (next_core_token t) p ≡ done x q → written (says (text t x)) ≡ text t x

abbrev pub SameSpelling : Type 0
SameSpelling =
    (t u : List ℕ) (p q p₁ q₁ : Position) (x y : Token) → string (next_core_token t) p ≡ done x q → string (next_core_token u) p₁ ≡ done y q₁
    → (text t x ≡ text u y) ↔ (says (text t x) ≡ says (text u y))
