-- The listing's input printed, what reading that leaves, and points of Req 03 that are easy to misread, computed by the definitions.
use Rattle.token.specs.declared.Class.{Class}
use Rattle.std.specs.Prelude.{Err}
use mathlib.Core.Path.{◌≡◌, refl}
use mathlib.Core.List.{List, [], ◌∷◌, ◌++◌, map}
use Prim.Native.Nat.{ℕ}
use Prim.Native.String.{String}
use lib.ListN.{length}
use Rattle.std.specs.Prelude.{Ok, Err}
use Rattle.token.specs.Token.{byte_class, layout_end, atom_from, token_here, next_token}
use Rattle.core_token.specs.CoreToken.{core_class, string_class, core_atom_from, string_from, core_token_from, next_core_token}
use Rattle.words.specs.Words.{ascii, same_bytes, reserved_words, place_in, word_index, reserved, reserved_0_2, all, identifier, numeral}
use Rattle.utf8.specs.Utf8.{table_3_7, following, valid_from, valid_length, byte_order_mark}
use Rattle.terms.specs.Forms.{forms, forms_0_2, edition_0_1, edition_0_2, form_of_word, form_of_kind, holds_span_in}
use Rattle.terms.specs.TextForms.{text_forms}
use Rattle.terms.specs.Resolution.{find, find_local, core_of, first_unknown, first_refused}
use Rattle.terms.specs.Rows.{pad}
use Rattle.surface.specs.Answer.{Answer, loaded}
use Rattle.surface.specs.Reader.{nowhere, at_offset}
use Rattle.surface.specs.Reading.{store, finish, several, term, token, opening, closing, atom, word, natural, declaration_kind, name, bare, tagged, known, beginning_on, beginning, body, declared, declaration, ending, onwards, declarations, edition_of, supported, surface_line, module_line, head, read_module}
use Rattle.surface.specs.Tables.{Lengths, tables, leaves}
use Rattle.surface.specs.Loading.{parsing, reading, loading, Outcome}
use Rattle.surface.specs.Card.{listing_lengths}
use Rattle.core_text.specs.TextReading.{text_edition, string, end_token, text_head, declarations_line, read_text}
use Rattle.printing.specs.Decimal.{digits, decimal}
use Rattle.printing.specs.Printing.{print_shape, print_form, print_terms, declaration_word, print_declarations, print_module, print_text}
use Rattle.printing.specs.PrintCall.{printing, print}
use Rattle.core_module.specs.CoreText.{repeated, reading_text, reading_canonical, read_core, read_canonical}

-- The listing's input, and what is printed for it.
abbrev listed : List ℕ
listed = ascii "(surface 0 1)(module m)(postulate x nat)(postulate y (pi x (ref x) (ref x)))"

abbrev printed : List ℕ
printed = ascii "(hott-core (format 0 1) (theory \"mltt-core\" 0 1) (declarations (postulate \"x\" nat) (postulate \"y\" (pi (global 0) (var 0)))))" ++ (10 ∷ [])

-- The text in a longer buffer, and one byte too few.
pub listing_printed :
    ((print listed listing_lengths 130).answer ≡ Ok (length printed))
    × ((print listed listing_lengths 130).text ≡ pad 130 printed)
    × ((print listed listing_lengths 124).answer ≡ Err (nowhere Class.TextShort))
unfolding byte_class layout_end atom_from token_here next_token same_bytes reserved_words place_in word_index reserved reserved_0_2 all identifier numeral table_3_7 following valid_from valid_length byte_order_mark forms forms_0_2 edition_0_1 edition_0_2 form_of_word form_of_kind find find_local core_of first_unknown first_refused store finish several term token opening closing atom word natural declaration_kind name bare tagged known beginning_on beginning body declared declaration ending onwards declarations edition_of supported surface_line module_line head read_module parsing reading loading text_forms digits decimal print_shape print_form print_terms declaration_word print_declarations print_module print_text printing print
listing_printed = (refl, refl, refl)

-- A text and what the reader leaves for it.
pub record Point : Type 0 where
  pub reads : List ℕ → Lengths → Outcome
  pub lent : Lengths
  pub text : List ℕ
  pub gives : Answer

abbrev lends : ℕ → ℕ → ℕ → Lengths
lends a b c = record { surface = 0; core = a; declarations = b; work = c }

abbrev generous : Lengths
generous = lends 8192 1280 16384

-- Of `read_core`, and of `read_canonical`, with generous tables.
abbrev core : List ℕ → Answer → Point
core t a = record { reads = read_core; lent = generous; text = t; gives = a }

abbrev canonical : List ℕ → Answer → Point
canonical t a = record { reads = read_canonical; lent = generous; text = t; gives = a }

-- Of `read_core` with others.
abbrev lent : Lengths → List ℕ → Answer → Point
lent z t a = record { reads = read_core; lent = z; text = t; gives = a }

abbrev at : ℕ → Answer
at offset = Err (at_offset Class.CoreText offset)

abbrev no_place : Class → Answer
no_place class = Err (nowhere class)

-- The head, as tight as it can be, and what follows it.
abbrev T : String → List ℕ
T w = ascii "(hott-core(format 0 1)(theory\"mltt-core\"0 1)(declarations" ++ ascii w

abbrev pub points : List Point
points =
    core (T "))") (loaded 0 0) ∷
    core [] (at 0) ∷
    core (T ")") (at 58) ∷
    core (T ")))") (at 59) ∷
    -- canonical texts: what is printed, and nothing else
    canonical printed (loaded 4 2) ∷
    canonical (T "))") (no_place Class.CoreText) ∷
    canonical (T ")") (at 58) ∷
    -- no comments: `;` is an atom's byte
    core (T " ;c") (at 58) ∷
    core (T "(postulate\"a\"nat;x)))") (at 70) ∷
    -- strings touch their neighbours, hold any character but the forbidden ones, and are refused where their fault is
    core (T "(postulate\"nat \\\"\\\\\"nat)))") (loaded 1 1) ∷
    core (T "(postulate\"\"nat)))") (at 67) ∷
    core (T "(postulate\"a") (at 67) ∷
    core (T "(postulate\"a\\n\"nat)))") (at 69) ∷
    core (T "(postulate\"a" ++ ((194 ∷ 159 ∷ []) ++ ascii "\"nat)))")) (at 69) ∷
    core (T "(postulate\"a" ++ ((194 ∷ 160 ∷ []) ++ ascii "\"nat)))")) (loaded 1 1) ∷
    core (T "(postulate a nat)))") (at 68) ∷
    -- numerals are not looked at
    core (T "(postulate\"a\"(var 99999999999999999999999))))") (loaded 1 1) ∷
    core (T "(postulate\"a\"(var 00))))") (at 75) ∷
    core (T "(postulate\"a\"(ref a))))") (at 71) ∷
    core (T "(postulate\"a\"(arrow nat nat))))") (at 71) ∷
    core (T "(postulate\"a\"(pi nat))))") (at 77) ∷
    -- a name used twice: 13 at 0, behind the end
    core (T "(postulate\"a\"nat)(opaque\"a\"nat nat)))") (at 0) ∷
    core (T "(postulate\"a\"nat)(opaque\"a\"nat nat)))]") (at 94) ∷
    -- versions: 2 behind the theory's parenthesis, whatever differs
    core (ascii "(hott-core (format 9 9) (theory \"x\" 0 1") (at 39) ∷
    core (ascii "(hott-core (format 9 9) (theory \"x\" 0 1)") (no_place Class.Version) ∷
    core (ascii "(hott-core (format 0 2) (theory \"mltt-core\" 0 1)") (no_place Class.Version) ∷
    core (ascii "(hott-core (format 0 01) (theory \"x\" 0 1)") (at 21) ∷
    -- order: 11, UTF-8, the mark; 9 at the parenthesis, 10 behind a completed term
    lent (lends 8192 1280 16383) [] (no_place Class.WorkShort) ∷
    core (ascii "]" ++ (255 ∷ [])) (at 1) ∷
    core ((239 ∷ 187 ∷ 191 ∷ []) ++ T "))") (at 0) ∷
    lent (lends 8192 4 16384) (T "(]") (no_place Class.DeclarationsFull) ∷
    lent (lends 7 1280 16384) (T "(postulate\"a\"nat") (no_place Class.CoreShort) ∷
    lent (lends 15 1280 16384) (T "(postulate\"a\"(fst nat)") (no_place Class.CoreShort) ∷
    lent (lends 15 1280 16384) (T "(postulate\"a\"(fst nat") (at 78) ∷
    []

-- What reading the printed text leaves: var and global rows hold their numeral's span, the eighth word the term's offset, records the span of
-- a name between its quotes.
abbrev printed_leaves : Outcome
printed_leaves =
    leaves (loaded 4 2) (tables []
    (pad 8192
    (19 ∷ 0 ∷ 0 ∷ 0 ∷ 0 ∷ 0 ∷ 0 ∷ 78 ∷
    2 ∷ 110 ∷ 1 ∷ 0 ∷ 0 ∷ 0 ∷ 0 ∷ 102 ∷
    1 ∷ 118 ∷ 1 ∷ 0 ∷ 0 ∷ 0 ∷ 0 ∷ 113 ∷
    4 ∷ 1 ∷ 2 ∷ 0 ∷ 0 ∷ 0 ∷ 0 ∷ 98 ∷ []))
    (pad 1280 (1 ∷ 75 ∷ 1 ∷ 0 ∷ 0 ∷ 1 ∷ 95 ∷ 1 ∷ 3 ∷ 0 ∷ []))
    (pad 16384 []))

pub readings : (read_core printed generous ≡ printed_leaves) × (map (λ p. (p.reads p.text p.lent).answer) points ≡ map (λ p. p.gives) points)
unfolding same_bytes all numeral identifier table_3_7 following valid_from valid_length byte_order_mark forms text_forms form_of_word form_of_kind holds_span_in find store finish several term declaration_kind core_class string_class core_atom_from string_from core_token_from next_core_token text_edition token opening closing atom word natural name string end_token bare tagged known beginning_on beginning body declared declaration ending onwards declarations text_head declarations_line read_text repeated reading_text read_core reading_canonical read_canonical print_shape print_form print_terms declaration_word print_declarations print_module
readings = (refl, refl)
