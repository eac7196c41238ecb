-- Core texts that are computed by the definitions: each form as `write_term` of format/printer.rs writes it, and a whole source.
use Rattle.token.specs.declared.Class.{Class}
use mathlib.Core.Path.{◌≡◌, refl}
use mathlib.Core.List.{List, [], ◌∷◌, ◌++◌, map}
use Prim.Native.Nat.{ℕ}
use Rattle.std.specs.Prelude.{Ok, Err}
use Rattle.token.specs.Token.{byte_class, layout_end, atom_from, token_here, next_token}
use Rattle.words.specs.Words.{ascii, same_bytes, reserved_words, place_in, word_index, reserved, reserved_0_2, all, identifier, numeral}
use Rattle.utf8.specs.Utf8.{table_3_7, following, valid_from, valid_length, byte_order_mark}
use Rattle.terms.specs.Forms.{forms, forms_0_2, edition_0_1, edition_0_2, form_of_word, form_of_kind, holds_span_in}
use Rattle.terms.specs.Resolution.{find, find_local, core_of, first_unknown, first_refused}
use Rattle.terms.specs.Rows.{pad}
use Rattle.surface.specs.Reader.{nowhere}
use Rattle.surface.specs.Reading.{store, finish, several, term, token, opening, closing, atom, word, natural, declaration_kind, name, bare, tagged, known, beginning_on, beginning, body, declared, declaration, ending, onwards, declarations, edition_of, supported, surface_line, module_line, head, read_module}
use Rattle.surface.specs.Tables.{Lengths, blank}
use Rattle.surface.specs.Loading.{parsing, reading, loading}
use Rattle.terms.specs.TextForms.{text_forms}
use Rattle.printing.specs.Decimal.{digits, decimal}
use Rattle.printing.specs.Printing.{print_shape, print_form, print_terms, declaration_word, print_declarations, text_head, print_module, print_text}
use Rattle.printing.specs.PrintCall.{printing, print_leaves, print}

-- The kinds from 1 to 23, with a numeral and with the text of two arguments.
abbrev one : ℕ → List ℕ
one k = print_form (form_of_kind k text_forms) (ascii "7") (ascii " A B")

all_forms : map one (1 ∷ 2 ∷ 3 ∷ 4 ∷ 5 ∷ 6 ∷ 7 ∷ 8 ∷ 9 ∷ 10 ∷ 11 ∷ 12 ∷ 13 ∷ 14 ∷ 15 ∷ 16 ∷ 17 ∷ 18 ∷ 19 ∷ 20 ∷ 21 ∷ 22 ∷ 23 ∷ [])
    ≡ ascii "(var 7)" ∷ ascii "(global 7)" ∷ ascii "(universe 7)" ∷ ascii "(pi A B)" ∷ ascii "(lam A B)" ∷ ascii "(app A B)" ∷
    ascii "(sigma A B)" ∷ ascii "(pair A B)" ∷ ascii "(fst A B)" ∷ ascii "(snd A B)" ∷ ascii "(id A B)" ∷ ascii "(refl A B)" ∷
    ascii "(j A B)" ∷ ascii "empty" ∷ ascii "(empty-elim A B)" ∷ ascii "unit" ∷ ascii "star" ∷ ascii "(unit-elim A B)" ∷ ascii "nat" ∷
    ascii "zero" ∷ ascii "(succ A B)" ∷ ascii "(nat-elim A B)" ∷ ascii "(ann A B)" ∷ []
unfolding form_of_kind forms text_forms print_form print_shape
all_forms = refl

-- A source with each kind of declaration, of reference and of term.
abbrev source : List ℕ
source = ascii "(surface 0 1)(module m)(postulate a (universe 10))(opaque b nat zero)(transparent c (pi x (ref a) (ref a)) (lam x (ref x)))"

abbrev text : List ℕ
text =
    ascii "(hott-core (format 0 1) (theory \"mltt-core\" 0 1) (declarations (postulate \"a\" (universe 10)) (opaque \"b\" nat zero)"
    ++ ascii " (transparent \"c\" (pi (global 0) (global 0)) (lam (var 0)))))\n"

-- One of edition 0 2: an arrow is written as a pi, and counts in its codomain.
abbrev with_arrow : List ℕ
with_arrow = ascii "(surface 0 2)(module m)(postulate a (universe 1))(postulate b (pi x (ref a) (arrow (ref x) (ref x))))"

abbrev arrow_text : List ℕ
arrow_text = text_head ++ ascii " (postulate \"a\" (universe 1)) (postulate \"b\" (pi (global 0) (pi (var 0) (var 1))))))\n"

abbrev lent : Lengths
lent = record { surface = 64; core = 64; declarations = 15; work = 16384 }

-- The text with 0 behind it; in a buffer that is just long enough, and in one that is a byte shorter; and loading's own refusal, which comes
-- before 14, where the core table has a row too few.
worked :
    ((print source lent 178).text ≡ text ++ (0 ∷ 0 ∷ []))
    × ((print with_arrow lent 147).text ≡ arrow_text)
    × ((print source lent 176).answer ≡ Ok 176)
    × (print source lent 175 ≡ print_leaves (Err (nowhere Class.TextShort)) (blank lent) (pad 175 []))
    × ((print source (record { surface = 64; core = 63; declarations = 15; work = 16384 }) 0).answer ≡ Err (nowhere Class.CoreShort))
unfolding byte_class layout_end atom_from token_here next_token same_bytes reserved_words place_in word_index reserved reserved_0_2 all identifier numeral table_3_7 following valid_from valid_length byte_order_mark forms forms_0_2 edition_0_1 edition_0_2 form_of_word form_of_kind holds_span_in find find_local core_of first_unknown first_refused store finish several term token opening closing atom word natural declaration_kind name bare tagged known beginning_on beginning body declared declaration ending onwards declarations edition_of supported surface_line module_line head read_module parsing reading loading text_forms digits decimal print_shape print_form print_terms declaration_word print_declarations print_module print_text printing print
worked = (refl, refl, refl, refl, refl)
