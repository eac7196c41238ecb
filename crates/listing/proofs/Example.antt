-- The program prints document 01's example, computed by the definitions.
use mathlib.Core.Path.{refl}
use Rattle.token.specs.Token.{byte_class, layout_end, atom_from, token_here, next_token}
use Rattle.words.specs.Words.{same_bytes, reserved_words, place_in, word_index, reserved, all, identifier, numeral}
use Rattle.utf8.specs.Utf8.{table_3_7, following, valid_from, valid_length, byte_order_mark}
use Rattle.terms.specs.Forms.{forms, forms_0_2, edition_0_1, form_of_word, form_of_kind, arity_of}
use Rattle.terms.specs.Resolution.{find, find_local, core_of, first_unknown, first_refused}
use Rattle.surface.specs.Reading.{store, finish, several, term, token, opening, closing, atom, word, natural, declaration_kind, name, bare, tagged, known, beginning_on, beginning, body, declared, declaration, ending, onwards, declarations, edition_of, supported, surface_line, module_line, head, read_module}
use Rattle.surface.specs.Loading.{parsing, reading, loading, load}
use Rattle.text.specs.Text.{digits, decimal}
use Rattle.lines.specs.Listing.{listing, first_line, row_lines, row_line, row_fields, kind_word, numbers, declaration_lines, declaration_line, declaration_word, declaration_rows}
use Rattle.lister.specs.Lists.{listing_text}
use Rattle.listing.specs.Program.{program_text}
use Rattle.listing.specs.Promises.{ExamplePrinted}

pub example_printed : ExamplePrinted
unfolding byte_class layout_end atom_from token_here next_token same_bytes reserved_words place_in word_index reserved all identifier numeral table_3_7 following valid_from valid_length byte_order_mark forms forms_0_2 edition_0_1 form_of_word form_of_kind arity_of find find_local core_of first_unknown first_refused store finish several term token opening closing atom word natural declaration_kind name bare tagged known beginning_on beginning body declared declaration ending onwards declarations edition_of supported surface_line module_line head read_module parsing reading loading load digits decimal listing first_line row_lines row_line row_fields kind_word numbers declaration_lines declaration_line declaration_word declaration_rows listing_text program_text
example_printed = refl
