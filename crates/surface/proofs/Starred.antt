-- The starred readings of document 01's card (specs/Card), computed by the definitions.
use mathlib.Core.Path.{refl}
use Rattle.token.specs.Token.{byte_class, layout_end, atom_from, token_here, next_token}
use Rattle.words.specs.Words.{same_bytes, reserved_words, place_in, word_index, reserved, all, identifier, numeral}
use Rattle.utf8.specs.Utf8.{table_3_7, following, valid_from, valid_length, byte_order_mark}
use Rattle.terms.specs.Forms.{forms, forms_0_2, edition_0_1, form_of_word, form_of_kind, holds_span_in}
use Rattle.terms.specs.Resolution.{find, find_local, core_of, first_unknown, first_refused}
use Rattle.surface.specs.Reading.{store, finish, several, term, token, opening, closing, atom, word, natural, declaration_kind, name, bare, tagged, known, beginning_on, beginning, body, declared, declaration, ending, onwards, declarations, edition_of, supported, surface_line, module_line, head, read_module}
use Rattle.surface.specs.Loading.{parsing, reading, loading, load}
use Rattle.surface.specs.Card.{StarredReadings}

pub starred_readings : StarredReadings
unfolding byte_class layout_end atom_from token_here next_token same_bytes reserved_words place_in word_index reserved all identifier numeral table_3_7 following valid_from valid_length byte_order_mark forms forms_0_2 edition_0_1 form_of_word form_of_kind holds_span_in find find_local core_of first_unknown first_refused store finish several term token opening closing atom word natural declaration_kind name bare tagged known beginning_on beginning body declared declaration ending onwards declarations edition_of supported surface_line module_line head read_module parsing reading loading load
starred_readings = refl
