-- Listings that document 01's example does not show: digits, a body, and a refusal with and without an offset.
use Rattle.token.specs.declared.Class.{Class}
use Rattle.std.specs.Prelude.{Some, None}
use mathlib.Core.Path.{◌≡◌, refl}
use mathlib.Core.List.{[], ◌∷◌}
use Rattle.words.specs.Words.{ascii}
use Rattle.terms.specs.Forms.{forms, forms_0_2, form_of_kind, arity_of}
use Rattle.text.specs.Text.{digits, decimal}
use Rattle.lines.specs.Listing.{listing, first_line, row_lines, row_line, row_fields, kind_word, numbers, declaration_lines, declaration_line, declaration_word, declaration_rows, refused_line, refusal_line, place_text}

-- A universe's digits and not its offset, and a declaration with a body.
with_body : listing (ascii "universe 10, t") (3 ∷ 9 ∷ 2 ∷ 0 ∷ 0 ∷ 0 ∷ 0 ∷ 5 ∷ 17 ∷ []) (2 ∷ 13 ∷ 1 ∷ 0 ∷ 1 ∷ []) 2 1
    ≡ ascii "nodes 2 declarations 1\n0 universe 10\n1 star\n0 transparent t 0 1\n"
unfolding listing first_line row_lines row_line row_fields kind_word numbers declaration_lines declaration_line declaration_word declaration_rows digits decimal forms forms_0_2 form_of_kind arity_of
with_body = refl

refused_at : refusal_line (record { class = Class.Malformed; place = Some 45 }) ≡ ascii "refused 1 at 45\n"
unfolding refused_line place_text digits decimal
refused_at = refl

refused_nowhere : refusal_line (record { class = Class.NoDeclaration; place = None }) ≡ ascii "refused 12\n"
unfolding refused_line place_text digits decimal
refused_nowhere = refl
