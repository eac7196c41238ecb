-- Document 02, Req 10: what loading leaves of an arrow, and sources of two editions compared, an arrow against a pi.
use Rattle.surface.specs.Answer.{loaded}
use mathlib.Core.Path.{◌≡◌, refl, ap}
use mathlib.Core.List.{List, [], ◌∷◌}
use Prim.Native.Nat.{ℕ}
use native.Mathlib.Omega.{arith}
use lib.ListN.{get_or}
use Rattle.token.specs.Token.{byte_class, layout_end, atom_from, token_here, next_token}
use Rattle.words.specs.Words.{same_bytes, reserved_words, place_in, word_index, reserved, reserved_0_2, all, identifier, numeral}
use Rattle.utf8.specs.Utf8.{table_3_7, following, valid_from, valid_length, byte_order_mark}
use Rattle.terms.specs.Forms.{forms, forms_0_2, edition_0_1, edition_0_2, form_of_word, form_of_kind, holds_span_in}
use Rattle.terms.specs.Content.{RowContent}
use Rattle.terms.specs.Resolution.{find, find_local, core_of, first_unknown, first_refused}
use Rattle.surface.specs.Reading.{store, finish, several, term, token, opening, closing, atom, word, natural, declaration_kind, name, bare, tagged, known, beginning_on, beginning, body, declared, declaration, ending, onwards, declarations, edition_of, supported, surface_line, module_line, head, read_module}
use Rattle.surface.specs.Loading.{parsing, reading, loading, load}
use Rattle.surface.specs.SameCore.{SameCore, Accepts}
use Rattle.surface.specs.Agreement.{Agreement}
use Rattle.surface.specs.Card.{H, listing_lengths, Reading, gives}
use Rattle.surface.proofs.Points.{H2}
use Rattle.surface.proofs.Demand.{by_definition}

-- An arrow, and a pi whose binder is not used.
abbrev pub with_arrow : List ℕ
with_arrow = H2 "(postulate a (lam x (arrow nat (ref x))))"

abbrev pub with_pi : List ℕ
with_pi = H "(postulate a (lam x (pi y nat (ref x))))"

-- A pi that takes the reference: the forms agree, and the references do not.
abbrev pub taken : List ℕ
taken = H "(postulate a (lam x (pi x nat (ref x))))"

-- Surface kind 25 with its children alone, and the core row of a pi; in the codomain the count is one higher, in the domain it is not.
abbrev arrow_row : Reading
arrow_row =
    gives (H2 "(postulate y (pi x nat (arrow (ref x) (ref x))))") (loaded 5 1)
    (19 ∷ 0 ∷ 0 ∷ 0 ∷ 0 ∷ 0 ∷ 0 ∷ 42 ∷
    24 ∷ 58 ∷ 1 ∷ 0 ∷ 0 ∷ 0 ∷ 0 ∷ 53 ∷
    24 ∷ 66 ∷ 1 ∷ 0 ∷ 0 ∷ 0 ∷ 0 ∷ 61 ∷
    25 ∷ 1 ∷ 2 ∷ 0 ∷ 0 ∷ 0 ∷ 0 ∷ 46 ∷
    4 ∷ 40 ∷ 1 ∷ 0 ∷ 3 ∷ 0 ∷ 0 ∷ 36 ∷ [])
    (19 ∷ 0 ∷ 0 ∷ 0 ∷ 0 ∷ 0 ∷ 0 ∷ 42 ∷
    1 ∷ 0 ∷ 0 ∷ 0 ∷ 0 ∷ 0 ∷ 0 ∷ 53 ∷
    1 ∷ 1 ∷ 0 ∷ 0 ∷ 0 ∷ 0 ∷ 0 ∷ 61 ∷
    4 ∷ 1 ∷ 2 ∷ 0 ∷ 0 ∷ 0 ∷ 0 ∷ 46 ∷
    4 ∷ 0 ∷ 3 ∷ 0 ∷ 0 ∷ 0 ∷ 0 ∷ 36 ∷ [])
    (1 ∷ 34 ∷ 1 ∷ 4 ∷ 0 ∷ [])

pub record Compared : Type 0 where
  pub arrow_leaves : load arrow_row.source arrow_row.lent ≡ arrow_row.leaves
  pub arrow_accepted : Accepts (load with_arrow listing_lengths)
  pub pi_accepted : Accepts (load with_pi listing_lengths)
  pub taken_accepted : Accepts (load taken listing_lengths)
  pub arrow_is_pi : SameCore with_arrow (load with_arrow listing_lengths) with_pi (load with_pi listing_lengths)
  pub taken_is_other : SameCore with_arrow (load with_arrow listing_lengths) taken (load taken listing_lengths) → ⊥

pub compared : Compared
unfolding byte_class layout_end atom_from token_here next_token same_bytes reserved_words place_in word_index reserved reserved_0_2 all identifier numeral table_3_7 following valid_from valid_length byte_order_mark forms forms_0_2 edition_0_1 edition_0_2 form_of_word form_of_kind holds_span_in find find_local core_of first_unknown first_refused store finish several term token opening closing atom word natural declaration_kind name bare tagged known beginning_on beginning body declared declaration ending onwards declarations edition_of supported surface_line module_line head read_module parsing reading loading load
compared = record {
  arrow_leaves = refl;
  arrow_accepted = (4, 1, refl);
  pi_accepted = (4, 1, refl);
  taken_accepted = (4, 1, refl);
  arrow_is_pi = record { row_counts = refl; declaration_counts = refl; same_rows = refl; same_declarations = refl };
  taken_is_other = λ h.
      let e : ◌≡◌ {A = ℕ} 1 0 = ap (λ (l : List RowContent). get_or (get_or l 1 (record { kind = 0; digits = []; fields = [] })).fields 0 0) h.same_rows in
      omega arith;
}

-- By demand 3: the sources agree, and the others do not.
pub arrow_agrees : Agreement with_arrow with_pi
arrow_agrees = (by_definition with_arrow with_pi listing_lengths listing_lengths compared.arrow_accepted compared.pi_accepted).0 compared.arrow_is_pi

pub taken_differs : Agreement with_arrow taken → ⊥
taken_differs g = compared.taken_is_other ((by_definition with_arrow taken listing_lengths listing_lengths compared.arrow_accepted compared.taken_accepted).1 g)
