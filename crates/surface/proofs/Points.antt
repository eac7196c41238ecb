-- Further readings, computed by the definitions: points of document 01 that are easy to misread.
use Rattle.token.specs.declared.Class.{Class}
use Rattle.std.specs.Prelude.{Err}
use mathlib.Core.Path.{◌≡◌, refl}
use mathlib.Core.List.{List, [], ◌∷◌, ◌++◌, map}
use Prim.Native.Nat.{ℕ, zero, suc}
use Prim.Native.String.{String}
use lib.ListN.{length}
use Rattle.token.specs.Token.{byte_class, layout_end, atom_from, token_here, next_token}
use Rattle.words.specs.Words.{ascii, same_bytes, reserved_words, place_in, word_index, reserved, reserved_0_2, all, identifier, numeral}
use Rattle.utf8.specs.Utf8.{table_3_7, following, valid_from, valid_length, byte_order_mark}
use Rattle.terms.specs.Forms.{forms, forms_0_2, edition_0_1, edition_0_2, form_of_word, form_of_kind, holds_span_in}
use Rattle.terms.specs.Resolution.{find, find_local, core_of, first_unknown, first_refused}
use Rattle.terms.specs.Label.{Declaration}
use Rattle.surface.specs.Answer.{Answer, loaded}
use Rattle.surface.specs.Reader.{start, Result, done, refused, nowhere, at_offset}
use Rattle.surface.specs.Reading.{store, finish, several, term, token, opening, closing, atom, word, natural, declaration_kind, name, bare, tagged, known, beginning_on, beginning, body, declared, declaration, ending, onwards, declarations, edition_of, supported, surface_line, module_line, head, read_module}
use Rattle.surface.specs.Loading.{Lengths, parsing, reading, loading, load}
use Rattle.surface.specs.Card.{H, listing_lengths}

-- The same as H of edition 0 2.
abbrev pub H2 : String → List ℕ
H2 w = ascii "(surface 0 2)(module m)" ++ ascii w

pub record Point : Type 0 where
  pub lent : Lengths
  pub source : List ℕ
  pub gives : Answer

abbrev point : Lengths → List ℕ → Answer → Point
point z s a = record { lent = z; source = s; gives = a }

abbrev lends : ℕ → ℕ → ℕ → ℕ → Lengths
lends a b c d = record { surface = a; core = b; declarations = c; work = d }

abbrev generous : Lengths
generous = listing_lengths

abbrev no_row : Lengths
no_row = lends 7 8192 1280 16384

abbrev no_declaration : Lengths
no_declaration = lends 8192 8192 4 16384

abbrev no_core_row : Lengths
no_core_row = lends 8192 7 1280 16384

abbrev at : Class → ℕ → Answer
at class offset = Err (at_offset class offset)

abbrev no_place : Class → Answer
no_place class = Err (nowhere class)

abbrev pub points : List Point
points =
    -- unstarred readings of the card
    point generous (H "(postulate f (pi _ nat (ref _)))") (loaded 3 1) ∷
    point generous (ascii ";" ++ ((195 ∷ 169 ∷ 10 ∷ []) ++ H "")) (loaded 0 0) ∷
    point generous (ascii ";" ++ (195 ∷ 10 ∷ [])) (at Class.Malformed 1) ∷
    point (lends 31 8192 1280 16384) (H "(postulate x nat)(postulate y (pi x (ref x) (ref x)))") (no_place Class.SurfaceFull) ∷
    -- 8 against the closing parenthesis, with no row to store
    point no_row (H "(postulate a (ref z") (at Class.Malformed 42) ∷
    point no_row (H "(postulate a (ref z z)") (at Class.Malformed 43) ∷
    point no_row (H "(postulate a (universe 00)") (at Class.Malformed 46) ∷
    point no_row (H "(postulate a (ref nat)") (at Class.ReservedName 41) ∷
    point no_row (H "(postulate a (ref z)") (no_place Class.SurfaceFull) ∷
    point no_row (H "(postulate a nat") (no_place Class.SurfaceFull) ∷
    point no_row (H "(postulate a nat x") (no_place Class.SurfaceFull) ∷
    point no_row (H "(postulate a natx") (at Class.Malformed 36) ∷
    point no_row (H "(postulate a nat]") (at Class.Malformed 39) ∷
    point no_row (H "(postulate a (fst (fst (fst") (at Class.Malformed 50) ∷
    -- 9 at the opening parenthesis, with no declaration to store
    point no_declaration (H "(") (no_place Class.DeclarationsFull) ∷
    point no_declaration (H "(]") (no_place Class.DeclarationsFull) ∷
    point no_declaration (H "(bogus") (no_place Class.DeclarationsFull) ∷
    point no_declaration (H ")") (at Class.Malformed 23) ∷
    point no_declaration (H "nat") (at Class.Malformed 23) ∷
    point no_declaration (H "]") (at Class.Malformed 23) ∷
    point no_declaration (H " ;c") (loaded 0 0) ∷
    -- 10 after reading and before names; 11 before everything
    point no_core_row (H "(postulate a (ref q))") (no_place Class.CoreShort) ∷
    point no_core_row (H "(postulate a (ref q))(postulate") (at Class.Malformed 54) ∷
    point (lends 8192 8192 1280 16383) [] (no_place Class.WorkShort) ∷
    -- UTF-8 is asked of the whole source first, and then the mark
    point generous (ascii "]" ++ (255 ∷ [])) (at Class.Malformed 1) ∷
    point generous ((240 ∷ 159 ∷ 152 ∷ [])) (at Class.Malformed 0) ∷
    point generous (ascii ";" ++ (237 ∷ 160 ∷ 128 ∷ [])) (at Class.Malformed 1) ∷
    point generous (ascii ";" ++ (192 ∷ 128 ∷ [])) (at Class.Malformed 1) ∷
    point generous (ascii ";" ++ (224 ∷ 128 ∷ 128 ∷ [])) (at Class.Malformed 1) ∷
    point generous (ascii ";" ++ (240 ∷ 128 ∷ 128 ∷ 128 ∷ [])) (at Class.Malformed 1) ∷
    point generous (ascii ";" ++ (244 ∷ 144 ∷ 128 ∷ 128 ∷ [])) (at Class.Malformed 1) ∷
    point generous (ascii ";" ++ ((244 ∷ 143 ∷ 191 ∷ 191 ∷ 10 ∷ []) ++ H "")) (loaded 0 0) ∷
    point generous ((239 ∷ 187 ∷ 191 ∷ []) ++ H "") (at Class.Malformed 0) ∷
    point generous ((239 ∷ 187 ∷ 191 ∷ 255 ∷ [])) (at Class.Malformed 3) ∷
    point generous ((239 ∷ 187 ∷ [])) (at Class.Malformed 0) ∷
    point generous (H "" ++ (239 ∷ 187 ∷ 191 ∷ [])) (at Class.Malformed 23) ∷
    point generous (ascii ";" ++ ((239 ∷ 187 ∷ 191 ∷ 10 ∷ []) ++ H "")) (loaded 0 0) ∷
    -- a bad byte behind an atom; the end; names and numerals; versions
    point generous (ascii "(surface 00]") (at Class.Malformed 11) ∷
    point generous (H "(postulate nat-elim] ") (at Class.Malformed 42) ∷
    point generous (ascii "( ;x") (at Class.Malformed 4) ∷
    point generous (H "(postulate nat-eli nat)") (at Class.Malformed 34) ∷
    point generous (H "(postulate Nat nat)") (loaded 1 1) ∷
    point generous (H "(postulate arrow nat)") (loaded 1 1) ∷
    point generous (H "(postulate - nat)") (at Class.Malformed 34) ∷
    point generous (ascii "(surface 0 a)") (at Class.Malformed 11) ∷
    point generous (ascii "(surface 01 1)") (at Class.Malformed 9) ∷
    point generous (ascii "(surface 0 2]") (at Class.Malformed 12) ∷
    point generous (ascii "(surface 0 2)") (at Class.Malformed 13) ∷
    point generous (ascii "(surface 0 3)") (no_place Class.Version) ∷
    point generous (ascii "(surface 1 2)") (no_place Class.Version) ∷
    point generous (ascii "(surface 0 2)" ++ (255 ∷ [])) (at Class.Malformed 13) ∷
    point generous (ascii "(surface 0 10)") (no_place Class.Version) ∷
    point generous (ascii "(surface 0 1)(module nat)") (at Class.ReservedName 21) ∷
    point generous (H "(postulate a (arrow nat nat))") (at Class.Malformed 37) ∷
    -- an arrow in either edition
    point generous (H "(postulate arrow (pi arrow nat (ref arrow)))") (loaded 3 1) ∷
    point generous (ascii "(surface 0 1)(module arrow)") (loaded 0 0) ∷
    point generous (ascii "(surface 0 2)(module arrow)") (at Class.ReservedName 21) ∷
    point generous (H2 "") (loaded 0 0) ∷
    point generous (H2 "(postulate arrow nat)") (at Class.ReservedName 34) ∷
    point generous (H2 "(postulate a (pi arrow nat nat))") (at Class.ReservedName 40) ∷
    point generous (H2 "(postulate a (ref arrow))") (at Class.ReservedName 41) ∷
    point generous (H2 "(postulate a arrow)") (at Class.Malformed 36) ∷
    point generous (H2 "(postulate a (arrow x nat nat))") (at Class.Malformed 43) ∷
    point generous (H2 "(postulate a (arrow nat))") (at Class.Malformed 46) ∷
    point generous (H2 "(postulate a (arrow nat nat nat))") (at Class.Malformed 51) ∷
    point generous (H2 "(postulate a (arrow nat nat))") (loaded 3 1) ∷
    point generous (H2 "(postulate a (arrow nat (ref x)))") (no_place Class.UnknownName) ∷
    point no_row (H2 "(postulate a (arrow nat") (no_place Class.SurfaceFull) ∷
    -- scope
    point generous (H "(transparent a nat (ref a))") (no_place Class.UnknownName) ∷
    point generous (H "(postulate a (ref a))") (no_place Class.UnknownName) ∷
    point generous (H "(postulate a (pi x (ref x) nat))") (no_place Class.UnknownName) ∷
    point generous (H "(postulate a (lam x (pi x (ref x) nat)))") (loaded 4 1) ∷
    point generous (H "(postulate m nat)(opaque b (ref m) (ref m))") (loaded 3 2) ∷
    point generous (H "" ++ ((13 ∷ []) ++ (ascii ";c" ++ ((13 ∷ []) ++ (ascii "(" ++ ((10 ∷ []) ++ ascii "(postulate a (j nat nat nat nat nat (nat-elim nat nat nat (unit-elim star star star)))) ")))))) (loaded 14 1) ∷
    []

pub readings : map (λ p. (load p.source p.lent).answer) points ≡ map (λ p. p.gives) points
unfolding byte_class layout_end atom_from token_here next_token same_bytes reserved_words place_in word_index reserved reserved_0_2 all identifier numeral table_3_7 following valid_from valid_length byte_order_mark forms forms_0_2 edition_0_1 edition_0_2 form_of_word form_of_kind holds_span_in find find_local core_of first_unknown first_refused store finish several term token opening closing atom word natural declaration_kind name bare tagged known beginning_on beginning body declared declaration ending onwards declarations edition_of supported surface_line module_line head read_module parsing reading loading load
readings = refl

-- The answer of reading alone, where so many frames may be open in one term.
abbrev answered : Result (List Declaration) → Answer
answered (done ds p) = loaded p.rows (length ds)
answered (refused r) = Err r

abbrev with_frames : ℕ → List ℕ → Answer
with_frames n s = answered (read_module s 1024 256 n start)

-- `fst` n times around a term.
abbrev times : ℕ → List ℕ → List ℕ
times zero w = []
times (suc n) w = w ++ times n w

abbrev nested : ℕ → String → List ℕ
nested n w = H "(postulate a " ++ (times n (ascii "(fst ") ++ (ascii w ++ (times n (ascii ")") ++ ascii ")")))

pub record Depth : Type 0 where
  pub frames : ℕ
  pub source : List ℕ
  pub gives : Answer

abbrev depth : ℕ → List ℕ → Answer → Depth
depth n s a = record { frames = n; source = s; gives = a }

-- 7 after the tag and the binder; a `ref`, a `universe` and a leaf open no frame.
abbrev pub depths : List Depth
depths =
    depth 0 (H "(postulate a (bogus") (at Class.Malformed 37) ∷
    depth 0 (H "(postulate a (pi nat") (at Class.ReservedName 40) ∷
    depth 0 (H "(postulate a (pi a-b") (at Class.Malformed 40) ∷
    depth 0 (H "(postulate a (pi") (at Class.Malformed 39) ∷
    depth 0 (H "(postulate a (pi x") (no_place Class.Frames) ∷
    depth 0 (H "(postulate a (fst") (no_place Class.Frames) ∷
    depth 0 (H "(postulate a (fst]") (at Class.Malformed 40) ∷
    depth 0 (H2 "(postulate a (arrow") (no_place Class.Frames) ∷
    depth 0 (H2 "(postulate a (arrow]") (at Class.Malformed 42) ∷
    depth 0 (H "(postulate a (universe 1))") (loaded 1 1) ∷
    depth 0 (H "(postulate a star)") (loaded 1 1) ∷
    depth 8 (nested 8 "star") (loaded 9 1) ∷
    depth 8 (nested 8 "(universe 1)") (loaded 9 1) ∷
    depth 8 (nested 9 "star") (no_place Class.Frames) ∷
    []

pub open_frames : map (λ d. with_frames d.frames d.source) depths ≡ map (λ d. d.gives) depths
unfolding byte_class layout_end atom_from token_here next_token same_bytes reserved_words place_in word_index reserved reserved_0_2 all identifier numeral forms forms_0_2 edition_0_1 edition_0_2 form_of_word store finish several term token opening closing atom word natural declaration_kind name bare tagged known beginning_on beginning body declared declaration ending onwards declarations edition_of supported surface_line module_line head read_module
open_frames = refl
