-- The token at the front of known bytes.
use mathlib.Core.Path.{◌≡◌, refl, sym, ap, ◌∙◌}
use mathlib.Core.List.{List, [], ◌∷◌, ◌++◌}
use mathlib.Core.Bool.{Bool, true, false, ◌&&◌, cond, and-eq-true_iff, false≢true}
use Prim.Native.Nat.{ℕ, suc, ◌+◌, ◌<◌}
use native.Mathlib.Omega.{arith}
use native.Mathlib.Nat.{add-zero}
use lib.Dec.{leb, ltb, eqb}
use borrow.Author.Tests.{ne_eqb, leb-true, ltb-true}
use lib.ListN.{length, take, drop}
use lib.Seq.{drop-drop, drop-append_seam, take-append_seam}
use Rattle.token.specs.Token.{within, layout_byte, malformed, token, Lexed}
use Rattle.token.specs.declared.TokenKind.{TokenKind}
use Rattle.core_token.specs.declared.CoreClass.{CoreClass}
use Rattle.core_token.specs.declared.CoreClass.TheVariants.{Layout, LParen, RParen, Quote, Atom, Refused}
use Rattle.core_token.specs.declared.StringClass.{StringClass}
use Rattle.core_token.specs.CoreToken.{core_class, string_class, core_atom_from, nothing, closed, string_from, core_token_from}
use Rattle.terms.specs.Label.{part}

-- What ends an atom.
abbrev pub stops : CoreClass → Bool
stops Layout = true
stops LParen = true
stops RParen = true
stops Quote = true
stops Atom = false
stops Refused = false

abbrev pub Stop : List ℕ → Type 0
Stop [] = ⊥
Stop (b ∷ l) = stops (core_class b) ≡ true

pub space_stops : (l : List ℕ) → Stop (32 ∷ l)
unfolding core_class
space_stops l = refl

pub close_stops : (l : List ℕ) → Stop (41 ∷ l)
unfolding core_class
close_stops l = refl

-- What makes an atom, as bytes and as a test.
abbrev pub Atoms : List ℕ → Type 0
Atoms [] = Unit {0}
Atoms (b ∷ l) = (core_class b ≡ CoreClass.Atom) × Atoms l

abbrev pub Wordlike : List ℕ → Type 0
Wordlike [] = ⊥
Wordlike (b ∷ l) = (core_class b ≡ CoreClass.Atom) × Atoms l

abbrev pub is_atom_class : CoreClass → Bool
is_atom_class Layout = false
is_atom_class LParen = false
is_atom_class RParen = false
is_atom_class Quote = false
is_atom_class Atom = true
is_atom_class Refused = false

abbrev pub atoms : List ℕ → Bool
atoms [] = true
atoms (b ∷ l) = is_atom_class (core_class b) && atoms l

abbrev pub wordlike : List ℕ → Bool
wordlike [] = false
wordlike (b ∷ l) = is_atom_class (core_class b) && atoms l

is_atom_is : (c : CoreClass) → is_atom_class c ≡ true → c ≡ CoreClass.Atom
is_atom_is Layout e = cc
is_atom_is LParen e = cc
is_atom_is RParen e = cc
is_atom_is Quote e = cc
is_atom_is Atom e = refl
is_atom_is Refused e = cc

pub atoms_are : (l : List ℕ) → atoms l ≡ true → Atoms l
atoms_are [] e = tt
atoms_are (b ∷ l) e = let w = (and-eq-true_iff (is_atom_class (core_class b)) (atoms l)).0 e in (is_atom_is (core_class b) w.0, atoms_are l w.1)

pub wordlike_is : (l : List ℕ) → wordlike l ≡ true → Wordlike l
wordlike_is [] e = false≢true e
wordlike_is (b ∷ l) e = let w = (and-eq-true_iff (is_atom_class (core_class b)) (atoms l)).0 e in (is_atom_is (core_class b) w.0, atoms_are l w.1)

-- Bytes below 128.
abbrev pub Plain : List ℕ → Type 0
Plain [] = Unit {0}
Plain (b ∷ l) = (b < 128) × Plain l

pub plain_append : (l m : List ℕ) → Plain l → Plain m → Plain (l ++ m)
plain_append [] m h k = k
plain_append (b ∷ l) m h k = (h.0, plain_append l m h.1 k)

abbrev pub plain : List ℕ → Bool
plain [] = true
plain (b ∷ l) = ltb b 128 && plain l

pub plain_is : (l : List ℕ) → plain l ≡ true → Plain l
plain_is [] e = tt
plain_is (b ∷ l) e = let w = (and-eq-true_iff (ltb b 128) (plain l)).0 e in (ltb-true b 128 w.0, plain_is l w.1)

-- A byte of an atom is one.
last_class : (l o p q a : Bool) → cond l Layout (cond o LParen (cond p RParen (cond q Quote (cond a Atom Refused)))) ≡ Atom → a ≡ true
last_class true o p q a e = cc
last_class false true p q a e = cc
last_class false false true q a e = cc
last_class false false false true a e = cc
last_class false false false false true e = refl
last_class false false false false false e = cc

atom_plain : (b : ℕ) → core_class b ≡ CoreClass.Atom → b < 128
unfolding core_class
atom_plain b e =
    let w = last_class (layout_byte b) (eqb b 40) (eqb b 41) (eqb b 34) (within 0x21 0x7E b) e in
    let h = leb-true b 126 ((and-eq-true_iff (leb 33 b) (leb b 126)).0 w).1 in
    omega arith

pub atoms_plain : (l : List ℕ) → Atoms l → Plain l
atoms_plain [] h = tt
atoms_plain (b ∷ l) h = (atom_plain b h.0, atoms_plain l h.1)

pub word_plain : (l : List ℕ) → Wordlike l → Plain l
word_plain [] h = tt
word_plain (b ∷ l) h = (atom_plain b h.0, atoms_plain l h.1)

-- Single bytes.
pub space_token : (at : ℕ) (l : List ℕ) → core_token_from at (32 ∷ l) ≡ core_token_from (at + 1) l
unfolding core_token_from core_class
space_token at l = refl

pub line_token : (at : ℕ) (l : List ℕ) → core_token_from at (10 ∷ l) ≡ core_token_from (at + 1) l
unfolding core_token_from core_class
line_token at l = refl

pub open_token : (at : ℕ) (l : List ℕ) → core_token_from at (40 ∷ l) ≡ token TokenKind.LParen at (at + 1)
unfolding core_token_from core_class
open_token at l = refl

pub close_token : (at : ℕ) (l : List ℕ) → core_token_from at (41 ∷ l) ≡ token TokenKind.RParen at (at + 1)
unfolding core_token_from core_class
close_token at l = refl

pub end_token : (at : ℕ) → core_token_from at [] ≡ token TokenKind.Eof at at
unfolding core_token_from
end_token at = refl

-- An atom and what ends it.
stop_ends : (start at : ℕ) (l : List ℕ) → Stop l → core_atom_from start at l ≡ token TokenKind.Atom start at
unfolding core_atom_from
stop_ends start at [] h = absurd h
stop_ends start at (b ∷ l) h = go (core_class b) h
  where
    go : (c : CoreClass) → stops c ≡ true
        → elim c as (λ _. Lexed) [
          | Layout ↦ token TokenKind.Atom start at
          | LParen ↦ token TokenKind.Atom start at
          | RParen ↦ token TokenKind.Atom start at
          | Quote ↦ token TokenKind.Atom start at
          | Atom ↦ core_atom_from start (at + 1) l
          | Refused ↦ malformed at
        ] ≡ token TokenKind.Atom start at
    go Layout e = refl
    go LParen e = refl
    go RParen e = refl
    go Quote e = refl
    go Atom e = cc
    go Refused e = cc

atoms_run : (w l : List ℕ) (start at : ℕ) → Atoms w → Stop l → core_atom_from start at (w ++ l) ≡ token TokenKind.Atom start (at + length w)
unfolding core_atom_from
atoms_run [] l start at h k = stop_ends start at l k ∙ ap (token TokenKind.Atom start) (sym (add-zero at))
atoms_run (b ∷ w) l start at h k =
    rw (h.0, core_atom_from) (atoms_run w l start (at + 1) h.1 k ∙ ap (token TokenKind.Atom start) (let q : at + 1 + length w ≡ at + suc (length w) = omega arith in q))

pub word_token : (w l : List ℕ) (at : ℕ) → Wordlike w → Stop l → core_token_from at (w ++ l) ≡ token TokenKind.Atom at (at + length w)
unfolding core_token_from
word_token [] l at h k = absurd h
word_token (b ∷ w) l at h k =
    rw (h.0, core_token_from) (atoms_run w l at (at + 1) h.1 k ∙ ap (token TokenKind.Atom at) (let q : at + 1 + length w ≡ at + suc (length w) = omega arith in q))

-- A string of bytes that stand for themselves.
abbrev pub Directs : List ℕ → Type 0
Directs [] = Unit {0}
Directs (b ∷ l) = (string_class b ≡ StringClass.Direct) × Directs l

string_run : (w l : List ℕ) (start at : ℕ) → Directs w → string_from start nothing at (w ++ (34 ∷ l)) ≡ closed start (at + length w)
unfolding string_from string_class
string_run [] l start at h = ap (closed start) (sym (add-zero at))
string_run (b ∷ w) l start at h =
    rw (h.0, string_from) (string_run w l start (at + 1) h.1 ∙ ap (closed start) (let q : at + 1 + length w ≡ at + suc (length w) = omega arith in q))

pub string_token : (w l : List ℕ) (at : ℕ) → 0 < length w → Directs w → core_token_from at (34 ∷ (w ++ (34 ∷ l))) ≡ token TokenKind.String at (at + 1 + length w + 1)
unfolding core_token_from core_class
string_token w l at n h =
    string_run w l at (at + 1) h
    ∙ ap (λ (b : Bool). cond b (malformed at) (token TokenKind.String at (at + 1 + length w + 1))) (ne_eqb (at + 1 + length w) (at + 1) (λ e. omega arith))

-- The bytes behind what is passed over, and the bytes that are passed over.
pub behind : (s : List ℕ) (at : ℕ) (w l : List ℕ) → drop at s ≡ w ++ l → drop (at + length w) s ≡ l
behind s at w l e = sym (drop-drop (length w) at s) ∙ ap (drop (length w)) e ∙ drop-append_seam w l

pub behind_one : (s : List ℕ) (at b : ℕ) (l : List ℕ) → drop at s ≡ b ∷ l → drop (at + 1) s ≡ l
behind_one s at b l e = sym (drop-drop 1 at s) ∙ ap (drop 1) e

pub part_at : (s : List ℕ) (at n : ℕ) (w l : List ℕ) → drop at s ≡ w ++ l → n ≡ length w → part s at n ≡ w
part_at s at n w l e k = ap (λ (m : ℕ). take m (drop at s)) k ∙ ap (take (length w)) e ∙ take-append_seam w l
