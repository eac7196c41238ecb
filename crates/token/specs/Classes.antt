-- The table of byte classes. Document 02, Req 06: "a table of 256 class numbers, one for each byte value".
use Rattle.std.specs.Prelude.{ℕ, ◌≤◌, ◌<◌, List, ◌≡◌, Bool, true, false, ◌||◌, cond, eqb, ltb, length, get_or, drop}
use Rattle.token.specs.Token.{letter, digit, byte_class, layout_end, next_token, token}
use Rattle.token.specs.declared.ByteClass.{ByteClass}
use Rattle.token.specs.declared.ByteClass.TheVariants.{Layout, Comment, LParen, RParen, Atom, Refused}
use Rattle.token.specs.declared.TokenKind.{TokenKind}

-- The number of a byte's class. The bytes of atoms have three, by what they may be in a name.
unfoldable pub class_number : ℕ → ℕ
class_number b =
    elim (byte_class b) [
      | Layout ↦ 0
      | Comment ↦ 1
      | LParen ↦ 2
      | RParen ↦ 3
      | Refused ↦ 4
      | Atom ↦ cond (letter b || eqb b 95) 7 (cond (digit b) 6 5)
    ]

-- The class of a number: that of a byte's number is the byte's own.
unfoldable pub class_of : ℕ → ByteClass
class_of n =
    cond (eqb n 0) Layout
    (cond (eqb n 1) Comment
    (cond (eqb n 2) LParen
    (cond (eqb n 3) RParen
    (cond (eqb n 4) Refused Atom))))

-- The rule of the table: 256 numbers, and entry b has the class of byte b.
pub record ClassTable (t : List ℕ) : Type 0 where
  pub size : length t ≡ 256
  pub entry : (b : ℕ) → b < 256 → get_or t b 0 ≡ class_number b

-- Ours: layout that goes on at `at` ends where layout does that goes on at r.
abbrev pub SameLayout : List ℕ → ℕ → ℕ → Type 0
SameLayout s at r = layout_end false at (drop at s) ≡ layout_end false r (drop r s)

-- Ours: a space.
abbrev pub space : ℕ → Bool
space b = eqb b 32

-- Ours: from `at` up to r, within the source, there is layout.
pub record LayoutOver (s : List ℕ) (at r : ℕ) : Type 0 where
  pub low : at ≤ r
  pub high : r ≤ length s
  pub same : SameLayout s at r

-- Ours: from `at` up to r every class number is `low` or more, and the next one, if there is one, is not.
pub record Run (s : List ℕ) (at low r : ℕ) : Type 0 where
  pub from : at ≤ r
  pub within : at ≤ length s → r ≤ length s
  pub bytes : (i : ℕ) → at ≤ i → i < r → low ≤ class_number (get_or s i 0)
  pub ended : r < length s → class_number (get_or s r 0) < low

-- "An atom ends before a parenthesis, `;`, layout or the end"
unfoldable pub atom_stops : List ℕ → ℕ → Bool
atom_stops s at = cond (ltb at (length s)) (ltb (class_number (get_or s at 0)) 4) true

-- Ours: from `start` up to r stands an atom that is an identifier.
pub record NameAt (s : List ℕ) (start r : ℕ) : Type 0 where
  pub here : next_token s start ≡ token TokenKind.Atom start r
  pub within : r ≤ length s
  pub begins : class_number (get_or s start 0) ≡ 7
  pub bytes : (i : ℕ) → start ≤ i → i < r → 6 ≤ class_number (get_or s i 0)
