-- Document 01, "The token": reserved words, identifiers, numerals, and equal names.
use Rattle.std.specs.Prelude.{ℕ, ◌+◌, List, [], ◌∷◌, Bool, true, false, not, ◌||◌, cond, eqb}
use Prim.Native.Char.{code}
use Prim.Native.String.{String}
use Rattle.token.specs.Token.{letter, digit}
use Rattle.words.specs.declared.NameTest.{NameTest}

-- The bytes of a word.
abbrev pub ascii : String → List ℕ
ascii String.[] = []
ascii (String.◌∷◌ c s) = code c ∷ ascii s

-- Whether two atoms have equal bytes.
unfoldable pub same_bytes : List ℕ → List ℕ → Bool
same_bytes [] [] = true
same_bytes [] (y ∷ ys) = false
same_bytes (x ∷ xs) [] = false
same_bytes (x ∷ xs) (y ∷ ys) = elim (eqb x y) [ true ↦ same_bytes xs ys | false ↦ false ]

-- "Reserved, never a name"
unfoldable pub reserved_words : List (List ℕ)
reserved_words =
    ascii "surface" ∷ ascii "module" ∷ ascii "postulate" ∷ ascii "transparent" ∷ ascii "opaque" ∷
    ascii "ref" ∷ ascii "universe" ∷ ascii "pi" ∷ ascii "lam" ∷ ascii "app" ∷ ascii "sigma" ∷ ascii "pair" ∷
    ascii "fst" ∷ ascii "snd" ∷ ascii "id" ∷ ascii "refl" ∷ ascii "j" ∷ ascii "empty" ∷ ascii "empty-elim" ∷
    ascii "unit" ∷ ascii "star" ∷ ascii "unit-elim" ∷ ascii "nat" ∷ ascii "zero" ∷ ascii "succ" ∷
    ascii "nat-elim" ∷ ascii "ann" ∷ []

-- The place of w in a list of words, the first of which has place k; 0 where w is none of them.
unfoldable pub place_in : ℕ → List ℕ → List (List ℕ) → ℕ
place_in k w [] = 0
place_in k w (v ∷ vs) = elim (same_bytes w v) [ true ↦ k | false ↦ place_in (k + 1) w vs ]

-- The place of an atom among the reserved words, from 1; 0 for any other atom.
unfoldable pub word_index : List ℕ → ℕ
word_index w = place_in 1 w reserved_words

unfoldable pub reserved : List ℕ → Bool
reserved w = not (eqb (word_index w) 0)

-- Document 02, Req 10: "`arrow` is reserved in 0 2 only".
unfoldable pub reserved_0_2 : List ℕ → Bool
reserved_0_2 w = reserved w || same_bytes w (ascii "arrow")

-- Whether every byte passes a test.
unfoldable pub all : (ℕ → Bool) → List ℕ → Bool
all p [] = true
all p (b ∷ l) = elim (p b) [ true ↦ all p l | false ↦ false ]

-- `_` is 95.
abbrev pub name_start : ℕ → Bool
name_start b = letter b || eqb b 95

abbrev pub name_byte : ℕ → Bool
name_byte b = name_start b || digit b

-- "Identifier: first a letter or `_`, then letters, digits, `_`."
unfoldable pub identifier : List ℕ → Bool
identifier [] = false
identifier (b ∷ l) = elim (name_start b) [ true ↦ all name_byte l | false ↦ false ]

-- "A numeral is `0` or digits without a leading 0, of any length." `0` is 48.
unfoldable pub numeral : List ℕ → Bool
numeral [] = false
numeral (b ∷ []) = digit b
numeral (b ∷ c ∷ l) = elim (eqb b 48) [ true ↦ false | false ↦ all digit (b ∷ c ∷ l) ]

-- "The reserved test comes before the identifier test."
unfoldable pub name_test : List ℕ → NameTest
name_test w = cond (reserved w) NameTest.Reserved (cond (identifier w) NameTest.Name NameTest.NotIdentifier)
