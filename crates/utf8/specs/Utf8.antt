-- Well-formed UTF-8: the Unicode standard, table 3-7. Document 01: "not UTF-8 (1 at the length of the longest valid beginning);
-- leading EF BB BF (1 at 0)".
use Rattle.std.specs.Prelude.{◌≡◌, List, [], ◌∷◌, Bool, true, false, ◌&&◌, ℕ, ◌+◌, eqb}
use Rattle.std.proofs.Math.Option.{Option, none, some}
use Rattle.token.specs.Token.{within}

-- The bytes from low to high.
pub record Range : Type 0 where
  pub low : ℕ
  pub high : ℕ

abbrev pub range : ℕ → ℕ → Range
range a b = record { low = a; high = b }

abbrev pub in_range : Range → ℕ → Bool
in_range r b = within r.low r.high b

-- A line of the table: the first byte, and the bytes that follow it.
pub record Line : Type 0 where
  pub first : Range
  pub others : List Range

abbrev pub line : Range → List Range → Line
line r l = record { first = r; others = l }

unfoldable pub table_3_7 : List Line
table_3_7 =
    line (range 0x00 0x7F) [] ∷
    line (range 0xC2 0xDF) (range 0x80 0xBF ∷ []) ∷
    line (range 0xE0 0xE0) (range 0xA0 0xBF ∷ range 0x80 0xBF ∷ []) ∷
    line (range 0xE1 0xEC) (range 0x80 0xBF ∷ range 0x80 0xBF ∷ []) ∷
    line (range 0xED 0xED) (range 0x80 0x9F ∷ range 0x80 0xBF ∷ []) ∷
    line (range 0xEE 0xEF) (range 0x80 0xBF ∷ range 0x80 0xBF ∷ []) ∷
    line (range 0xF0 0xF0) (range 0x90 0xBF ∷ range 0x80 0xBF ∷ range 0x80 0xBF ∷ []) ∷
    line (range 0xF1 0xF3) (range 0x80 0xBF ∷ range 0x80 0xBF ∷ range 0x80 0xBF ∷ []) ∷
    line (range 0xF4 0xF4) (range 0x80 0x8F ∷ range 0x80 0xBF ∷ range 0x80 0xBF ∷ []) ∷
    []

-- The bytes that must follow a first byte, by its line; none where it is no first byte.
unfoldable pub following : ℕ → List Line → Option (List Range)
following b [] = none
following b (r ∷ l) = elim (in_range r.first b) [ true ↦ some r.others | false ↦ following b l ]

-- The bytes that an open sequence still wants, one out of each range, and then whole sequences, each by a line of the table.
abbrev pub Whole : List Range → List ℕ → Type 0
Whole [] [] = Unit {0}
Whole (r ∷ rs) [] = ⊥
Whole [] (b ∷ l) = (rs : List Range) × (following b table_3_7 ≡ some rs) × Whole rs l
Whole (r ∷ rs) (b ∷ l) = (in_range r b ≡ true) × Whole rs l

abbrev pub WellFormed : List ℕ → Type 0
WellFormed l = Whole [] l

-- The length of the longest valid beginning (`Longest` shows that it is this). `at` bytes were passed, of which the first `good`
-- are whole sequences; the sequence that is open wants the bytes of a list of ranges.
unfoldable pub valid_from : ℕ → ℕ → List Range → List ℕ → ℕ
valid_from good at [] [] = at
valid_from good at (r ∷ rs) [] = good
valid_from good at [] (b ∷ l) = elim (following b table_3_7) [ none ↦ at | some rs ↦ valid_from at (at + 1) rs l ]
valid_from good at (r ∷ rs) (b ∷ l) = elim (in_range r b) [ true ↦ valid_from good (at + 1) rs l | false ↦ good ]

unfoldable pub valid_length : List ℕ → ℕ
valid_length s = valid_from 0 0 [] s

-- "leading EF BB BF"
unfoldable pub byte_order_mark : List ℕ → Bool
byte_order_mark [] = false
byte_order_mark (a ∷ []) = false
byte_order_mark (a ∷ b ∷ []) = false
byte_order_mark (a ∷ b ∷ c ∷ l) = eqb a 0xEF && (eqb b 0xBB && eqb c 0xBF)
