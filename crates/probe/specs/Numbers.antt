-- The answers of the inner layers as numbers.
use Rattle.token.specs.Token.{Lexed, Place}
use Rattle.std.specs.Prelude.{ℕ, cond, List, eqb, length, Ok, Err, Some, None}
use Rattle.differences.specs.Differences.{first_difference}
use Rattle.words.specs.declared.NameTest.{NameTest}
pub use Rattle.surface.specs.Reports.{token_number}

abbrev pub place_number : Place → ℕ
place_number (Some at) = at
place_number None = 0

abbrev pub kind_number : Lexed → ℕ
kind_number (Ok t) = token_number t.kind
kind_number (Err r) = 0

abbrev pub start_number : Lexed → ℕ
start_number (Ok t) = t.start
start_number (Err r) = place_number r.place

abbrev pub end_number : Lexed → ℕ
end_number (Ok t) = t.end
end_number (Err r) = place_number r.place

-- 0 for a name, else the class of the refusal: 3 reserved, 1 malformed.
abbrev pub test_number : NameTest → ℕ
test_number NameTest.Name = 0
test_number NameTest.Reserved = 3
test_number NameTest.NotIdentifier = 1

-- Where two names of one length differ first, or their length; a number that is no place for two of other lengths.
abbrev pub difference_number : List ℕ → List ℕ → ℕ
difference_number a b = cond (eqb (length a) (length b)) (first_difference a b) 18446744073709551615
