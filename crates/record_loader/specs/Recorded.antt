-- Document 01, "the declaration list is lent as a slice of records, 9 then counting records".
use Rattle.std.specs.Prelude.{List, [], ◌∷◌, ℕ, length, take}
use Rattle.records.specs.declared.Declaration.{Declaration}
use Rattle.records.specs.Records.{word_limit}

-- The words that a list of records stands for, "kind .., name start, name length, type row, body row" of each: a list of n records is a
-- table of n times five words, whatever is asked.
unfoldable pub list_words : List Declaration → List ℕ
list_words [] = []
list_words (d ∷ l) = d.kind ∷ d.name_start ∷ d.name_length ∷ d.type_row ∷ d.body_row ∷ list_words l

-- For an inner promise: the words of a table that a list of so many records takes.
abbrev pub front : ℕ → List ℕ → List ℕ → List ℕ
front count words words₁ = take (word_limit count (length words)) words₁
