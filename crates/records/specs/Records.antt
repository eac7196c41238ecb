-- Document 01, "A declaration record": tables of words and lists of records.
use Rattle.std.specs.Prelude.{ℕ, zero, suc, ◌+◌, ◌*◌, ◌/◌, List, [], ◌∷◌, cond, ltb, length, get_or, set}
use Rattle.records.specs.declared.Declaration.{Declaration}

-- "unused records .. are 0"
abbrev pub blank : Declaration
blank = record { kind = 0; name_start = 0; name_length = 0; type_row = 0; body_row = 0 }

-- "A declaration record: kind .., name start, name length, type row, body row": the five words from a place on.
abbrev pub five_words : List ℕ → ℕ → Declaration
five_words t at =
    record {
      kind = get_or t at 0;
      name_start = get_or t (at + 1) 0;
      name_length = get_or t (at + 2) 0;
      type_row = get_or t (at + 3) 0;
      body_row = get_or t (at + 4) 0;
    }

-- Record k of a table; a blank behind the last whole record.
unfoldable pub record_at : List ℕ → ℕ → Declaration
record_at t k = cond (ltb k (length t / 5)) (five_words t (k * 5)) blank

-- The n records of a table from record k on.
unfoldable pub records_from : List ℕ → ℕ → ℕ → List Declaration
records_from t k zero = []
records_from t k (suc n) = record_at t k ∷ records_from t (suc k) n

-- The first n records of a table.
abbrev pub records_of : List ℕ → ℕ → List Declaration
records_of t n = records_from t 0 n

-- The words of a record, from a place on.
abbrev pub set_five : List ℕ → ℕ → Declaration → List ℕ
set_five t at d = set (set (set (set (set t at d.kind) (at + 1) d.name_start) (at + 2) d.name_length) (at + 3) d.type_row) (at + 4) d.body_row

-- A table with record k set, where it has it whole.
unfoldable pub record_put : List ℕ → ℕ → Declaration → List ℕ
record_put t k d = cond (ltb k (length t / 5)) (set_five t (k * 5) d) t

-- A table with its records from k on set to those of a list.
unfoldable pub words_of : List Declaration → ℕ → List ℕ → List ℕ
words_of [] k t = t
words_of (d ∷ l) k t = words_of l (suc k) (record_put t k d)

-- How many words of a table of so many a list of records takes: all of them where there is no room for so many.
unfoldable pub word_limit : ℕ → ℕ → ℕ
word_limit count words = cond (ltb count (words / 5)) (count * 5) words
