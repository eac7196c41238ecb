-- Document 01, "Readings on the card": the starred lines as one table.
use Rattle.token.specs.declared.Class.{Class}
use Rattle.std.specs.Prelude.{◌≡◌, List, [], ◌∷◌, ◌++◌, map, ℕ, Err}
use Prim.Native.String.{String}
use Rattle.words.specs.Words.{ascii}
use Rattle.terms.specs.Rows.{pad}
use Rattle.surface.specs.Answer.{Answer, loaded}
use Rattle.surface.specs.Reader.{nowhere, at_offset}
use Rattle.surface.specs.Tables.{Lengths, tables, leaves}
use Rattle.surface.specs.Loading.{Outcome, load}

-- A source, the lengths of the lent tables, and all that loading leaves.
pub record Reading : Type 0 where
  pub source : List ℕ
  pub lent : Lengths
  pub leaves : Outcome

-- What the listing lends: 1,024 rows for each row table, 256 declarations, and 16,384 words.
abbrev pub listing_lengths : Lengths
listing_lengths = record { surface = 8192; core = 8192; declarations = 1280; work = 16384 }

-- An answer, with the first words of three tables; all other words are 0.
abbrev pub gives : List ℕ → Answer → List ℕ → List ℕ → List ℕ → Reading
gives s a surface core declarations = record {
  source = s;
  lent = listing_lengths;
  leaves = leaves a (tables (pad 8192 surface) (pad 8192 core) (pad 1280 declarations) (pad 16384 []));
}

abbrev pub refuses_at : List ℕ → Class → ℕ → Reading
refuses_at s class offset = gives s (Err (at_offset class offset)) [] [] []

abbrev pub refuses : List ℕ → Class → Reading
refuses s class = gives s (Err (nowhere class)) [] [] []

-- H and what follows it.
abbrev pub H : String → List ℕ
H w = ascii "(surface 0 1)(module m)" ++ ascii w

abbrev pub starred : List Reading
starred =
    refuses_at [] Class.Malformed 0 ∷
    refuses_at (ascii "(") Class.Malformed 1 ∷
    gives (H "") (loaded 0 0) [] [] [] ∷
    refuses_at (ascii "(surface 1 0") Class.Malformed 12 ∷
    refuses (ascii "(surface 1 0) ]") Class.Version ∷
    refuses_at (ascii "(surface 00 1)") Class.Malformed 9 ∷
    refuses_at (H "(postulate nat-elim nat)") Class.ReservedName 34 ∷
    refuses_at (H "(postulate a-b nat)") Class.Malformed 34 ∷
    refuses (H "(postulate a nat)(postulate a (ref q))") Class.DuplicateName ∷
    refuses (H "(postulate a (ref q))(postulate a nat)") Class.UnknownName ∷
    refuses_at (H "(postulate b (ref q))(") Class.Malformed 45 ∷
    -- the listing's input: `0 nat, 1 global 0, 2 var 0, 3 pi 1 2; 0 postulate x 0, 1 postulate y 3`, and where each term starts
    gives (H "(postulate x nat)(postulate y (pi x (ref x) (ref x)))") (loaded 4 2)
    (19 ∷ 0 ∷ 0 ∷ 0 ∷ 0 ∷ 0 ∷ 0 ∷ 36 ∷
    24 ∷ 64 ∷ 1 ∷ 0 ∷ 0 ∷ 0 ∷ 0 ∷ 59 ∷
    24 ∷ 72 ∷ 1 ∷ 0 ∷ 0 ∷ 0 ∷ 0 ∷ 67 ∷
    4 ∷ 57 ∷ 1 ∷ 1 ∷ 2 ∷ 0 ∷ 0 ∷ 53 ∷ [])
    (19 ∷ 0 ∷ 0 ∷ 0 ∷ 0 ∷ 0 ∷ 0 ∷ 36 ∷
    2 ∷ 0 ∷ 0 ∷ 0 ∷ 0 ∷ 0 ∷ 0 ∷ 59 ∷
    1 ∷ 0 ∷ 0 ∷ 0 ∷ 0 ∷ 0 ∷ 0 ∷ 67 ∷
    4 ∷ 1 ∷ 2 ∷ 0 ∷ 0 ∷ 0 ∷ 0 ∷ 53 ∷ [])
    (1 ∷ 34 ∷ 1 ∷ 0 ∷ 0 ∷
    1 ∷ 51 ∷ 1 ∷ 3 ∷ 0 ∷ []) ∷
    []

-- "What is shown of examples? The starred lines, as one table under one theorem over the definitions."
abbrev pub StarredReadings : Type 0
StarredReadings = map (λ r. load r.source r.lent) starred ≡ map (λ r. r.leaves) starred
