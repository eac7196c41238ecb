-- Document 02, Req 02: how names are compared. "What the comparison means .. is untouched": `same_bytes` is what it was.
use Rattle.std.specs.Prelude.{ℕ, ◌≡◌, ◌&&◌, List, eqb, length}
use Rattle.differences.specs.Differences.{first_difference}
use Rattle.words.specs.Words.{same_bytes}

-- Two names have equal bytes exactly if they are equally long and the search finds no place before their length. proofs/Comparison.antt
-- has the proof.
abbrev pub ComparedBySearch : Type 0
ComparedBySearch = (a b : List ℕ) → same_bytes a b ≡ (eqb (length a) (length b) && eqb (first_difference a b) (length a))
