-- Document 02, Req 01, of the eighth word of a core row: "The listing does not print it."
use Rattle.std.specs.Prelude.{◌≡◌, List, ℕ, ◌+◌, ◌*◌, ◌<◌, get_or}
use Rattle.lines.specs.Listing.{listing}

-- Two core tables that are equal in the first seven words of each row.
abbrev pub SameButOffsets : List ℕ → List ℕ → Type 0
SameButOffsets core other = (k j : ℕ) → j < 7 → get_or core (k * 8 + j) 0 ≡ get_or other (k * 8 + j) 0

-- They have the same listing.
abbrev pub OffsetsUnprinted : Type 0
OffsetsUnprinted =
    (s core other declarations : List ℕ) (rows count : ℕ) → SameButOffsets core other
    → listing s core declarations rows count ≡ listing s other declarations rows count
