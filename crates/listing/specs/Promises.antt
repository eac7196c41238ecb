-- What is promised of the listing beside the contract of `list`; `Example` and `Fits` in proofs/ show it.
use Rattle.std.specs.Prelude.{◌≡◌, List, ℕ, ◌≤◌, length}
use Rattle.words.specs.Words.{ascii}
use Rattle.listing.specs.Program.{program_text}

-- Document 01's example of the listing: what is printed for its input.
abbrev pub example_input : List ℕ
example_input = ascii "(surface 0 1)(module m)(postulate x nat)(postulate y (pi x (ref x) (ref x)))"

abbrev pub example_listing : List ℕ
example_listing = ascii "nodes 4 declarations 2\n0 nat\n1 global 0\n2 var 0\n3 pi 1 2\n0 postulate x 0\n1 postulate y 3\n"

abbrev pub ExamplePrinted : Type 0
ExamplePrinted = program_text example_input ≡ example_listing

-- The text of every source fits the program's buffer.
abbrev pub EveryTextFits : Type 0
EveryTextFits = (s : List ℕ) → length (program_text s) ≤ 262144
