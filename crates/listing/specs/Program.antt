-- Document 01, "The listing": what the program writes for a source.
use Rattle.std.specs.Prelude.{◌≡◌, List, ℕ, length, take}
use Rattle.std.specs.Io.KnownBytes.{Appends}
use Rattle.std.specs.declared.option.Option.{Option}
use Rattle.std.specs.declared.option.Option.TheVariants.{None, Some}
use Rattle.surface.specs.Tables.{Lengths}
use Rattle.text.specs.Text.{with_text, length_in}
use Rattle.lister.specs.Lists.{listing_text}

-- "It lends 1,024 rows to each row table, 256 declarations and a work area of 16,384 words."
abbrev pub lent : Lengths
lent = record { surface = 8192; core = 8192; declarations = 1280; work = 16384 }

unfoldable pub program_text : List ℕ → List ℕ
program_text s = listing_text s lent

-- The text stands at the beginning of the buffer, and the answer is its length.
unfoldable pub Written : List ℕ → List ℕ → ℕ → List ℕ → Type 0
Written s text r text₁ = (text₁ ≡ with_text text (program_text s)) × (r ≡ length_in text (length (program_text s)))

-- What a run writes, where the bytes of its input and those behind its output are known: the text for the input. Of an input that is longer than
-- every source that is taken, its first 65,536 bytes tell that.
abbrev pub Answers : Option (List ℕ) → Option (List ℕ) → Option (List ℕ) → Type 0
Answers None before after = Unit {0}
Answers (Some s) before after = Appends before after (program_text (take 65536 s))
