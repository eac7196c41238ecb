-- What a call of `load` is lent and leaves, by the words of each table.
use Rattle.std.specs.Prelude.{List, ℕ}
use Rattle.surface.specs.Answer.{Answer}
use Rattle.surface.specs.Tables.{Lengths, tables, lengths, leaves}
use Rattle.surface.specs.Loading.{Outcome}

abbrev pub lengths_of : List ℕ → List ℕ → List ℕ → List ℕ → Lengths
lengths_of surface core declarations work = lengths (tables surface core declarations work)

abbrev pub leaving : Answer → List ℕ → List ℕ → List ℕ → List ℕ → Outcome
leaving r surface core declarations work = leaves r (tables surface core declarations work)
