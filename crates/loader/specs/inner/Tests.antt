-- What is known of a source that was tested before it is read.
use Rattle.std.specs.Prelude.{◌≡◌, List, ℕ, ◌/◌, ◌≤◌, length, Result, Ok, Err}
use Rattle.token.specs.declared.Refusal.{Refusal}
use Rattle.surface.specs.Reader.{start, refused}
use Rattle.surface.specs.Reading.{read_module}
use Rattle.surface.specs.Tables.{Lengths}
use Rattle.surface.specs.Loading.{frame_limit, parsing}

-- With whatever tables beside a work area of so many words, all that is left is to read it.
pub record LeftToRead (s : List ℕ) (work : ℕ) : Type 0 where
  pub area : 16384 ≤ work
  pub short : length s ≤ 65535
  pub reads : (z : Lengths) → z.work ≡ work → parsing s z start ≡ read_module s (z.surface / 8) (z.declarations / 5) frame_limit start

abbrev pub Tests : List ℕ → ℕ → Result (Unit {0}) Refusal → Type 0
Tests s work (Ok u) = LeftToRead s work
Tests s work (Err r) = (z : Lengths) → z.work ≡ work → parsing s z start ≡ refused r
