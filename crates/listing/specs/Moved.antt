-- What calls of read and write moved.
use Rattle.std.specs.Prelude.{ℕ, ◌-◌, ◌≤◌, ◌<◌, List, Result, Ok, Err, length, take, drop}
use Rattle.std.specs.Io.KnownBytes.{Consumes, IsAtEnd, Keeps}
use Rattle.std.specs.declared.option.Option.{Option}
use Rattle.listing.specs.declared.standard.Transfer.{Transfer}
use Rattle.std.specs.declared.io.Error.{Error}

-- A step ends within the bytes that there are.
abbrev pub Within : ℕ → Transfer → Type 0
Within end (Transfer.To n) = n ≤ end
Within end Transfer.Nothing = Unit {0}
Within end Transfer.Interrupted = Unit {0}
Within end (Transfer.Failed error) = Unit {0}

-- What was read lies within the buffer.
abbrev pub Read : ℕ → Result ℕ Error → Type 0
Read end (Ok n) = n ≤ end
Read end (Err error) = Unit {0}

-- Of an input whose bytes are known, before and after a step into the buffer from an offset on: it gave the bytes that the step moved,
-- in their order, and a step that moved nothing met its end where there was room.
abbrev pub Gives : Option (List ℕ) → Option (List ℕ) → ℕ → List ℕ → Transfer → Type 0
Gives before after from buf (Transfer.To n) = Consumes before after (take (n - from) (drop from buf)) × (from ≤ n)
Gives before after from buf Transfer.Nothing = Keeps before after × (from < length buf → IsAtEnd after)
Gives before after from buf Transfer.Interrupted = Keeps before after
Gives before after from buf (Transfer.Failed error) = Keeps before after

-- The bytes at the beginning of the buffer are the input's, and all that it has where the buffer has room for more.
abbrev pub Fills : Option (List ℕ) → Option (List ℕ) → List ℕ → Result ℕ Error → Type 0
Fills before after buf (Ok n) = Consumes before after (take n buf) × (n < length buf → IsAtEnd after)
Fills before after buf (Err error) = Unit {0}
