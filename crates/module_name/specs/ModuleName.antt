-- Document 02, Req 07, "Module name from the head of the file": the name in the shortest beginning that loading accepts.
use Rattle.std.specs.Prelude.{List, [], ◌∷◌, ℕ, zero, suc, ◌-◌, length, take, Ok, Err}
use Rattle.token.specs.declared.Token.{Token}
use Rattle.surface.specs.Reader.{start, Result, done, refused, Reader, ◌>>=◌, ◌>>◌, pure, move_to}
use Rattle.surface.specs.Reading.{head}
use Rattle.surface.specs.Tables.{ample}
use Rattle.surface.specs.Reports.{Report, accepted, report_refusal}
use Rattle.surface.specs.Loading.{loading}
use Rattle.module_name.specs.Answer.{ModuleName, named_at}

-- The name in a source that "would be accepted by itself, given enough storage": it is loaded, and then its head is read for the name.
-- `AmpleIsEnough` shows that no other tables would do more.
unfoldable pub name_in : List ℕ → Reader Token
name_in s = do
  ds ← loading s (ample s 16384)
  move_to start
  h ← head s
  pure h.name

abbrev pub answered : Result Token → ModuleName
answered (done x p) = named_at x.start (x.end - x.start)
answered (refused r) = Err r

-- A name, or else what another answer is.
abbrev pub or_else : ModuleName → ModuleName → ModuleName
or_else (Ok n) y = Ok n
or_else (Err r) y = y

-- "the name in the shortest beginning of the source that would be accepted by itself": the beginning of n bytes is tried, then that of one byte
-- more, and so on, k times. "If no such beginning exists, the answer is the refusal of the whole source": of the beginning that is tried last.
unfoldable pub shortest : List ℕ → ℕ → ℕ → ModuleName
shortest s n zero = answered (name_in (take n s) start)
shortest s n (suc k) = or_else (answered (name_in (take n s) start)) (shortest s (suc n) k)

-- The promise of `head`: its answer is this.
unfoldable pub module_name : List ℕ → ModuleName
module_name s = shortest s 0 (length s)

-- The number and values of the answer: where the name starts, and its length.
abbrev pub report_module_name : ModuleName → Report
report_module_name (Ok n) = accepted (n.start ∷ n.length ∷ [])
report_module_name (Err r) = report_refusal r
