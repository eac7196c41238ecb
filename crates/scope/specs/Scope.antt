-- Document 01, "The core module": the local binders and the declared names, as the work area and the declaration records hold them.
use Rattle.std.specs.Prelude as Prelude
use Rattle.std.specs.Prelude.{ℕ, zero, suc, ◌+◌, ◌*◌, ◌≤◌, List, [], ◌∷◌, map, length, get_or}
use Rattle.std.proofs.Math.Option.{Option, none, some}
use Rattle.terms.specs.Label.{Name, part}
use Rattle.terms.specs.Resolution.{Locals, bound_name}
use Rattle.terms.specs.Lookup as Lookup
use Rattle.terms.specs.Lookup.{Local, local_of, found}
use Rattle.scope.specs.declared.FoundLocal.{FoundLocal}
use Rattle.scope.specs.declared.Referent.{Referent}

abbrev pub place_of : Prelude.Option ℕ → Option ℕ
place_of (Prelude.Some k) = some k
place_of Prelude.None = none

abbrev pub found_of : Prelude.Option FoundLocal → Option Lookup.Found
found_of (Prelude.Some f) = some (found f.count f.row)
found_of Prelude.None = none

abbrev pub referent_of : Prelude.Option Referent → Lookup.Referent
referent_of (Prelude.Some (Referent.Local f)) = Lookup.local (found f.count f.row)
referent_of (Prelude.Some (Referent.Global j)) = Lookup.global j
referent_of Prelude.None = Lookup.unknown

-- The first d locals of a work area, the innermost in front. A local is four words: start and length of its name from word 0 on, the row of the form
-- that binds it from word 1,024 on, and that form's kind from word 1,536 on.
unfoldable pub in_scope : List ℕ → List ℕ → ℕ → List Local
in_scope s w zero = []
in_scope s w (suc d) =
    local_of (bound_name (get_or w (1536 + d) 0) (part s (get_or w (d * 2) 0) (get_or w (d * 2 + 1) 0))) (get_or w (1024 + d) 0) ∷ in_scope s w d

-- Their names.
abbrev pub local_names : List ℕ → List ℕ → ℕ → Locals
local_names s w d = map (λ y. y.name) (in_scope s w d)

-- There are at most 512 locals, whose words are there.
pub record Binders (w : List ℕ) (depth : ℕ) : Type 0 where
  pub few : depth ≤ 512
  pub there : 2048 ≤ length w

-- The names of d declarations from place k on. A record is five words: kind, name start, name length, type row, body row.
unfoldable pub declared_names : List ℕ → List ℕ → ℕ → ℕ → List Name
declared_names s declarations k zero = []
declared_names s declarations k (suc d) =
    part s (get_or declarations (k * 5 + 1) 0) (get_or declarations (k * 5 + 2) 0) ∷ declared_names s declarations (suc k) d
