-- Document 02, Req 08, "Least storage for a source": the rows, declarations and open frames that it needs, or its refusal.
use Rattle.std.specs.Prelude.{◌≡◌, List, [], ◌∷◌, ℕ, length, Ok, Err}
use Rattle.terms.specs.Label.{Declaration}
use Rattle.terms.specs.Rows.{pad}
use Rattle.surface.specs.Reader.{start, Result, done, refused}
use Rattle.surface.specs.Sizes.{deepest}
use Rattle.surface.specs.Tables.{ample, Left, leaves}
use Rattle.surface.specs.Reports.{Report, accepted, report_refusal}
use Rattle.surface.specs.Loading.{parsing}
use Rattle.least_storage.specs.Answer.{Storage, needs}

-- "reports the rows, declarations and open frames it needs": a row for each term that was read. "The frames figure is the greatest number
-- open together in one term, by a definition over the term's tree."
abbrev pub needed : Result (List Declaration) → Storage
needed (done ds p) = needs p.rows (length ds) (deepest ds)
needed (refused r) = Err r

-- "A new call reads a source": it does what `parse_surface` does, with tables that no source fills and a work area of so many words.
-- "A source refused for 1, 2, 3, 6 or 7 gives that refusal here, and 11 is given as in loading. Names are not resolved".
unfoldable pub storage : List ℕ → ℕ → Storage
storage s work = needed (parsing s (ample s work) start)

-- What a call of `storage` leaves: its answer, and the work area 0.
abbrev pub storage_left : List ℕ → ℕ → Left Storage (List ℕ)
storage_left s work = leaves (storage s work) (pad work [])

-- The promise of `storage`: a call for the source s, with such a work area before it, gives this answer and leaves this area.
abbrev pub Stores : List ℕ → List ℕ → Storage → List ℕ → Type 0
Stores s before answer after = leaves answer after ≡ storage_left s (length before)

-- The number and values of the answer: the rows, the declarations and the open frames.
abbrev pub report_storage : Storage → Report
report_storage (Ok n) = accepted (n.rows ∷ n.declarations ∷ n.frames ∷ [])
report_storage (Err r) = report_refusal r
