-- A source has so few declarations that a mark for each place fits in the work area.
use mathlib.Core.Path.{◌≡◌}
use mathlib.Core.List.{List}
use Prim.Native.Nat.{ℕ, ◌≤◌}
use native.Mathlib.Omega.{arith}
use lib.ListN.{length}
use Rattle.terms.specs.Label.{Declaration}
use Rattle.surface.specs.Reader.{Position, start, done}
use Rattle.surface.specs.Loading.{Lengths, loading}
use Rattle.surface.proofs.Acceptance.{is_read, is_loaded}
use Rattle.least_storage.proofs.Needed.{readable_fits}

-- "16,384 words"
pub places_fit : (s : List ℕ) (z : Lengths) (ds : List Declaration) (q : Position) → loading s z start ≡ done ds q → length ds ≤ z.work
places_fit s z ds q e =
    let r = is_read s z ds q (is_loaded s z ds q e).read in
    omega (arith, (readable_fits s ds r.readable).1, r.readable.short, r.enough.work)
