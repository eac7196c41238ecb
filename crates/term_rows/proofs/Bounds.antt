-- The test for the bounds within which a term is read.
use mathlib.Core.Path.{◌≡◌}
use mathlib.Core.List.{List}
use mathlib.Core.Bool.{true, ◌&&◌, and-eq-true_iff}
use Prim.Native.Nat.{ℕ}
use lib.Dec.{leb}
use lib.ListN.{length}
use borrow.Author.Tests.{leb-true}
use Rattle.term_rows.specs.TermRows.{TermBounds, within}

module _ (s : List ℕ) (at n : ℕ) where
  pub within_bounds : within (length s) at n ≡ true → TermBounds s at n
  within_bounds e =
      let a = (and-eq-true_iff (leb (length s) 4294967295) (leb at (length s) && leb n at)).0 e in
      let b = (and-eq-true_iff (leb at (length s)) (leb n at)).0 a.1 in
      record { source = leb-true (length s) 4294967295 a.0; inside = leb-true at (length s) b.0; few = leb-true n at b.1 }
