-- An index that is all 0 has no declaration in it.
use Prim.Native.Nat.{ℕ}
use mathlib.Core.List.{List}
use lib.ListN.{replicate}
use Rattle.scope.specs.Index.{Indexed}
use Rattle.scope.proofs.Index.{blank, indexed_none}

pub indexed_blank : (s t : List ℕ) (n : ℕ) → Indexed s t 0 (replicate n 0)
indexed_blank s t n = indexed_none s t (replicate n 0) (blank n)
