-- Loading, refused or not, leaves each table as long as it was lent.
use mathlib.Core.Path.{◌≡◌}
use mathlib.Core.List.{List}
use Prim.Native.Nat.{ℕ}
use lib.ListN.{length}
use Rattle.terms.specs.Label.{Declaration}
use Rattle.terms.proofs.Tables.{length_pad}
use Rattle.surface.specs.Reader.{start, Result, done, refused}
use Rattle.surface.specs.Loading.{Lengths, loading, Outcome, outcome, load}

pub record KeptLengths (z : Lengths) (o : Outcome) : Type 0 where
  pub surface : length o.tables.surface ≡ z.surface
  pub core : length o.tables.core ≡ z.core
  pub declarations : length o.tables.declarations ≡ z.declarations
  pub work : length o.tables.work ≡ z.work

pub outcome_keeps : (s : List ℕ) (z : Lengths) (r : Result (List Declaration)) → KeptLengths z (outcome s z r)
outcome_keeps s z (refused r) = record {
  surface = length_pad z.surface _;
  core = length_pad z.core _;
  declarations = length_pad z.declarations _;
  work = length_pad z.work _;
}
outcome_keeps s z (done ds p) = record {
  surface = length_pad z.surface _;
  core = length_pad z.core _;
  declarations = length_pad z.declarations _;
  work = length_pad z.work _;
}

pub load_keeps : (s : List ℕ) (z : Lengths) → KeptLengths z (load s z)
unfolding load
load_keeps s z = outcome_keeps s z (loading s z start)
