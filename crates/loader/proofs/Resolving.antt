-- From the answer of resolution to the answer of loading.
use Rattle.token.specs.declared.Class.{Class}
use Rattle.std.specs.Prelude.{Ok, Err}
use mathlib.Core.Path.{◌≡◌, ap}
use mathlib.Core.List.{List}
use mathlib.Core.Option.{Option, none, some}
use Prim.Native.Nat.{ℕ}
use lib.ListN.{length}
use Rattle.terms.specs.Label.{Declaration}
use Rattle.terms.specs.Resolution.{RefusedName}
use Rattle.surface.specs.Answer.{loaded}
use Rattle.surface.specs.Reader.{nowhere}
use Rattle.elaborate.specs.declared.RefusedName as declared
use Rattle.elaborate.specs.Loadable.{ElaboratesTo}
use Rattle.loader.specs.inner.Stored.{ResolvesTo}

module _ (s : List ℕ) (ds : List Declaration) (rows : ℕ) (core core₁ : List ℕ) where
  pub all_resolved : (o : Option RefusedName) (count : ℕ) → ElaboratesTo o s ds rows core (Ok tt) core₁ → count ≡ length ds
      → ResolvesTo o s ds rows (loaded rows count) core₁
  all_resolved none count h n = (ap (loaded rows) n, h.1)
  all_resolved (some x) count h n = absurd cc

  pub name_refused : (o : Option RefusedName) (name : declared.RefusedName) → ElaboratesTo o s ds rows core (Err name) core₁
      → ResolvesTo o s ds rows (Err (nowhere name.class)) core₁
  name_refused none name h = absurd (cc h.0)
  name_refused (some x) name h = ap (λ (c : Class). Err (nowhere c)) (let q : name.class ≡ x.class = cc in q)
