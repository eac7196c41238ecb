-- `depends::look_at_places` meets its contract.
use mathlib.Core.Path.{sym, ap, ◌∙◌}
use Prim.Native.Nat.{◌+◌, ◌-◌}
use Rattle.depends.specs.inner.Search.{places_looked_at}
use Rattle.depends.proofs.Searching.{next_place, no_place}
use borrow.Author.Rules.{rules}
use Rattle.depends.proofs.look_at_places.Goals as goal

pub loop-k-preserved : goal.loop-k-preserved
loop-k-preserved c =
    let a = c.args in
    let l = c.loop-k in
    l.invariant
    ∙ next_place a.core.now a.declarations.now a.j a.to l.k l.work (search rules)
    ∙ ap (places_looked_at a.core.now a.declarations.now a.j (a.to - (l.k + 1)) (l.k + 1)) (sym c.look_at_place.ensures)

pub returns : goal.returns
returns c =
    let a = c.args in
    let l = c.loop-k in
    sym (l.invariant ∙ no_place a.core.now a.declarations.now a.j a.to l.k l.work (search rules))
