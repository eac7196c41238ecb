-- `depends::first_marked` meets its contract.
use mathlib.Core.Path.{◌≡◌, sym, ◌∙◌}
use native.Mathlib.Omega.{arith}
use Rattle.depends.proofs.Searching.{found, passed, ended}
use borrow.Author.Rules.{rules}
use Rattle.depends.proofs.first_marked.Goals as goal

pub returns-then-names_marked : goal.returns-then-names_marked
returns-then-names_marked c =
    let a = c.args in
    let l = c.loop-k in
    sym (l.invariant.same ∙ found a.core.now a.work.now a.to l.k (sym c.names_marked.ensures ∙ search rules) (search rules))

pub loop-k-preserved : goal.loop-k-preserved
loop-k-preserved c =
    let a = c.args in
    let l = c.loop-k in
    record { same = l.invariant.same ∙ passed a.core.now a.work.now a.to l.k (sym c.names_marked.ensures ∙ search rules) (search rules); high = omega arith }

pub returns : goal.returns
returns c =
    let a = c.args in
    let l = c.loop-k in
    let e : c.max.result ≡ l.k = omega arith in
    e ∙ sym (l.invariant.same ∙ ended a.core.now a.work.now a.to l.k (search rules))
