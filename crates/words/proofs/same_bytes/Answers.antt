-- `words::same_bytes` meets its contract.
use mathlib.Core.Path.{sym, ◌∙◌, ap}
use native.Mathlib.Omega.{arith}
use lib.Dec.{eqb}
use lib.ListN.{length}
use borrow.Author.Tests.{eq-eqb, ne_eqb}
use Rattle.words.proofs.Comparison.{compared_by_search}
use Rattle.words.proofs.same_bytes.Goals as goal

pub returns-then-n-b : goal.returns-then-n-b
returns-then-n-b c =
    let a = c.args in
    ap (λ k. eqb k (length a.a.now)) c.first_difference.ensures
    ∙ sym (compared_by_search a.a.now a.b.now ∙ rw (eq-eqb (length a.a.now) (length a.b.now) (omega arith)))

pub returns-else-n-b : goal.returns-else-n-b
returns-else-n-b c =
    let a = c.args in
    let e = ne_eqb (length a.a.now) (length a.b.now) (λ q. omega arith) in
    rw e (sym (compared_by_search a.a.now a.b.now ∙ rw e))
