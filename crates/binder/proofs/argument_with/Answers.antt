-- `argument_with` meets its contract.
use Prim.Native.Nat.{ℕ, ◌+◌, ◌*◌}
use mathlib.Core.Path.{ap, ◌∙◌}
use native.Mathlib.Omega.{arith}
use lib.Dec.{leb}
use lib.ListN.{get_or}
use borrow.Author.Tests.{lt-leb}
use Rattle.rows.proofs.Arities.{arity_at_most_six}
use Rattle.binder.proofs.Spans.{small, argument_is}
use Rattle.binder.proofs.First.{passed}
use Rattle.binder.proofs.argument_with.Goals as goal

pub loop-i-init : goal.loop-i-init
loop-i-init c =
    let a = c.args in
    let kind = c.word_at-kind in
    let n = c.arity-n in
    let b = c.behind_span in (
      argument_is a.surface.now a.k a.id kind.result n.result _ kind.ensures n.ensures (ap (λ (x : ℕ). a.id * 8 + x) b.ensures),
      omega (arith, n.ensures, arity_at_most_six kind.result),
      omega (arith, b.ensures, small kind.result),
    )

pub loop-i-preserved : goal.loop-i-preserved
loop-i-preserved c =
    let o = c.args in
    let f = o.id * 8 + c.behind_span.result in
    let l = c.loop-i in (
      l.invariant.0 ∙ passed (λ j. leb o.k (get_or o.surface.now (f + j) 0)) c.arity-n.result l.i (lt-leb o.k (get_or o.surface.now (f + l.i) 0) (omega (arith, c.word_at.ensures, c.if-k-word_at.false))) (omega arith),
      l.invariant.1,
      l.invariant.2,
    )
