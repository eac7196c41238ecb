-- `same::first_difference` meets its contract: the declarations before k are the same.
use mathlib.Core.Path.{◌≡◌, subst}
use native.Mathlib.Omega.{arith}
use borrow.Author.Tests.{not-true, not-false}
use Rattle.same.proofs.Declarations.{none_before, all_same, differs, goes_on}
use Rattle.same.specs.inner.Contents.{SameBefore}
use Rattle.same.proofs.first_difference.Goals as goal

pub loop-k-init : goal.loop-k-init
loop-k-init c =
    let a = c.args in
    none_before a.s.now a.core1.now a.declarations1.now a.t.now a.core2.now a.declarations2.now

pub returns-then-not-same_declaration : goal.returns-then-not-same_declaration
returns-then-not-same_declaration c =
    let a = c.args in
    let l = c.loop-k in
    let d = c.same_declaration in
    differs a.s.now a.core1.now a.declarations1.now a.t.now a.core2.now a.declarations2.now a.m a.n l.k (omega arith) (omega arith) l.invariant d.result d.ensures (not-true _ c.if-not-same_declaration.true-raw)

pub loop-k-preserved : goal.loop-k-preserved
loop-k-preserved c =
    let a = c.args in
    let l = c.loop-k in
    let d = c.same_declaration in
    goes_on a.s.now a.core1.now a.declarations1.now a.t.now a.core2.now a.declarations2.now a.m a.n l.k (omega arith) (omega arith) l.invariant d.result d.ensures (not-false _ c.if-not-same_declaration.false-raw)

pub returns : goal.returns
returns c =
    let a = c.args in
    let r = c.min-shorter in
    let e : c.loop-k.k ≡ r.result = omega arith in
    all_same a.s.now a.core1.now a.declarations1.now a.t.now a.core2.now a.declarations2.now a.m a.n r.result r.ensures
    (subst (SameBefore a.s.now a.core1.now a.declarations1.now a.t.now a.core2.now a.declarations2.now) e c.loop-k.invariant)
