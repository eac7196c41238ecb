-- `find_declared` meets its contract: the declarations passed do not have the name.
use mathlib.Core.Path.{sym, ◌∙◌}
use native.Mathlib.Omega.{arith}
use Rattle.scope.proofs.Search.{hit, miss, passed_all, declared_next, no_declaration}
use Rattle.scope.proofs.find_declared.Goals as goal

pub returns-then-is_name : goal.returns-then-is_name
returns-then-is_name c =
    let a = c.args in
    hit a.x.now _ _ _ c.loop-k.invariant _ _ (declared_next a.s.now a.declarations.now c.loop-k.k a.d (omega arith)) (sym c.is_name.ensures ∙ c.if-is_name.true)

pub loop-k-preserved : goal.loop-k-preserved
loop-k-preserved c =
    let a = c.args in
    miss a.x.now _ _ _ c.loop-k.invariant _ _ (declared_next a.s.now a.declarations.now c.loop-k.k a.d (omega arith)) (sym c.is_name.ensures ∙ c.if-is_name.false)

pub returns : goal.returns
returns c =
    let a = c.args in
    passed_all a.x.now _ _ _ c.loop-k.invariant (no_declaration a.s.now a.declarations.now c.loop-k.k a.d (omega arith))
