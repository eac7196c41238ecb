-- `elaborate_declarations` meets its contract: what all declarations come to is what the rest comes to.
use mathlib.Core.Path.{refl, ◌∙◌}
use native.Mathlib.Omega.{arith}
use Rattle.std.proofs.lemmas.Result.{err_from_is_err_and}
use Rattle.scope.proofs.Index.{indexed_none}
use Rattle.elaborate.proofs.ModuleLoop.{none_done, one_done, one_refused, all_done, elaborates_done, elaborates_refused}
use Rattle.elaborate.proofs.elaborate_declarations.Goals as goal

pub loop-d-init : goal.loop-d-init
loop-d-init c =
    let a = c.args in
    (refl, refl, refl, indexed_none a.m.source.now a.m.declarations.now a.index.now c.requires.blank, λ ds h. none_done a.m.source.now a.m.surface.now a.m.declarations.now a.m.rows a.count a.core.now ds h)

pub returns-in_err-declaration_step : goal.returns-in_err-declaration_step
returns-in_err-declaration_step c =
    let a = c.args in
    let l = c.loop-d in
    let k = c.declaration_step in
    let x = c.in_err-declaration_step in
    let p = err_from_is_err_and c.from_residual.result c.from_residual.ensures.1 in
    λ ds h. rw (p.1, p.2) (elaborates_refused a.m.source.now a.m.surface.now a.m.declarations.now a.m.rows a.count a.core.now ds k.new.core _
    (one_refused a.m.source.now a.m.surface.now a.m.declarations.now a.m.rows a.count a.core.now ds l.d l.core k.new.core _ (l.invariant.4 ds h) c.loop-d-test.true x.ensures.declared))

pub loop-d-preserved : goal.loop-d-preserved
loop-d-preserved c =
    let a = c.args in
    let l = c.loop-d in
    let k = c.declaration_step in
    let x = c.in_ok-declaration_step in (
      k.auto.core ∙ l.invariant.0,
      k.auto.work ∙ l.invariant.1,
      k.auto.index ∙ l.invariant.2,
      x.ensures.indexed refl,
      λ ds h. one_done a.m.source.now a.m.surface.now a.m.declarations.now a.m.rows a.count a.core.now ds l.d l.core k.new.core (l.invariant.4 ds h) c.loop-d-test.true x.ensures.declared,
    )

pub returns : goal.returns
returns c =
    let a = c.args in
    let l = c.loop-d in
    λ ds h. elaborates_done a.m.source.now a.m.surface.now a.m.declarations.now a.m.rows a.count a.core.now ds l.core h (all_done a.m.source.now a.m.surface.now a.m.declarations.now a.m.rows a.count a.core.now ds l.d l.core (l.invariant.4 ds h) (omega arith))
