-- `elaborate_term` meets its contract: the whole outcome is what the state and the tables come to.
use mathlib.Core.Path.{refl, sym, subst}
use native.Mathlib.Omega.{arith}
use Rattle.elaborate.proofs.TermLoop.{Elaborating, started, ended}
use Rattle.elaborate.proofs.elaborate_term.Goals as goal

pub loop-st-init : goal.loop-st-init
loop-st-init c =
    let a = c.args in
    let k = c.begin_term-st in
    (subst (Elaborating a.m.source.now a.m.surface.now a.m.declarations.now a.index.now a.m.rows a.d a.root a.core.now a.core.now k.new.work) (sym k.ensures.0) (started a.m.source.now a.m.surface.now a.m.declarations.now a.index.now a.m.rows a.d a.root a.core.now a.work.now k.new.work c.requires k.auto.work k.ensures.1), refl, refl)

pub returns : goal.returns
returns c =
    let a = c.args in
    let l = c.loop-st in
    ended a.m.source.now a.m.surface.now a.m.declarations.now a.index.now a.m.rows a.d a.root a.core.now l.core l.work l.st l.invariant.0 (omega arith)
