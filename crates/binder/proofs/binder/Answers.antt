-- `binder` meets its contract.
use Rattle.std.proofs.lemmas.Result.{err_from_is_err_and}
use mathlib.Core.Path.{sym, ap, ◌∙◌, subst}
use Rattle.std.specs.Prelude.{Err}
use Rattle.token.specs.declared.Refusal.{Refusal}
use Rattle.surface.specs.Tables.{tables}
use Rattle.binding.specs.Answer.{Binding}
use Rattle.loader.specs.Leaving.{lengths_of}
use Rattle.binder.specs.inner.Walk.{binding_of}
use Rattle.binder.proofs.Asking.{ask_refused, ready, ask_ref, ask_other, Promised}
use borrow.Author.Rules.{rules}
use Rattle.binder.proofs.binder.Goals as goal

pub refers_at-referent-requires : goal.refers_at-referent-requires
refers_at-referent-requires c =
    let a = c.args in
    let z = lengths_of a.surface.now a.core.now a.declarations.now a.work.now in
    let k = c.load in
    let r = ready a.s.now z a.row k.result k.new.surface k.new.core k.new.declarations k.new.work k.ensures c.in_ok-loaded.loaded.rows c.in_ok-loaded.loaded.declarations c.in_ok-loaded.was (sym c.is_reference.ensures ∙ search rules) in
    record { k_in_bounds = (r.row_there, r.area); placed = r.placed }

pub returns-then-is_reference : goal.returns-then-is_reference
returns-then-is_reference c =
    let a = c.args in
    let z = lengths_of a.surface.now a.core.now a.declarations.now a.work.now in
    let k = c.load in
    let f = c.refers_at-referent in
    let w = ask_ref a.s.now z a.row k.result k.new.surface k.new.core k.new.declarations k.new.work k.ensures c.in_ok-loaded.loaded.rows c.in_ok-loaded.loaded.declarations c.in_ok-loaded.was (sym c.is_reference.ensures ∙ search rules) f.new.work f.auto.work in
    let e = c.binding_of.ensures ∙ ap binding_of f.ensures in
    subst (λ (x : Binding). Promised a.s.now z a.row k.result k.new.surface k.new.core k.new.declarations k.new.work k.ensures x (tables k.new.surface k.new.core k.new.declarations c.clear_from.new.t)) (sym e)
    (w.0, ap (tables k.new.surface k.new.core k.new.declarations) c.clear_from.ensures ∙ w.1)

pub returns-in_err-loaded : goal.returns-in_err-loaded
returns-in_err-loaded c =
    let a = c.args in
    let z = lengths_of a.surface.now a.core.now a.declarations.now a.work.now in
    let k = c.load in
    let p = err_from_is_err_and c.from_residual.result c.from_residual.ensures.1 in
    rw (p.1, p.2) (ask_refused a.s.now z a.row k.result k.new.surface k.new.core k.new.declarations k.new.work k.ensures _ c.in_err-loaded.was)

pub returns : goal.returns
returns c =
    let a = c.args in
    let z = lengths_of a.surface.now a.core.now a.declarations.now a.work.now in
    let k = c.load in
    let y = c.clear_all.ensures in
    let w = ask_other a.s.now z a.row k.result k.new.surface k.new.core k.new.declarations k.new.work k.ensures c.in_ok-loaded.loaded.rows c.in_ok-loaded.loaded.declarations c.in_ok-loaded.was (sym c.is_reference.ensures ∙ search rules) in
    subst (λ (x : Refusal). Promised a.s.now z a.row k.result k.new.surface k.new.core k.new.declarations k.new.work k.ensures (Err x) (tables c.clear_all.new.surface c.clear_all.new.core c.clear_all.new.declarations c.clear_all.new.work)) (sym c.nowhere.ensures)
    (w.0, (λ i. tables (y.surface_after i) (y.core_after i) (y.declarations_after i) (y.work_after i)) ∙ w.1)
