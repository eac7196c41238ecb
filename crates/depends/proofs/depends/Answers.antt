-- `depends::depends` meets its contract.
use Rattle.std.proofs.lemmas.Result.{err_from_is_err_and}
use mathlib.Core.Path.{sym, ◌∙◌}
use Rattle.std.specs.Prelude.{Err}
use Rattle.surface.specs.Tables.{tables, leaves}
use Rattle.loader.specs.Leaving.{lengths_of}
use Rattle.depends.proofs.Asking.{ask_refused, ask_inside, ask_outside}
use borrow.Author.Rules.{rules}
use Rattle.depends.proofs.depends.Goals as goal

pub returns-then-are_places : goal.returns-then-are_places
returns-then-are_places c =
    let a = c.args in
    let k = c.load in
    let f = c.find_dependence.ensures in
    let z = lengths_of a.surface.now a.core.now a.declarations.now a.work.now in
    (λ x. leaves (f.value x) (tables k.new.surface k.new.core k.new.declarations (f.work_after x)))
    ∙ ask_inside a.s.now z a.i a.j k.result k.new.surface k.new.core k.new.declarations k.new.work k.ensures c.in_ok-loaded.loaded.rows c.in_ok-loaded.loaded.declarations c.in_ok-loaded.was (sym c.are_places.ensures ∙ search rules)

pub returns-in_err-loaded : goal.returns-in_err-loaded
returns-in_err-loaded c =
    let a = c.args in
    let k = c.load in
    let p = err_from_is_err_and c.from_residual.result c.from_residual.ensures.1 in
    rw (p.1, p.2) (ask_refused a.s.now (lengths_of a.surface.now a.core.now a.declarations.now a.work.now) a.i a.j k.result k.new.surface k.new.core k.new.declarations k.new.work k.ensures _ c.in_err-loaded.was)

pub returns : goal.returns
returns c =
    let a = c.args in
    let k = c.load in
    let z = c.clear_all.ensures in
    let n = c.nowhere.ensures in
    (λ x. leaves (Err (n x)) (tables (z.surface_after x) (z.core_after x) (z.declarations_after x) (z.work_after x)))
    ∙ ask_outside a.s.now (lengths_of a.surface.now a.core.now a.declarations.now a.work.now) a.i a.j k.result k.new.surface k.new.core k.new.declarations k.new.work k.ensures c.in_ok-loaded.loaded.rows c.in_ok-loaded.loaded.declarations c.in_ok-loaded.was (sym c.are_places.ensures ∙ search rules)
