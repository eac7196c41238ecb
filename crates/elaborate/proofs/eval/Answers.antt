-- `eval` meets its contract.
use Prim.Native.Nat.{ℕ, ◌-◌}
use mathlib.Core.Path.{sym, ap, ◌∙◌, subst}
use mathlib.Core.List.{[]}
use native.Mathlib.Omega.{arith}
use Rattle.terms.specs.Forms.{arity_of}
use Rattle.terms.specs.Label.{Label}
use Rattle.terms.specs.Resolution.{kept, core_of}
use Rattle.terms.specs.Rows.{core_words}
use Rattle.scope.specs.Scope.{local_names, declared_names}
use Rattle.elaborate.specs.Machine.{ReferenceDone, FormScheduled}
use Rattle.elaborate.proofs.Finishing.{row_as}
use Rattle.elaborate.proofs.Steps.{eval_bounds, as_state, out_of_range, reference_stepped, leaf_stepped, too_deep, form_stepped}
use Rattle.elaborate.proofs.eval.Goals as goal

pub returns-then-m-k : goal.returns-then-m-k
returns-then-m-k c =
    let a = c.args in
    out_of_range a.m.source.now a.m.surface.now a.m.declarations.now a.m.rows a.d a.core.now a.work.now a.st a.id a.left c.requires.room (let x = c.if-m-k.true in omega arith)

pub eval_reference-requires : goal.eval_reference-requires
eval_reference-requires c =
    let a = c.args in
    let b = eval_bounds a.work.now a.st a.id a.left c.requires.room in
    record { locals_le_names_room = (omega arith, omega arith, c.requires.rows_inside.few, c.requires.rows_inside.area, c.requires.rows_inside.indexed); kind_value = c.if-kind-eq-REF.true }

pub returns-then-kind-eq-REF : goal.returns-then-kind-eq-REF
returns-then-kind-eq-REF c =
    let a = c.args in
    let k = c.eval_reference in
    let l = c.label_at-label.ensures in
    let locals = local_names a.m.source.now a.work.now a.st.locals in
    let globals = declared_names a.m.source.now a.m.declarations.now 0 a.d in
    reference_stepped a.m.source.now a.m.surface.now a.m.declarations.now a.m.rows a.d a.core.now a.work.now a.st a.id a.left c.requires.room (let x = c.if-m-k.false in omega arith) k.result k.new.core k.new.work (sym (ap (λ (x : Label). x.kind) l) ∙ c.if-kind-eq-REF.true)
    (subst (λ (x : Label). ReferenceDone (core_of a.m.source.now locals globals x) x a.id a.st a.core.now a.work.now k.result k.new.core k.new.work) l k.ensures)

pub finish-requires : goal.finish-requires
finish-requires c =
    let a = c.args in
    let b = eval_bounds a.work.now a.st a.id a.left c.requires.room in
    (omega arith, c.requires.rows_inside.area)

pub returns-then-arity-eq0 : goal.returns-then-arity-eq0
returns-then-arity-eq0 c =
    let a = c.args in
    let k = c.finish in
    let n = c.arity in
    let l = c.label_at-label.ensures in
    let e = ap (λ (x : Label). x.kind) l in
    leaf_stepped a.m.source.now a.m.surface.now a.m.declarations.now a.m.rows a.d a.core.now a.work.now a.st a.id a.left c.requires.room (let x = c.if-m-k.false in omega arith) (λ z. c.if-kind-eq-REF.false (e ∙ z)) k.result k.new.core k.new.work
    (sym (ap arity_of e) ∙ sym n.ensures ∙ c.if-arity-eq0.true) (row_as (c.core_row-row.ensures ∙ ap (λ (x : Label). core_words x kept []) l) k.ensures)

pub returns-then-left-eq0 : goal.returns-then-left-eq0
returns-then-left-eq0 c =
    let a = c.args in
    let n = c.arity in
    let e = ap (λ (x : Label). x.kind) c.label_at-label.ensures in
    too_deep a.m.source.now a.m.surface.now a.m.declarations.now a.m.rows a.d a.core.now a.work.now a.st a.id a.left c.requires.room (let x = c.if-m-k.false in omega arith) (λ z. c.if-kind-eq-REF.false (e ∙ z)) (λ z. c.if-arity-eq0.false (n.ensures ∙ ap arity_of e ∙ z)) c.if-left-eq0.true

pub schedule_form-requires : goal.schedule_form-requires
schedule_form-requires c =
    let a = c.args in
    let b = eval_bounds a.work.now a.st a.id a.left c.requires.room in
    let x = c.if-m-k.false in
    let y = c.if-left-eq0.false in
    let z = c.requires.rows_inside.read in
    (omega arith, omega arith, c.requires.rows_inside.area)

pub returns : goal.returns
returns c =
    let a = c.args in
    let k = c.schedule_form in
    let n = c.arity in
    let e = ap (λ (x : Label). x.kind) c.label_at-label.ensures in
    let f = subst (λ (x : ℕ). FormScheduled a.m.surface.now x a.id (a.left - 1) a.st a.work.now k.result k.new.work) e k.ensures in
    as_state a.m.source.now a.m.surface.now a.m.declarations.now a.m.rows a.d a.core.now a.work.now a.st f.state
    (form_stepped a.m.source.now a.m.surface.now a.m.declarations.now a.m.rows a.d a.core.now a.work.now a.st a.id a.left c.requires.room (let x = c.if-m-k.false in omega arith) (λ z. c.if-kind-eq-REF.false (e ∙ z)) (a.left - 1) k.result.works k.new.work (λ z. c.if-arity-eq0.false (n.ensures ∙ ap arity_of e ∙ z)) (let x = c.if-left-eq0.false in omega arith) f.items)
