-- The cycle of calls of `plain::read_term` and `plain::read_arguments`: each call reads on, from a place that is further or has fewer arguments.
use mathlib.Core.Path.{◌∙◌, ap}
use native.Mathlib.Omega.{arith}
use Rattle.std.specs.Prelude.{Ok}
use Rattle.std.proofs.lemmas.Result.{err_from_is_err_and}
use Rattle.plain.proofs.Answers.{begin_refused, leaf_read, too_deep, opened, opened_past, has_argument, frame_read, all_read, one_refused, one_read}
use Rattle.term_rows.specs.TermRows.{pushed_row}
use Rattle.rows.proofs.Arities.{arity_at_most_six}
use Rattle.plain.proofs.+read_arguments_read_term.Goals as goal

pub read_arguments-returns-in_err-argument : goal.read_arguments-returns-in_err-argument
read_arguments-returns-in_err-argument t c =
    let a = c.args in
    let l = c.loop-len in
    let p = err_from_is_err_and c.from_residual.result c.from_residual.ensures.1 in
    rw (p.1, p.2) (one_refused a.input.now.format a.input.now.bytes.now a.limit a.table.now a.at a.rows a.left _ a.label l.table l.args l.len l.from l.stored l.frames l.invariant c.loop-len-test.true _ _ c.read_term.ensures _ c.in_err-argument.was c.arity-arity.ensures c.requires.bound)

pub read_arguments-bounds-args-len : goal.read_arguments-bounds-args-len
read_arguments-bounds-args-len t c = omega (arith, c.loop-len-test.true, c.arity-arity.ensures, arity_at_most_six c.args.label.kind)

pub read_arguments-loop-len-preserved : goal.read_arguments-loop-len-preserved
read_arguments-loop-len-preserved t c =
    let a = c.args in
    let l = c.loop-len in
    let k = c.read_term in
    one_read a.input.now.format a.input.now.bytes.now a.limit a.table.now a.at a.rows a.left _ a.label l.table l.args l.len l.from l.stored l.frames l.invariant c.loop-len-test.true _ _ k.ensures _ _ _ _ c.in_ok-argument.was _ c.max-frames.ensures (omega (arith, c.arity-arity.ensures, arity_at_most_six a.label.kind)) k.auto.table

pub read_arguments-returns : goal.read_arguments-returns
read_arguments-returns t c =
    let a = c.args in
    let l = c.loop-len in
    all_read a.input.now.format a.input.now.bytes.now a.limit a.table.now a.at a.rows a.left _ a.label l.table l.args l.len l.from l.stored l.frames l.invariant _ _ c.loop-len-test.false c.arity-arity.ensures c.requires.bound c.close_form.ensures

pub read_term-returns-in_err-label : goal.read_term-returns-in_err-label
read_term-returns-in_err-label t c =
    let a = c.args in
    let p = err_from_is_err_and c.from_residual.result c.from_residual.ensures.1 in
    rw (p.1, p.2) (begin_refused a.input.now.format a.input.now.bytes.now a.limit a.table.now a.at a.rows a.left c.requires.term_bounds _ c.begin_term.ensures _ _ c.in_err-label.was)

pub read_term-returns-then-left-eq0 : goal.read_term-returns-then-left-eq0
read_term-returns-then-left-eq0 t c =
    let a = c.args in
    too_deep a.input.now.format a.input.now.bytes.now a.limit a.table.now a.at a.rows a.left c.requires.term_bounds _ c.begin_term.ensures _ _ (c.in_ok-label.was ∙ ap Ok c.in-Frame.is) _ _ c.if-left-eq0.true c.nowhere.ensures

pub read_term-read_arguments-requires : goal.read_term-read_arguments-requires
read_term-read_arguments-requires t c =
    let a = c.args in
    let b = opened a.input.now.format a.input.now.bytes.now a.limit a.table.now a.at a.rows a.left c.requires.term_bounds _ c.begin_term.ensures _ _ (c.in_ok-label.was ∙ ap Ok c.in-Frame.is) in
    (omega (arith, c.decreases, opened_past a.input.now.format a.input.now.bytes.now a.limit a.table.now a.at a.rows a.left c.requires.term_bounds _ c.begin_term.ensures _ _ (c.in_ok-label.was ∙ ap Ok c.in-Frame.is), b.inside), (b, (omega (arith, c.requires.left_bound, c.if-left-eq0.false), has_argument a.input.now.format a.input.now.bytes.now a.limit a.table.now a.at a.rows a.left c.requires.term_bounds _ c.begin_term.ensures _ _ (c.in_ok-label.was ∙ ap Ok c.in-Frame.is))))

pub read_term-returns-in-Leaf : goal.read_term-returns-in-Leaf
read_term-returns-in-Leaf t c =
    let a = c.args in
    let k = c.store_term in
    leaf_read a.input.now.format a.input.now.bytes.now a.limit a.table.now a.at a.rows a.left c.requires.term_bounds _ c.begin_term.ensures _ _ _ _ (c.in_ok-label.was ∙ ap Ok c.in-Leaf.is) k.ensures.value (k.ensures.table_after ∙ ap (pushed_row a.limit a.table.now a.rows) c.term_row-row.ensures)

pub read_term-returns-else-left-eq0 : goal.read_term-returns-else-left-eq0
read_term-returns-else-left-eq0 t c =
    let a = c.args in
    frame_read a.input.now.format a.input.now.bytes.now a.limit a.table.now a.at a.rows a.left c.requires.term_bounds _ c.begin_term.ensures _ _ (c.in_ok-label.was ∙ ap Ok c.in-Frame.is) _ _ c.if-left-eq0.false c.read_arguments.ensures
