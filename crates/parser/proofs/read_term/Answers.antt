-- `parser::read_term` meets its contract. The loop's invariant is `Reading`, its measure the weight of the state.
use mathlib.Core.Path.{sym, ◌∙◌}
use native.Mathlib.Omega.{arith}
use borrow.Author.Tests.{not-false}
use Rattle.std.proofs.lemmas.Result.{err_from_is_err_and}
use Rattle.parser.proofs.Loop.{as_inside, ready_inside, start, went, next, finished, stopped}
use Rattle.parser.proofs.read_term.Goals as goal

pub loop-st-init : goal.loop-st-init
loop-st-init c = start c.args.input.now.format c.args.input.now.bytes.now c.args.limit c.args.table.now c.args.work.now c.args.at c.args.rows (ready_inside c.args.input.now.bytes.now c.args.work.now c.args.at c.args.rows (sym c.is_ready.ensures ∙ not-false _ c.if-not-is_ready.false-raw))

pub returns-in_err-st-in-None-clause-by_lengths : goal.returns-in_err-st-in-None-clause-by_lengths
returns-in_err-st-in-None-clause-by_lengths c =
    let p = err_from_is_err_and c.from_residual.result c.from_residual.ensures.1 in
    rw (p.1, p.2) (λ h b. stopped c.args.input.now.format c.args.input.now.bytes.now c.args.limit c.args.table.now c.args.work.now c.args.at c.args.rows c.loop-st.table c.loop-st.work c.loop-st.st c.loop-st.invariant c.term_step.result c.term_step.new.table c.term_step.new.work c.term_step.ensures _ c.in_err-st-in-None.was)

pub returns-in_err-st-in-None-clause-term : goal.returns-in_err-st-in-None-clause-term
returns-in_err-st-in-None-clause-term c = as_inside c.args.input.now.bytes.now c.args.work.now c.args.at c.args.rows _ c.args.limit c.args.table.now _ _ (returns-in_err-st-in-None-clause-by_lengths c)

pub returns-in_err-st-in-Some-clause-by_lengths : goal.returns-in_err-st-in-Some-clause-by_lengths
returns-in_err-st-in-Some-clause-by_lengths c =
    let p = err_from_is_err_and c.from_residual-in_err-st-in-Some.result c.from_residual-in_err-st-in-Some.ensures.1 in
    rw (p.1, p.2) (λ h b. stopped c.args.input.now.format c.args.input.now.bytes.now c.args.limit c.args.table.now c.args.work.now c.args.at c.args.rows c.loop-st.table c.loop-st.work c.loop-st.st c.loop-st.invariant c.value_step.result c.value_step.new.table c.value_step.new.work c.value_step.ensures _ c.in_err-st-in-Some.was)

pub returns-in_err-st-in-Some-clause-term : goal.returns-in_err-st-in-Some-clause-term
returns-in_err-st-in-Some-clause-term c = as_inside c.args.input.now.bytes.now c.args.work.now c.args.at c.args.rows _ c.args.limit c.args.table.now _ _ (returns-in_err-st-in-Some-clause-by_lengths c)

pub returns-in-Some-2-clause-by_lengths : goal.returns-in-Some-2-clause-by_lengths
returns-in-Some-2-clause-by_lengths c = λ h b. finished c.args.input.now.format c.args.input.now.bytes.now c.args.limit c.args.table.now c.args.work.now c.args.at c.args.rows c.loop-st.table c.loop-st.work c.loop-st.st c.loop-st.invariant _ c.in-Some-2.is (omega (arith, c.if-st-gt0.false))

pub returns-in-Some-2-clause-term : goal.returns-in-Some-2-clause-term
returns-in-Some-2-clause-term c = as_inside c.args.input.now.bytes.now c.args.work.now c.args.at c.args.rows _ c.args.limit c.args.table.now _ _ (returns-in-Some-2-clause-by_lengths c)

pub loop-st-smaller-in_ok-st-in-None : goal.loop-st-smaller-in_ok-st-in-None
loop-st-smaller-in_ok-st-in-None c = (went c.args.input.now.format c.args.input.now.bytes.now c.args.limit c.args.table.now c.args.work.now c.args.at c.args.rows c.loop-st.table c.loop-st.work c.loop-st.st c.loop-st.invariant c.term_step.result c.term_step.new.table c.term_step.new.work c.term_step.ensures _ c.in_ok-st-in-None.was).less

pub loop-st-preserved-in_ok-st-in-None : goal.loop-st-preserved-in_ok-st-in-None
loop-st-preserved-in_ok-st-in-None c = next c.args.input.now.format c.args.input.now.bytes.now c.args.limit c.args.table.now c.args.work.now c.args.at c.args.rows c.loop-st.table c.loop-st.work c.loop-st.st c.loop-st.invariant c.term_step.result c.term_step.new.table c.term_step.new.work c.term_step.ensures _ c.in_ok-st-in-None.was c.term_step.auto.table c.term_step.auto.work

pub loop-st-smaller : goal.loop-st-smaller
loop-st-smaller c = (went c.args.input.now.format c.args.input.now.bytes.now c.args.limit c.args.table.now c.args.work.now c.args.at c.args.rows c.loop-st.table c.loop-st.work c.loop-st.st c.loop-st.invariant c.value_step.result c.value_step.new.table c.value_step.new.work c.value_step.ensures _ c.in_ok-st-in-Some.was).less

pub loop-st-preserved : goal.loop-st-preserved
loop-st-preserved c = next c.args.input.now.format c.args.input.now.bytes.now c.args.limit c.args.table.now c.args.work.now c.args.at c.args.rows c.loop-st.table c.loop-st.work c.loop-st.st c.loop-st.invariant c.value_step.result c.value_step.new.table c.value_step.new.work c.value_step.ensures _ c.in_ok-st-in-Some.was c.value_step.auto.table c.value_step.auto.work
