-- `parser::term_step` meets its contract.
use mathlib.Core.Path.{sym, ◌∙◌, ap}
use native.Mathlib.Omega.{arith}
use Rattle.std.proofs.lemmas.Result.{err_from_is_err_and}
use Rattle.std.specs.Prelude.{Ok}
use Rattle.parser.specs.TermRows.{refused}
use Rattle.term_rows.specs.TermRows.{pushed_row}
use Rattle.parser.proofs.Readers.{setting_sound}
use Rattle.parser.proofs.Steps.{inside_within, pushed_bounded, refused_step, leaf_step, open_step, deep_step}
use Rattle.parser.proofs.term_step.Goals as goal

pub returns-in_err-label : goal.returns-in_err-label
returns-in_err-label c =
    let a = c.args in
    let i = c.requires in
    let p = err_from_is_err_and c.from_residual.result c.from_residual.ensures.1 in
    rw (p.1, p.2) (tt, λ l f g. refused_step a.input.now.bytes.now _ (setting_sound a.input.now.format a.input.now.bytes.now a.limit l) a.table.now a.work.now a.st (inside_within a.input.now.bytes.now a.work.now a.st i.term_inside l f g) _ i.no_value (c.begin_term.ensures i.term_inside.source) _ c.in_err-label.was)

pub returns-then-st-lt-FRAMES : goal.returns-then-st-lt-FRAMES
returns-then-st-lt-FRAMES c =
    let a = c.args in
    let i = c.requires in
    let d = c.max.ensures in
    let k = c.open_frame in (
      (omega (arith, d), omega (arith, d, c.if-st-lt-FRAMES.true, i.term_inside.deepest)),
      λ l f g. open_step a.input.now.bytes.now _ (setting_sound a.input.now.format a.input.now.bytes.now a.limit l) a.table.now a.work.now a.st (inside_within a.input.now.bytes.now a.work.now a.st i.term_inside l f g) _ i.no_value (c.begin_term.ensures i.term_inside.source) _ _ _ _ (c.in_ok-label.was ∙ ap Ok c.in-Frame.is) d k.ensures k.auto.work,
    )

pub returns-in-Leaf : goal.returns-in-Leaf
returns-in-Leaf c =
    let a = c.args in
    let i = c.requires in
    let k = c.push_term in (
      pushed_bounded a.st a.limit _ _ _ _ i.term_inside.deepest k.ensures.value,
      λ l f g. leaf_step a.input.now.bytes.now _ (setting_sound a.input.now.format a.input.now.bytes.now a.limit l) a.table.now a.work.now a.st (inside_within a.input.now.bytes.now a.work.now a.st i.term_inside l f g) _ i.no_value (c.begin_term.ensures i.term_inside.source) _ _ _ _ (c.in_ok-label.was ∙ ap Ok c.in-Leaf.is) k.ensures.value (k.ensures.table_after ∙ ap (pushed_row a.limit a.table.now a.st.rows) c.term_row-row.ensures),
    )

pub returns-else-st-lt-FRAMES : goal.returns-else-st-lt-FRAMES
returns-else-st-lt-FRAMES c =
    let a = c.args in
    let i = c.requires in (
      tt,
      λ l f g. deep_step a.input.now.bytes.now _ (setting_sound a.input.now.format a.input.now.bytes.now a.limit l) a.table.now a.work.now a.st (inside_within a.input.now.bytes.now a.work.now a.st i.term_inside l f g) _ i.no_value (c.begin_term.ensures i.term_inside.source) _ _ (c.in_ok-label.was ∙ ap Ok c.in-Frame.is) (omega (arith, c.if-st-lt-FRAMES.false, i.term_inside.depth, i.term_inside.deepest, f, g)) ∙ ap refused (sym c.nowhere.ensures),
    )
