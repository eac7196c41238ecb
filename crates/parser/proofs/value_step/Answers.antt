-- `parser::value_step` meets its contract.
use mathlib.Core.Path.{◌≡◌, ◌∙◌, ap}
use Prim.Native.Nat.{suc, ◌-◌}
use native.Mathlib.Omega.{arith}
use Rattle.std.proofs.lemmas.Result.{err_from_is_err_and}
use Rattle.terms.specs.Forms.{arity_of}
use Rattle.term_rows.specs.TermRows.{pushed_row}
use Rattle.expects.specs.Formats.{edition}
use Rattle.parser.specs.Machine.{setting}
use Rattle.parser.proofs.Readers.{setting_sound}
use Rattle.parser.proofs.Steps.{inside_within, pushed_bounded, takes, more_step, unclosed_step, close_step}
use Rattle.parser.proofs.value_step.Goals as goal

pub push_arg-requires-clause-depth_bound : goal.push_arg-requires-clause-depth_bound
push_arg-requires-clause-depth_bound c =
    let a = c.args in
    let i = c.requires in
    takes a.input.now.bytes.now (setting (edition a.input.now.format) a.input.now.bytes.now a.limit 512) (setting_sound a.input.now.format a.input.now.bytes.now a.limit 512) a.table.now a.work.now a.st i.term_inside (a.st.depth - 1) a.value i.complete (omega (arith, i.depth_nonzero))

pub returns-then-len-arity : goal.returns-then-len-arity
returns-then-len-arity c =
    let a = c.args in
    let i = c.requires in
    let k = c.push_arg in
    let d = a.st.depth - 1 in
    let deep : a.st.depth ≡ suc d = omega (arith, i.depth_nonzero) in
    let kinds = c.arity.ensures ∙ ap arity_of c.frame_kind.ensures in (
      (omega arith, i.term_inside.deepest),
      λ l f g. more_step a.input.now.bytes.now _ (setting_sound a.input.now.format a.input.now.bytes.now a.limit l) a.table.now a.work.now a.st (inside_within a.input.now.bytes.now a.work.now a.st i.term_inside l f g) d a.value i.complete deep _ k.ensures (omega (arith, c.frame_len-len.ensures, kinds, c.if-len-arity.true)) k.auto.work,
    )

pub returns-in_err-close : goal.returns-in_err-close
returns-in_err-close c =
    let a = c.args in
    let i = c.requires in
    let k = c.push_arg in
    let d = a.st.depth - 1 in
    let deep : a.st.depth ≡ suc d = omega (arith, i.depth_nonzero) in
    let kinds = c.arity.ensures ∙ ap arity_of c.frame_kind.ensures in
    let p = err_from_is_err_and c.from_residual.result c.from_residual.ensures.1 in
    rw (p.1, p.2) (
      tt,
      λ l f g. unclosed_step a.input.now.bytes.now _ (setting_sound a.input.now.format a.input.now.bytes.now a.limit l) a.table.now a.work.now a.st (inside_within a.input.now.bytes.now a.work.now a.st i.term_inside l f g) d a.value i.complete deep _ k.ensures (omega (arith, c.frame_len-len.ensures, kinds, c.if-len-arity.false)) _ c.expect_rparen.ensures _ c.in_err-close.was,
    )

pub returns : goal.returns
returns c =
    let a = c.args in
    let i = c.requires in
    let k = c.push_arg in
    let d = a.st.depth - 1 in
    let deep : a.st.depth ≡ suc d = omega (arith, i.depth_nonzero) in
    let kinds = c.arity.ensures ∙ ap arity_of c.frame_kind.ensures in
    let p = c.push_term in (
      pushed_bounded a.st a.limit _ _ _ _ i.term_inside.deepest p.ensures.value,
      λ l f g. close_step a.input.now.bytes.now _ (setting_sound a.input.now.format a.input.now.bytes.now a.limit l) a.table.now a.work.now a.st (inside_within a.input.now.bytes.now a.work.now a.st i.term_inside l f g) d a.value i.complete deep _ k.ensures (omega (arith, c.frame_len-len.ensures, kinds, c.if-len-arity.false)) _ c.expect_rparen.ensures _ _ _ _
          c.in_ok-close.was c.load_frame-f.ensures k.auto.work p.ensures.value
          (p.ensures.table_after ∙ ap (pushed_row a.limit a.table.now a.st.rows) c.term_row-row.ensures),
    )
