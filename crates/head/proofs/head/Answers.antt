-- `head::head` meets its contract.
use Rattle.token.specs.declared.Class.{Class}
use mathlib.Core.Path.{sym, ap, ◌∙◌}
use native.Mathlib.Omega.{arith}
use Rattle.std.specs.Prelude.{Err}
use Rattle.surface.specs.Reader.{at_offset}
use Rattle.head.proofs.Answers.{found_names, broken_whole, own_whole}
use Rattle.head.proofs.head.Goals as goal

pub returns-then-valid-s : goal.returns-then-valid-s
returns-then-valid-s c =
    let a = c.args in
    let v = c.valid_up_to-valid.ensures in
    ap Err (c.at.ensures ∙ ap (at_offset Class.Malformed) v)
    ∙ sym (broken_whole a.s.now _ (sym c.name_in_head.ensures ∙ c.in-Err.is) (omega arith) (λ e. c.if-valid-s.true (v ∙ e)))

pub returns-in-Ok : goal.returns-in-Ok
returns-in-Ok c =
    let a = c.args in
    sym (found_names a.s.now _ _ (omega arith) (sym c.name_in_head.ensures ∙ c.in-Ok.is))

pub returns-else-valid-s : goal.returns-else-valid-s
returns-else-valid-s c =
    let a = c.args in
    sym (own_whole a.s.now _ (sym c.name_in_head.ensures ∙ c.in-Err.is) (omega arith) (sym c.valid_up_to-valid.ensures ∙ c.if-valid-s.false))
