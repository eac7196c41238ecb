-- `head::name_in_head` meets its contract.
use native.Mathlib.Omega.{arith}
use Rattle.std.proofs.lemmas.Result.{err_from_is_err_and}
use Rattle.head.proofs.Answers.{read_refused, read_within, read_span, read_named, read_broken}
use Rattle.head.proofs.name_in_head.Goals as goal

pub valid_in-valid-requires : goal.valid_in-valid-requires
valid_in-valid-requires c = omega (arith, read_within c.args.s.now c.read_head.result c.read_head.ensures _ _ _ c.in_ok-found.was)

pub returns-in_err-found : goal.returns-in_err-found
returns-in_err-found c =
    let p = err_from_is_err_and c.from_residual.result c.from_residual.ensures.1 in
    rw (p.1, p.2) (read_refused c.args.s.now c.read_head.result c.read_head.ensures _ c.in_err-found.was)

pub overflow_sub-result : goal.overflow_sub-result
overflow_sub-result c = omega (arith, read_span c.args.s.now c.read_head.result c.read_head.ensures _ _ _ c.in_ok-found.was)

pub returns-then-valid-found : goal.returns-then-valid-found
returns-then-valid-found c =
    read_broken c.args.s.now c.read_head.result c.read_head.ensures _ _ _ c.in_ok-found.was _ c.valid_in-valid.ensures _ c.at.ensures c.if-valid-found.true

pub returns : goal.returns
returns c =
    read_named c.args.s.now c.read_head.result c.read_head.ensures _ _ _ c.in_ok-found.was _ c.valid_in-valid.ensures c.if-valid-found.false
