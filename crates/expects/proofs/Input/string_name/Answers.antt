-- `Input::string_name` meets its contract.
use mathlib.Core.Path.{sym}
use native.Mathlib.Omega.{arith}
use Rattle.std.proofs.lemmas.Result.{err_from_is_err_and}
use Rattle.expects.proofs.Strings.{string_refused, string_got, string_room, string_not}
use denote.Enum.Bare.{differs_true, differs_false}
use Rattle.token.specs.contracts.TokenKind.{the_type}
use Rattle.expects.proofs.Input.string_name.Goals as goal

pub overflow_add-inside : goal.overflow_add-inside
overflow_add-inside c = let r = string_room _ _ _ c.next_core_token.ensures _ c.in_ok-t.was (differs_false the_type _ _ _ (sym c.if-ne.ensures)) in omega (arith, r.0, r.1, c.well_formed)

pub overflow_sub-inside : goal.overflow_sub-inside
overflow_sub-inside c = let r = string_room _ _ _ c.next_core_token.ensures _ c.in_ok-t.was (differs_false the_type _ _ _ (sym c.if-ne.ensures)) in omega (arith, r.0)

pub returns-in_err-t : goal.returns-in_err-t
returns-in_err-t c = let p = err_from_is_err_and c.from_residual.result c.from_residual.ensures.1 in rw (p.1, p.2) (string_refused _ _ _ c.next_core_token.ensures _ c.in_err-t.was)

pub returns-then-ne : goal.returns-then-ne
returns-then-ne c = string_not _ _ _ c.next_core_token.ensures _ c.in_ok-t.was (differs_true the_type _ _ (sym c.if-ne.ensures)) _ c.at.ensures

pub returns : goal.returns
returns c = string_got _ _ _ c.next_core_token.ensures _ c.in_ok-t.was (differs_false the_type _ _ _ (sym c.if-ne.ensures))
