-- `Input::begin_form` meets its contract.
use Rattle.std.proofs.lemmas.Result.{err_from_is_err_and}
use Rattle.expects.proofs.Ahead.{atom_inside}
use Rattle.expects.proofs.Terms.{form_refused, form_got}
use Rattle.expects.proofs.Input.begin_form.Goals as goal

pub begin_tagged-requires : goal.begin_tagged-requires
begin_tagged-requires c = atom_inside c.args.self.now.format _ _ _ c.next_atom.ensures _ c.in_ok-t.was

pub returns-in_err-t : goal.returns-in_err-t
returns-in_err-t c = let p = err_from_is_err_and c.from_residual.result c.from_residual.ensures.1 in rw (p.1, p.2) (form_refused _ _ _ _ c.next_atom.ensures _ c.in_err-t.was)

pub returns : goal.returns
returns c = form_got _ _ _ _ c.next_atom.ensures _ c.in_ok-t.was _ c.begin_tagged.ensures
