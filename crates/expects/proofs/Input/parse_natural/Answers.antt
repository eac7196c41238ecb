-- `Input::parse_natural` meets its contract.
use mathlib.Core.Path.{sym, ap, ◌∙◌}
use Rattle.std.proofs.lemmas.Result.{err_from_is_err_and}
use Rattle.expects.proofs.Ahead.{atom_inside}
use Rattle.expects.proofs.Tokens.{natural_got, natural_not, natural_refused}
use Rattle.words.specs.Words.{numeral}
use Rattle.expects.proofs.Input.parse_natural.Goals as goal

pub returns-in_err-t : goal.returns-in_err-t
returns-in_err-t c = let p = err_from_is_err_and c.from_residual.result c.from_residual.ensures.1 in rw (p.1, p.2) (natural_refused _ _ _ _ c.lexed_atom.ensures _ c.in_err-t.was)

pub text-requires : goal.text-requires
text-requires c = atom_inside c.args.self.now.format _ _ _ c.lexed_atom.ensures _ c.in_ok-t.was

pub returns-then-is_numeral : goal.returns-then-is_numeral
returns-then-is_numeral c = natural_got _ _ _ _ c.lexed_atom.ensures _ c.in_ok-t.was (ap numeral (sym c.text.ensures) ∙ sym c.if-is_numeral.ensures)

pub returns : goal.returns
returns c = natural_not _ _ _ _ c.lexed_atom.ensures _ c.in_ok-t.was _ c.at.ensures (ap numeral (sym c.text.ensures) ∙ sym c.if-is_numeral.ensures)
