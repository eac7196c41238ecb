-- `Input::tested_identifier` meets its contract.
use mathlib.Core.Path.{sym, ap, ◌∙◌}
use Rattle.std.proofs.lemmas.Result.{err_from_is_err_and}
use Rattle.surface.specs.Reader.{refused}
use Rattle.expects.specs.Formats.{edition, tested_name}
use Rattle.expects.proofs.Ahead.{atom_inside}
use Rattle.expects.proofs.Tokens.{name_tested, name_refused}
use Rattle.expects.proofs.Input.tested_identifier.Goals as goal

pub returns-in_err-t : goal.returns-in_err-t
returns-in_err-t c = let p = err_from_is_err_and c.from_residual.result c.from_residual.ensures.1 in rw (p.1, p.2) (name_refused (edition c.args.self.now.format) _ _ _ c.lexed_atom.ensures _ c.in_err-t.was)

pub text-requires : goal.text-requires
text-requires c = atom_inside c.args.self.now.format _ _ _ c.lexed_atom.ensures _ c.in_ok-t.was

pub returns-in-Name : goal.returns-in-Name
returns-in-Name c = λ n. name_tested (edition c.args.self.now.format) _ _ _ c.lexed_atom.ensures _ c.in_ok-t.was _ (ap (tested_name (edition c.args.self.now.format)) (sym c.text.ensures) ∙ sym c.name_test.ensures ∙ c.in-Name.is) n

pub returns-in-Reserved : goal.returns-in-Reserved
returns-in-Reserved c = λ n. name_tested (edition c.args.self.now.format) _ _ _ c.lexed_atom.ensures _ c.in_ok-t.was _ (ap (tested_name (edition c.args.self.now.format)) (sym c.text.ensures) ∙ sym c.name_test.ensures ∙ c.in-Reserved.is) n ∙ ap refused (sym c.at.ensures)

pub returns-in-NotIdentifier : goal.returns-in-NotIdentifier
returns-in-NotIdentifier c = λ n. name_tested (edition c.args.self.now.format) _ _ _ c.lexed_atom.ensures _ c.in_ok-t.was _ (ap (tested_name (edition c.args.self.now.format)) (sym c.text.ensures) ∙ sym c.name_test.ensures ∙ c.in-NotIdentifier.is) n ∙ ap refused (sym c.at-in-NotIdentifier.ensures)
