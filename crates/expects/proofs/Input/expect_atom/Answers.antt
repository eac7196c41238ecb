-- `Input::expect_atom` meets its contract.
use mathlib.Core.Path.{sym, ap, ◌∙◌}
use Rattle.std.proofs.lemmas.Result.{err_from_is_err_and}
use Rattle.expects.proofs.Ahead.{atom_inside}
use Rattle.expects.proofs.Tokens.{word_got, word_not, word_refused}
use Rattle.words.specs.Words.{same_bytes}
use Rattle.expects.proofs.Input.expect_atom.Goals as goal

pub returns-in_err-t : goal.returns-in_err-t
returns-in_err-t c = let p = err_from_is_err_and c.from_residual.result c.from_residual.ensures.1 in rw (p.1, p.2) (word_refused _ _ _ _ c.next_atom.ensures _ c.in_err-t.was _)

pub text-requires : goal.text-requires
text-requires c = atom_inside c.args.self.now.format _ _ _ c.next_atom.ensures _ c.in_ok-t.was

pub returns-then-same_bytes : goal.returns-then-same_bytes
returns-then-same_bytes c = word_got _ _ _ _ c.next_atom.ensures _ c.in_ok-t.was _ (ap (λ w. same_bytes w c.args.expected.now) (sym c.text.ensures) ∙ sym c.if-same_bytes.ensures)

pub returns : goal.returns
returns c = word_not _ _ _ _ c.next_atom.ensures _ c.in_ok-t.was _ c.at.ensures _ (ap (λ w. same_bytes w c.args.expected.now) (sym c.text.ensures) ∙ sym c.if-same_bytes.ensures)
