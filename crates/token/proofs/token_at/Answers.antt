-- `token::token_at` meets its contract.
use mathlib.Core.Path.{refl, sym, ap, ◌∙◌}
use Rattle.std.specs.Prelude.{Err, ◌+◌}
use native.Mathlib.Omega.{arith}
use borrow.Author.Rules.{rules}
use Rattle.token.specs.Token.{token}
use Rattle.token.specs.declared.TokenKind.{TokenKind}
use Rattle.token.proofs.ClassNumbers.{open_class, close_class, atom_class, open_number, close_number, atom_number}
use Rattle.token.proofs.Runs.{here_open, here_close, here_word, here_none}
use Rattle.token.proofs.token_at.Goals as goal
use Rattle.token.proofs.token_at.Goals.{in-2, in-3}

pub returns-in-5-to-255 : goal.returns-in-5-to-255
returns-in-5-to-255 c = c.lex_atom.ensures ∙ sym (here_word _ _ (search rules) (atom_class _ (omega (arith, c.of.ensures))))

pub returns-in_default : goal.returns-in_default
returns-in_default c =
    let e = c.of.ensures in
    ap Err c.at.ensures ∙ sym (here_none _ _ (search rules) _ refl (λ q. omega (arith, e, open_number _ q)) (λ q. omega (arith, e, close_number _ q)) (λ q. omega (arith, e, atom_number _ q)))

pub returns : goal.returns
returns c =
    let e = sym c.of.ensures in
    let by = λ (k : TokenKind). token k c.args.start (c.args.start + 1) in
    elim c.match-of.branch [
      | in-2 w ↦ ap by w.kind-is ∙ sym (here_open _ _ (search rules) (open_class _ (e ∙ w.in-2.is)))
      | in-3 w ↦ ap by w.kind-is ∙ sym (here_close _ _ (search rules) (close_class _ (e ∙ w.in-3.is)))
    ]
