-- `core_token::lex_atom` meets its contract: what is left of the atom is what the whole is.
use Rattle.std.proofs.Common.{◌≡◌, refl, sym, ap, ◌∙◌, arith}
use borrow.Author.Rules.{rules}
use Rattle.token.specs.Token.{token}
use Rattle.token.specs.declared.TokenKind.{TokenKind}
use Rattle.core_token.proofs.Runs.{atom_word, atom_refused, atom_stop, atom_end}
use Rattle.core_token.proofs.lex_atom.Goals as goal

pub loop-pos-init : goal.loop-pos-init
loop-pos-init c = (omega arith, refl)

pub loop-pos-preserved : goal.loop-pos-preserved
loop-pos-preserved c = (omega arith, c.loop-pos.invariant.1 ∙ atom_word _ _ (search rules) _ (sym c.core_class.ensures ∙ c.in-Atom.is))

pub returns-in-Refused : goal.returns-in-Refused
returns-in-Refused c = c.malformed_at.ensures ∙ sym (c.loop-pos.invariant.1 ∙ atom_refused _ _ (search rules) _ (sym c.core_class.ensures ∙ c.in-Refused.is))

pub returns-in_default : goal.returns-in_default
returns-in_default c =
    c.token_of.ensures ∙ sym (c.loop-pos.invariant.1 ∙ atom_stop _ _ (search rules) _ c.core_class.result (sym c.core_class.ensures) c.in_default.not-Atom c.in_default.not-Refused)

pub returns : goal.returns
returns c =
    let q : c.loop-pos.pos ≡ c.max.result = omega (arith, c.max.ensures) in
    c.token_of-2.ensures ∙ ap (λ k. token TokenKind.Atom c.args.start k) (sym q) ∙ sym (c.loop-pos.invariant.1 ∙ atom_end _ _ (search rules) _)
