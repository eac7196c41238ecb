-- `core_token::next_core_token` meets its contract: the first token behind layout is the first token.
use Rattle.std.proofs.Common.{◌≡◌, refl, sym, ap, ◌∙◌, arith}
use borrow.Author.Rules.{rules}
use Rattle.token.specs.Token.{token}
use Rattle.token.specs.declared.TokenKind.{TokenKind}
use Rattle.core_token.proofs.Runs.{next_blank, next_open, next_close, next_quote, next_word, next_refused, next_end}
use Rattle.core_token.proofs.next_core_token.Goals as goal

pub loop-pos-init : goal.loop-pos-init
loop-pos-init c = (omega arith, refl)

pub loop-pos-preserved : goal.loop-pos-preserved
loop-pos-preserved c = (omega arith, c.loop-pos.invariant.1 ∙ next_blank _ _ (search rules) (sym c.core_class.ensures ∙ c.in-Layout.is))

pub returns-in-LParen : goal.returns-in-LParen
returns-in-LParen c = c.token_of.ensures ∙ sym (c.loop-pos.invariant.1 ∙ next_open _ _ (search rules) (sym c.core_class.ensures ∙ c.in-LParen.is))

pub returns-in-RParen : goal.returns-in-RParen
returns-in-RParen c = c.token_of-in-RParen.ensures ∙ sym (c.loop-pos.invariant.1 ∙ next_close _ _ (search rules) (sym c.core_class.ensures ∙ c.in-RParen.is))

pub returns-in-Quote : goal.returns-in-Quote
returns-in-Quote c = c.lex_string.ensures ∙ sym (c.loop-pos.invariant.1 ∙ next_quote _ _ (search rules) (sym c.core_class.ensures ∙ c.in-Quote.is))

pub returns-in-Atom : goal.returns-in-Atom
returns-in-Atom c = c.lex_atom.ensures ∙ sym (c.loop-pos.invariant.1 ∙ next_word _ _ (search rules) (sym c.core_class.ensures ∙ c.in-Atom.is))

pub returns-in-Refused : goal.returns-in-Refused
returns-in-Refused c = c.malformed_at.ensures ∙ sym (c.loop-pos.invariant.1 ∙ next_refused _ _ (search rules) (sym c.core_class.ensures ∙ c.in-Refused.is))

pub returns : goal.returns
returns c =
    let q : c.loop-pos.pos ≡ c.max-end.result = omega (arith, c.max-end.ensures) in
    c.token_of-2.ensures ∙ ap (λ k. token TokenKind.Eof k k) (sym q) ∙ sym (c.loop-pos.invariant.1 ∙ next_end _ _ (search rules))
