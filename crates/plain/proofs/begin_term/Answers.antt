-- `plain::begin_term` meets its contract.
use Prim.Native.Nat.{ℕ}
use mathlib.Core.Path.{◌≡◌, sym, ◌∙◌}
use native.Mathlib.Omega.{arith}
use Rattle.std.proofs.lemmas.Result.{err_from_is_err_and}
use Rattle.token.specs.declared.TokenKind.{TokenKind}
use Rattle.expects.specs.Formats.{edition}
use Rattle.expects.proofs.Formats.{bounded}
use Rattle.expects.proofs.Ahead.{source, next_inside}
use Rattle.expects.proofs.Terms.{term_refused, term_on, term_not}
use Rattle.plain.proofs.begin_term.Goals as goal

pub begin_bare-requires : goal.begin_bare-requires
begin_bare-requires c =
    next_inside (source c.args.input.now.format _) _ _ (sym c.lex.ensures ∙ c.in_ok-t.was)
    (λ q. let z : ◌≡◌ {A = ℕ} 0 1 = cc c.in-Atom.is in omega arith)

pub returns-in_err-t : goal.returns-in_err-t
returns-in_err-t c =
    let p = err_from_is_err_and c.from_residual.result c.from_residual.ensures.1 in
    rw (p.1, p.2) (term_refused (edition c.args.input.now.format) (bounded c.args.input.now.format) _ _ _ c.lex.ensures _ c.in_err-t.was)

pub returns-in-LParen : goal.returns-in-LParen
returns-in-LParen c =
    term_on (edition c.args.input.now.format) (bounded c.args.input.now.format) _ _ _ c.lex.ensures _ c.in_ok-t.was TokenKind.LParen c.in-LParen.is
    (λ q. let z : ◌≡◌ {A = ℕ} 0 1 = cc in omega arith) _ c.begin_form.ensures

pub returns-in-Atom : goal.returns-in-Atom
returns-in-Atom c =
    term_on (edition c.args.input.now.format) (bounded c.args.input.now.format) _ _ _ c.lex.ensures _ c.in_ok-t.was TokenKind.Atom c.in-Atom.is
    (λ q. let z : ◌≡◌ {A = ℕ} 0 1 = cc in omega arith) _ (c.begin_bare.ensures c.args.input.now.format)

pub returns-in_default : goal.returns-in_default
returns-in_default c =
    term_not (edition c.args.input.now.format) (bounded c.args.input.now.format) _ _ _ c.lex.ensures _ c.in_ok-t.was c.in_default.not-LParen c.in_default.not-Atom _ c.at.ensures
