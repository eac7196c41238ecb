-- `Input::begin_term` meets its contract.
use Prim.Native.Nat.{ℕ}
use mathlib.Core.Path.{◌≡◌, sym, ◌∙◌}
use native.Mathlib.Omega.{arith}
use Rattle.std.proofs.lemmas.Result.{err_from_is_err_and}
use Rattle.token.specs.declared.TokenKind.{TokenKind}
use Rattle.expects.specs.Formats.{edition}
use Rattle.expects.proofs.Formats.{bounded}
use Rattle.expects.proofs.Ahead.{source, next_inside}
use Rattle.expects.proofs.Terms.{term_refused, term_on, term_not}
use Rattle.expects.proofs.Input.begin_term.Goals.{After-term_token}
use Rattle.expects.proofs.Input.begin_term.Goals as goal

-- The token behind layout is the one before it.
told : (c : After-term_token) → c.term_token.result ≡ (edition c.args.self.now.format).tokens c.args.self.now.bytes.now c.args.at
told c = c.term_token.ensures ∙ c.blank_end-start.ensures ∙ c.behind_space.ensures c.args.self.now.format

pub begin_bare-requires : goal.begin_bare-requires
begin_bare-requires c = next_inside (source c.args.self.now.format _) _ _ (sym (told (goal.at.begin_bare-requires c).After-term_token) ∙ c.in_ok-t.was) (λ q. let z : ◌≡◌ {A = ℕ} 0 1 = cc c.in-Atom.is in omega arith)

pub returns-in_err-t : goal.returns-in_err-t
returns-in_err-t c = let p = err_from_is_err_and c.from_residual.result c.from_residual.ensures.1 in rw (p.1, p.2) (term_refused (edition c.args.self.now.format) (bounded c.args.self.now.format) _ _ _ (told (goal.at.returns-in_err-t c).After-term_token) _ c.in_err-t.was)

pub returns-in-LParen : goal.returns-in-LParen
returns-in-LParen c = term_on (edition c.args.self.now.format) (bounded c.args.self.now.format) _ _ _ (told (goal.at.returns-in-LParen c).After-term_token) _ c.in_ok-t.was TokenKind.LParen c.in-LParen.is (λ q. let z : ◌≡◌ {A = ℕ} 0 1 = cc in omega arith) _ c.begin_form.ensures

pub returns-in-Atom : goal.returns-in-Atom
returns-in-Atom c = term_on (edition c.args.self.now.format) (bounded c.args.self.now.format) _ _ _ (told (goal.at.returns-in-Atom c).After-term_token) _ c.in_ok-t.was TokenKind.Atom c.in-Atom.is (λ q. let z : ◌≡◌ {A = ℕ} 0 1 = cc in omega arith) _ (c.begin_bare.ensures c.args.self.now.format)

pub returns-in_default : goal.returns-in_default
returns-in_default c = term_not (edition c.args.self.now.format) (bounded c.args.self.now.format) _ _ _ (told (goal.at.returns-in_default c).After-term_token) _ c.in_ok-t.was c.in_default.not-LParen c.in_default.not-Atom _ c.at.ensures
