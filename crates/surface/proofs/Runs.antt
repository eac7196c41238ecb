-- Tokens one behind another, up to an offset, whatever stands behind it.
use Rattle.token.specs.Token.{Lexed}
use Rattle.std.specs.Prelude.{Ok}
use mathlib.Core.Path.{◌≡◌, refl, subst}
use mathlib.Core.List.{List, [], ◌∷◌, ◌++◌}
use Prim.Native.Nat.{ℕ}
use Rattle.token.specs.declared.TokenKind.{TokenKind}
use Rattle.token.specs.declared.Token.{Token}
use Rattle.surface.specs.Grammar.{Tokens, the_next}
use Rattle.surface.specs.Reader.{Position}
use Rattle.surface.proofs.Steps.{Took}

-- The tokens from an offset on begin with ts, the last of which ends at e.
pub data Run (next : ℕ → Lexed) : ℕ → List Token → ℕ → Type 0 where
  run_end : {at : ℕ} → Run next at [] at
  run_more : {at e : ℕ} {t : Token} {ts : List Token} → next at ≡ Ok t → ¬ (t.kind ≡ TokenKind.Eof) → Run next t.end ts e → Run next at (t ∷ ts) e

module _ {next : ℕ → Lexed} where
  pub first_of : {at e : ℕ} {t : Token} {ts : List Token} → Run next at (t ∷ ts) e → next at ≡ Ok t
  first_of (run_more e g r) = e

  pub others_of : {at e : ℕ} {t : Token} {ts : List Token} → Run next at (t ∷ ts) e → Run next t.end ts e
  others_of (run_more e g r) = r

  pub end_of : {at e : ℕ} → Run next at [] e → at ≡ e
  end_of run_end = refl

  -- A token that was taken stands before those that follow.
  pub run_before : (p q : Position) (t : Token) {ts : List Token} {e : ℕ} → Took next p t q → ¬ (t.kind ≡ TokenKind.Eof) → Run next q.offset ts e → Run next p.offset (t ∷ ts) e
  run_before p q t {ts} {e} w g h = run_more w.takes g (subst (λ (x : Position). Run next x.offset ts e) w.position h)

  -- What follows makes them tokens to the end.
  pub run_tokens : {at e : ℕ} {ts us : List Token} → Run next at ts e → Tokens next e us → Tokens next at (ts ++ us)
  run_tokens run_end k = k
  run_tokens (run_more e g r) k = the_next e g (run_tokens r k)
