-- Strings and the end: what a step that succeeds has met, and what a step gives on the token that it wants.
use Rattle.token.specs.Token.{Lexed}
use Rattle.std.specs.Prelude.{Ok}
use mathlib.Core.Path.{◌≡◌, refl, sym, ap, subst}
use mathlib.Core.Bool.{true, false≢true}
use Prim.Native.Nat.{ℕ}
use native.Mathlib.Omega.{arith}
use Rattle.token.specs.declared.TokenKind.{TokenKind}
use Rattle.token.specs.declared.Token.{Token}
use Rattle.surface.specs.Text.{is_string, is_end}
use Rattle.surface.specs.Reader.{Position, done, Reader, after}
use Rattle.surface.specs.Reading.{token}
use Rattle.surface.proofs.Steps.{Took, after_elim, require_elim, done_as, token_done}
use Rattle.surface.proofs.Takes.{after_go, require_go, to, token_takes}
use Rattle.core_text.specs.TextReading.{string, end_token}
use Rattle.core_text.specs.TextGrammar.{Quotes, between}

pub string_is : (k : TokenKind) → is_string k ≡ true → k ≡ TokenKind.String
string_is TokenKind.LParen e = absurd (false≢true e)
string_is TokenKind.RParen e = absurd (false≢true e)
string_is TokenKind.Atom e = absurd (false≢true e)
string_is TokenKind.String e = refl
string_is TokenKind.Eof e = absurd (false≢true e)

end_is : (k : TokenKind) → is_end k ≡ true → k ≡ TokenKind.Eof
end_is TokenKind.LParen e = absurd (false≢true e)
end_is TokenKind.RParen e = absurd (false≢true e)
end_is TokenKind.Atom e = absurd (false≢true e)
end_is TokenKind.String e = absurd (false≢true e)
end_is TokenKind.Eof e = refl

pub string_goes : (k : TokenKind) → k ≡ TokenKind.String → ¬ (k ≡ TokenKind.Eof)
string_goes k e f = let z : ◌≡◌ {A = ℕ} 0 1 = cc in omega arith

module _ (next : ℕ → Lexed) where
  -- The string of which x is kept.
  record StringTook (p : Position) (x : Token) (q : Position) : Type 0 where
    whole : Token
    takes : Took next p whole q
    quotes : Quotes whole
    kept : between whole ≡ x

  string_done : (p q : Position) (x : Token) → string next p ≡ done x q → StringTook p x q
  unfolding string
  string_done p q x e =
      after_elim (token next p) _ x q e (λ u v f e₁.
      require_elim (is_string u.kind) _ v _ x q e₁ (λ b e₂.
      done_as (StringTook p) e₂ (record { whole = u; takes = token_done next p v u f; quotes = string_is u.kind b; kept = refl })))

  -- The string x that a step takes, and what the steps behind it are given of it.
  pub string_elim : {B P : Type 0} (p : Position) (k : Token → Reader B) (b : B) (q : Position) → after (string next p) k ≡ done b q
      → ((x : Token) (v : Position) → Took next p x v → Quotes x → k (between x) v ≡ done b q → P) → P
  string_elim p k b q e h =
      after_elim (string next p) k b q e (λ y v f e₁.
      let w = string_done p v y f in
      h w.whole v w.takes w.quotes (subst (λ (z : Token). k z v ≡ done b q) (sym w.kept) e₁))

  pub string_takes : (p : Position) (x : Token) → next p.offset ≡ Ok x → Quotes x → string next p ≡ done (between x) (to p x)
  unfolding string
  string_takes p x e k = after_go _ _ x (to p x) _ (token_takes next p x e) (require_go (is_string x.kind) _ (to p x) _ _ (ap is_string k) refl)

  pub end_done : (p q : Position) (t : Token) → end_token next p ≡ done t q → Took next p t q × (t.kind ≡ TokenKind.Eof)
  unfolding end_token
  end_done p q t e =
      after_elim (token next p) _ t q e (λ u v f e₁.
      require_elim (is_end u.kind) _ v _ t q e₁ (λ b e₂.
      done_as (λ x y. Took next p x y × (x.kind ≡ TokenKind.Eof)) e₂ (token_done next p v u f, end_is u.kind b)))

  pub end_takes : (p : Position) (t : Token) → next p.offset ≡ Ok t → t.kind ≡ TokenKind.Eof → end_token next p ≡ done t (to p t)
  unfolding end_token
  end_takes p t e k = after_go _ _ t (to p t) _ (token_takes next p t e) (require_go (is_end t.kind) _ (to p t) _ _ (ap is_end k) refl)
