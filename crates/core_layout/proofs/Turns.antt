-- One more token of the scan.
use Rattle.std.specs.Prelude.{Ok, Err}
use mathlib.Core.Path.{◌≡◌, refl, ap, ◌∙◌}
use mathlib.Core.List.{List}
use mathlib.Core.Bool.{Bool, false, ◌&&◌, ◌||◌, and-true}
use Prim.Native.Nat.{ℕ, suc, ◌-◌}
use Rattle.token.specs.declared.TokenKind.{TokenKind}
use Rattle.token.specs.declared.Token.{Token}
use Rattle.token.specs.declared.Refusal.{Refusal}
use Rattle.core_token.specs.CoreToken.{next_core_token}
use Rattle.words.specs.Words.{same_bytes}
use Rattle.terms.specs.Label.{part}
use Rattle.surface.specs.Text.{is_open, is_end}
use Rattle.core_layout.specs.inner.Layout.{gap, laid_out}

pub not_end : (k : TokenKind) → ¬ (k ≡ TokenKind.Eof) → is_end k ≡ false
not_end TokenKind.LParen g = refl
not_end TokenKind.RParen g = refl
not_end TokenKind.Atom g = refl
not_end TokenKind.String g = refl
not_end TokenKind.Eof g = absurd (g refl)

-- Whether the gap of a print stands in front of the token u.
abbrev pub in_front : List ℕ → Bool → ℕ → Token → Bool
in_front t tight at u = same_bytes (part t at (u.start - at)) (gap tight u.kind)

module _ (t : List ℕ) (n : ℕ) (tight : Bool) (at : ℕ) where
  pub turn_refused : (r : Refusal) → next_core_token t at ≡ Err r → laid_out t (suc n) tight at ≡ false
  unfolding laid_out
  turn_refused r e = rw (e, laid_out)

  module _ (u : Token) (e : next_core_token t at ≡ Ok u) where
    pub turn : laid_out t (suc n) tight at ≡ (in_front t tight at u && (is_end u.kind || laid_out t n (is_open u.kind) u.end))
    unfolding laid_out
    turn = rw (e, laid_out)

    pub turn_end : u.kind ≡ TokenKind.Eof → laid_out t (suc n) tight at ≡ in_front t tight at u
    turn_end k = turn ∙ ap (λ (x : TokenKind). in_front t tight at u && (is_end x || laid_out t n (is_open u.kind) u.end)) k ∙ and-true (in_front t tight at u)

    pub turn_on : ¬ (u.kind ≡ TokenKind.Eof) → laid_out t (suc n) tight at ≡ (in_front t tight at u && laid_out t n (is_open u.kind) u.end)
    turn_on g = turn ∙ ap (λ (x : Bool). in_front t tight at u && (x || laid_out t n (is_open u.kind) u.end)) (not_end u.kind g)
