-- The name of a declaration of a core text, by the token that stands next.
use Rattle.token.specs.declared.Class.{Class}
use Rattle.token.specs.Token.{Lexed}
use Rattle.std.specs.Prelude.{Ok, Err}
use Prim.Native.Nat.{ℕ, ◌+◌, ◌-◌, ◌≤◌, ◌<◌}
use mathlib.Core.Path.{◌≡◌, refl, sym, ◌∙◌, ap, subst}
use mathlib.Core.List.{List}
use native.Mathlib.Omega.{arith}
use lib.ListN.{length}
use Rattle.token.specs.declared.TokenKind.{TokenKind}
use Rattle.token.specs.declared.Token.{Token}
use Rattle.token.specs.declared.Refusal.{Refusal}
use Rattle.token.proofs.Bounds.{Within}
use Rattle.core_token.specs.CoreToken.{next_core_token}
use Rattle.core_token.proofs.Bounds.{bounds}
use Rattle.core_token.proofs.Ends.{string_here}
use Rattle.surface.specs.Reader.{refused, ◌>>◌, pure, require, at_token}
use Rattle.surface.specs.Reading.{token}
use Rattle.surface.specs.Text.{is_string}
use Rattle.core_text.specs.TextReading.{string}
use Rattle.expects.specs.declared.Format.{Format}
use Rattle.expects.specs.Expects.{position_at, Names}
use Rattle.expects.proofs.Ahead.{has_bytes}

abbrev inside : Token → Token
inside t = record { kind = TokenKind.String; start = t.start + 1; end = t.end - 1 }

module _ (s : List ℕ) (at : ℕ) (x : Lexed) (h : x ≡ next_core_token s at) where
  pub string_refused : (r : Refusal) → x ≡ Err r → Names Format.Core01 s at (Err r)
  unfolding string token
  string_refused r e = λ n. rw (sym h ∙ e)

  module _ (t : Token) (e : x ≡ Ok t) where
    pub string_got : t.kind ≡ TokenKind.String → Names Format.Core01 s at (Ok ((inside t), t.end))
    unfolding string token
    string_got k = λ n. rw (sym h ∙ e, k)

    -- Its two quotes and a byte between them.
    pub string_room : t.kind ≡ TokenKind.String → (t.start + 2 < t.end) × (t.end ≤ length s)
    string_room k =
        let e₁ = sym h ∙ e in
        let w = has_bytes t.kind (λ i. let z : ◌≡◌ {A = ℕ} 0 1 = cc in omega arith) (subst (Within at (length s)) e₁ (bounds s at)) in
        ((string_here s at t e₁ k).some, w.high)

    pub string_not : (t.kind ≡ TokenKind.String → ⊥) → (r : Refusal) → r ≡ at_token Class.Malformed t → Names Format.Core01 s at (Err r)
    unfolding string token
    string_not k r i = λ n. rw (sym h ∙ e) (by t.kind k n ∙ ap refused (sym i))
      where
        by : (j : TokenKind) → (j ≡ TokenKind.String → ⊥) → (n : ℕ)
            → (require (is_string j) (at_token Class.Malformed t) >> pure (inside t)) (position_at t.end n) ≡ refused (at_token Class.Malformed t)
        by TokenKind.LParen k n = refl
        by TokenKind.RParen k n = refl
        by TokenKind.Atom k n = refl
        by TokenKind.String k n = absurd (k refl)
        by TokenKind.Eof k n = refl
