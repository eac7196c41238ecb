-- At the start of a parenthesis stands its byte; it has no other.
use Rattle.std.specs.Prelude.{Ok, Err}
use Prim.Native.Nat.{ℕ, ◌+◌}
use mathlib.Core.Path.{◌≡◌, refl, ◌∙◌, ap, subst}
use mathlib.Core.List.{List, [], ◌∷◌}
use mathlib.Core.Bool.{false}
use lib.ListN.{take, drop}
use Rattle.token.specs.Token.{byte_class, layout_end, atom_from, token_here, next_token, Lexed}
use Rattle.token.specs.declared.TokenKind.{TokenKind}
use Rattle.token.specs.declared.Token.{Token}
use Rattle.token.proofs.ClassNumbers.{open_byte, close_byte}
use Rattle.token.proofs.Outcomes.{atom_by, here_by}

module _ (s : List ℕ) where
  -- The token from a to e has one byte, which is b.
  abbrev OneByte : ℕ → ℕ → ℕ → Type 0
  OneByte b a e = (take 1 (drop a s) ≡ b ∷ []) × (e ≡ a + 1)

  -- What is known of a token's bytes by its kind.
  abbrev ByteOf : TokenKind → ℕ → ℕ → Type 0
  ByteOf TokenKind.LParen a e = OneByte 40 a e
  ByteOf TokenKind.RParen a e = OneByte 41 a e
  ByteOf TokenKind.Atom a e = Unit {0}
  ByteOf TokenKind.String a e = Unit {0}
  ByteOf TokenKind.Eof a e = Unit {0}

  abbrev Shows : Lexed → Type 0
  Shows (Ok t) = ByteOf t.kind t.start t.end
  Shows (Err r) = Unit {0}

  atom_shows : (start at : ℕ) (l : List ℕ) → Shows (atom_from start at l)
  unfolding atom_from
  atom_shows start at [] = tt
  atom_shows start at (b ∷ l) = atom_by Shows (byte_class b) start at _ tt tt (atom_shows start (at + 1) l)

  here_shows : (p : ℕ) (l : List ℕ) → drop p s ≡ l → Shows (token_here p l)
  unfolding token_here
  here_shows p [] d = tt
  here_shows p (b ∷ l) d =
      here_by Shows (byte_class b) p _ tt (λ e. (ap (take 1) d ∙ ap {B = List ℕ} (λ x. x ∷ []) (open_byte b e), refl))
      (λ e. (ap (take 1) d ∙ ap {B = List ℕ} (λ x. x ∷ []) (close_byte b e), refl)) (atom_shows p (p + 1) l)

  token_shows : (at : ℕ) → Shows (next_token s at)
  unfolding next_token
  token_shows at = let p = layout_end false at (drop at s) in here_shows p (drop p s) refl

  pub open_here : (at : ℕ) (t : Token) → next_token s at ≡ Ok t → t.kind ≡ TokenKind.LParen → take 1 (drop t.start s) ≡ 40 ∷ []
  open_here at t e k = (subst (λ (x : TokenKind). ByteOf x t.start t.end) k (subst Shows e (token_shows at))).0

  pub close_here : (at : ℕ) (t : Token) → next_token s at ≡ Ok t → t.kind ≡ TokenKind.RParen → (take 1 (drop t.start s) ≡ 41 ∷ []) × (t.end ≡ t.start + 1)
  close_here at t e k = subst (λ (x : TokenKind). ByteOf x t.start t.end) k (subst Shows e (token_shows at))
