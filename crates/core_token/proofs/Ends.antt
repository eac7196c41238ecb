-- The bytes at a token's ends: an opening parenthesis starts at its byte; a string has its quotes, and a byte between them.
use Rattle.token.specs.Token.{Lexed}
use Rattle.std.specs.Prelude.{Ok, Err}
use Prim.Native.Nat.{ℕ, ◌+◌, ◌-◌, ◌<◌}
use mathlib.Core.Path.{◌≡◌, refl, sym, ◌∙◌, ap, subst}
use mathlib.Core.Bool.{◌||◌}
use mathlib.Core.List.{List, [], ◌∷◌}
use native.Mathlib.Omega.{arith}
use lib.Dec.{leb, eqb}
use lib.ListN.{take, drop, get_or}
use lib.Seq.{drop-drop, get_or-drop}
use borrow.Author.Tests.{eqb-false}
use Rattle.token.specs.declared.TokenKind.{TokenKind}
use Rattle.token.specs.declared.Token.{Token}
use Rattle.core_token.specs.CoreToken.{core_class, string_class, core_atom_from, Open, nothing, backslash, lead, string_from, core_token_from, next_core_token}
use Rattle.core_token.specs.declared.StringClass.{StringClass}
use Rattle.core_token.proofs.Classes.{open_byte, quote_byte, string_quote_byte}
use Rattle.core_token.proofs.Outcomes.{atom_by, string_by, cond_by, test_by, here_by}

-- A string from a up to e.
pub record Quoted (s : List ℕ) (a e : ℕ) : Type 0 where
  pub some : a + 2 < e
  pub opens : get_or s a 0 ≡ 34
  pub closes : get_or s (e - 1) 0 ≡ 34

module _ (s : List ℕ) where
  abbrev BytesOf : TokenKind → ℕ → ℕ → Type 0
  BytesOf TokenKind.LParen a e = take 1 (drop a s) ≡ 40 ∷ []
  BytesOf TokenKind.RParen a e = Unit {0}
  BytesOf TokenKind.Atom a e = Unit {0}
  BytesOf TokenKind.String a e = Quoted s a e
  BytesOf TokenKind.Eof a e = Unit {0}

  abbrev Shows : Lexed → Type 0
  Shows (Ok t) = BytesOf t.kind t.start t.end
  Shows (Err r) = Unit {0}

  byte_at : (at b : ℕ) (l : List ℕ) → drop at s ≡ b ∷ l → get_or s at 0 ≡ b
  byte_at at b l d = let z : at ≡ at + 0 = omega arith in ap (λ n. get_or s n 0) z ∙ sym (get_or-drop at s 0 0) ∙ ap (λ (x : List ℕ). get_or x 0 0) d

  rest_at : (at b : ℕ) (l : List ℕ) → drop at s ≡ b ∷ l → drop (at + 1) s ≡ l
  rest_at at b l d = sym (drop-drop 1 at s) ∙ ap (drop 1) d

  atom_shows : (start at : ℕ) (l : List ℕ) → Shows (core_atom_from start at l)
  unfolding core_atom_from
  atom_shows start at [] = tt
  atom_shows start at (b ∷ l) = atom_by Shows (core_class b) start at _ tt tt (atom_shows start (at + 1) l)

  module _ (start : ℕ) (first : get_or s start 0 ≡ 34) where
    -- closed by a quote that does not stand right behind the first
    quoted : (at b : ℕ) (l : List ℕ) → start < at → (at ≡ start + 1 → ⊥) → drop at s ≡ b ∷ l → string_class b ≡ StringClass.Quote → Quoted s start (at + 1)
    quoted at b l p n d k =
        let z : at + 1 - 1 ≡ at = omega arith in
        record { some = omega arith; opens = first; closes = ap (λ i. get_or s i 0) z ∙ byte_at at b l d ∙ string_quote_byte b k }

    string_shows : (l : List ℕ) (o : Open) (at : ℕ) → start < at → drop at s ≡ l → Shows (string_from start o at l)
    unfolding string_from
    string_shows [] nothing at p d = tt
    string_shows [] (backslash e) at p d = tt
    string_shows [] (lead e) at p d = tt
    string_shows (b ∷ l) nothing at p d =
        let on : (o : Open) → Shows (string_from start o (at + 1) l) = λ o. string_shows l o (at + 1) (omega arith) (rest_at at b l d) in
        string_by Shows (string_class b) at _ _ _ _
        (λ k. cond_by Shows (eqb at (start + 1)) _ _ tt (λ n. quoted at b l p (eqb-false at (start + 1) n) d k))
        (on (backslash at)) tt (on (lead at)) (on nothing)
    string_shows (b ∷ l) (backslash e) at p d =
        test_by Shows (eqb b 34 || eqb b 92) _ _ (string_shows l nothing (at + 1) (omega arith) (rest_at at b l d)) tt
    string_shows (b ∷ l) (lead e) at p d = test_by Shows (leb b 0x9F) _ _ tt (string_shows l nothing (at + 1) (omega arith) (rest_at at b l d))

  here_shows : (l : List ℕ) (at : ℕ) → drop at s ≡ l → Shows (core_token_from at l)
  unfolding core_token_from
  here_shows [] at d = tt
  here_shows (b ∷ l) at d =
      let r = rest_at at b l d in
      here_by Shows (core_class b) at _ _ _ (here_shows l (at + 1) r) (λ k. ap (take 1) d ∙ ap {B = List ℕ} (λ x. x ∷ []) (open_byte b k)) tt
      (λ k. string_shows at (byte_at at b l d ∙ quote_byte b k) l nothing (at + 1) (omega arith) r) (atom_shows at (at + 1) l) tt

  module _ (at : ℕ) (t : Token) (e : next_core_token s at ≡ Ok t) where
    shows : BytesOf t.kind t.start t.end
    unfolding next_core_token
    shows = subst Shows e (here_shows (drop at s) at refl)

    pub open_here : t.kind ≡ TokenKind.LParen → take 1 (drop t.start s) ≡ 40 ∷ []
    open_here k = subst (λ (x : TokenKind). BytesOf x t.start t.end) k shows

    pub string_here : t.kind ≡ TokenKind.String → Quoted s t.start t.end
    string_here k = subst (λ (x : TokenKind). BytesOf x t.start t.end) k shows
