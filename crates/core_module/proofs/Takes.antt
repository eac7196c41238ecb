-- What a step of the reader gives on the bytes that are printed for it.
use Rattle.std.specs.Prelude.{Ok}
use mathlib.Core.Path.{◌≡◌, refl, ap, ◌∙◌}
use mathlib.Core.List.{List, [], ◌∷◌, ◌++◌}
use mathlib.Core.Bool.{true}
use Prim.Native.Nat.{ℕ, ◌+◌, ◌-◌, ◌<◌}
use native.Mathlib.Omega.{arith}
use lib.ListN.{length, drop}
use Rattle.token.specs.declared.TokenKind.{TokenKind}
use Rattle.token.specs.declared.Token.{Token}
use Rattle.core_token.specs.CoreToken.{core_token_from, next_core_token}
use Rattle.words.specs.Words.{numeral}
use Rattle.surface.specs.Text.{text}
use Rattle.surface.specs.Reader.{Position, done}
use Rattle.surface.specs.Reading.{token, closing, atom, natural}
use Rattle.surface.proofs.Takes.{after_go, token_takes, closing_takes, atom_takes, natural_takes}
use Rattle.core_text.specs.TextReading.{string, end_token}
use Rattle.core_module.proofs.Tokens as front
use Rattle.core_module.proofs.Tokens.{Stop, Wordlike, Directs, space_token, behind_one, part_at}

-- The same number of rows at another offset.
abbrev pub to : Position → ℕ → Position
to p at = record { offset = at; rows = p.rows }

abbrev pub the_token : TokenKind → ℕ → ℕ → Token
the_token k a b = record { kind = k; start = a; end = b }

module _ (s : List ℕ) where
  next_at : (at : ℕ) (l : List ℕ) (t : Token) → drop at s ≡ l → core_token_from at l ≡ Ok t → next_core_token s at ≡ Ok t
  unfolding next_core_token
  next_at at l t e f = ap (core_token_from at) e ∙ f

  pub open_next : (at : ℕ) (l : List ℕ) → drop at s ≡ 32 ∷ 40 ∷ l → next_core_token s at ≡ Ok (the_token TokenKind.LParen (at + 1) (at + 1 + 1))
  open_next at l e = next_at at (32 ∷ 40 ∷ l) _ e (space_token at (40 ∷ l) ∙ front.open_token (at + 1) l)

  pub close_next : (at : ℕ) (l : List ℕ) → drop at s ≡ 41 ∷ l → next_core_token s at ≡ Ok (the_token TokenKind.RParen at (at + 1))
  close_next at l e = next_at at (41 ∷ l) _ e (front.close_token at l)

  word_next : (at : ℕ) (w l : List ℕ) → drop at s ≡ w ++ l → Wordlike w → Stop l → next_core_token s at ≡ Ok (the_token TokenKind.Atom at (at + length w))
  word_next at w l e h k = next_at at (w ++ l) _ e (front.word_token w l at h k)

  pub spaced_word_next : (at : ℕ) (w l : List ℕ) → drop at s ≡ 32 ∷ (w ++ l) → Wordlike w → Stop l → next_core_token s at ≡ Ok (the_token TokenKind.Atom (at + 1) (at + 1 + length w))
  spaced_word_next at w l e h k = next_at at (32 ∷ (w ++ l)) _ e (space_token at (w ++ l) ∙ front.word_token w l (at + 1) h k)

  pub closes : (p : Position) (l : List ℕ) → drop p.offset s ≡ 41 ∷ l
      → closing (next_core_token s) p ≡ done (the_token TokenKind.RParen p.offset (p.offset + 1)) (to p (p.offset + 1))
  closes p l e = closing_takes (next_core_token s) p (the_token TokenKind.RParen p.offset (p.offset + 1)) (close_next p.offset l e) refl

  pub takes_atom : (p : Position) (w l : List ℕ) → drop p.offset s ≡ w ++ l → Wordlike w → Stop l
      → atom (next_core_token s) p ≡ done (the_token TokenKind.Atom p.offset (p.offset + length w)) (to p (p.offset + length w))
  takes_atom p w l e h k = atom_takes (next_core_token s) p (the_token TokenKind.Atom p.offset (p.offset + length w)) (word_next p.offset w l e h k) refl

  -- The bytes of such an atom.
  pub text_is : (at : ℕ) (w l : List ℕ) → drop at s ≡ w ++ l → text s (the_token TokenKind.Atom at (at + length w)) ≡ w
  text_is at w l e = part_at s at (at + length w - at) w l e (omega arith)

  -- A numeral behind a space.
  pub takes_natural : (p : Position) (w l : List ℕ) → drop p.offset s ≡ 32 ∷ (w ++ l) → Wordlike w → numeral w ≡ true → Stop l
      → natural (next_core_token s) s p ≡ done (the_token TokenKind.Atom (p.offset + 1) (p.offset + 1 + length w)) (to p (p.offset + 1 + length w))
  takes_natural p w l e h n k =
      natural_takes (next_core_token s) s p (the_token TokenKind.Atom (p.offset + 1) (p.offset + 1 + length w)) (spaced_word_next p.offset w l e h k)
      (record { atom = refl; is = ap numeral (text_is (p.offset + 1) w l (behind_one s p.offset 32 (w ++ l) e)) ∙ n })

  -- A string behind a space: the bytes between its quotes.
  pub takes_string : (p : Position) (w l : List ℕ) → drop p.offset s ≡ 32 ∷ 34 ∷ (w ++ (34 ∷ l)) → 0 < length w → Directs w
      → string (next_core_token s) p ≡ done (the_token TokenKind.String (p.offset + 1 + 1) (p.offset + 1 + 1 + length w + 1 - 1)) (to p (p.offset + 1 + 1 + length w + 1))
  unfolding string
  takes_string p w l e n h =
      let t = the_token TokenKind.String (p.offset + 1) (p.offset + 1 + 1 + length w + 1) in
      after_go (token (next_core_token s) p) _ t (to p t.end) _
      (token_takes (next_core_token s) p t (next_at p.offset (32 ∷ 34 ∷ (w ++ (34 ∷ l))) t e (space_token p.offset (34 ∷ (w ++ (34 ∷ l))) ∙ front.string_token w l (p.offset + 1) n h))) refl

  -- The end of the text behind its last line.
  pub takes_end : (p : Position) → drop p.offset s ≡ 10 ∷ [] → end_token (next_core_token s) p ≡ done (the_token TokenKind.Eof (p.offset + 1) (p.offset + 1)) (to p (p.offset + 1))
  unfolding end_token
  takes_end p e =
      let t = the_token TokenKind.Eof (p.offset + 1) (p.offset + 1) in
      after_go (token (next_core_token s) p) _ t (to p t.end) _
      (token_takes (next_core_token s) p t (next_at p.offset (10 ∷ []) t e (front.line_token p.offset [] ∙ front.end_token (p.offset + 1)))) refl
