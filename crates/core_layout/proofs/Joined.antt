-- Tokens with a print's layout between them: a text equals that exactly if it is laid out so.
use mathlib.Core.Path.{◌≡◌, refl, sym, ap, ◌∙◌}
use mathlib.Core.List.{List, [], ◌∷◌, ◌++◌}
use mathlib.Core.Bool.{Bool, true, false, ◌&&◌}
use Prim.Native.Nat.{ℕ, zero, suc, ◌+◌, ◌-◌, ◌≤◌, ◌<◌}
use native.Mathlib.Omega.{arith}
use lib.ListN.{length, drop, get_or, length-drop}
use lib.Seq.{take_all}
use Rattle.token.specs.Token.{layout_byte}
use Rattle.token.specs.declared.TokenKind.{TokenKind}
use Rattle.token.specs.declared.Token.{Token}
use Rattle.core_token.specs.CoreToken.{next_core_token}
use Rattle.words.specs.Words.{same_bytes, all}
use Rattle.terms.specs.Label.{part}
use Rattle.surface.specs.Text.{text, is_open}
use Rattle.surface.specs.Grammar.{Tokens, the_end, the_next}
use Rattle.core_layout.specs.inner.Layout.{gap, laid_out}
use Rattle.core_layout.proofs.Starts.{led, span, at_end}
use Rattle.core_layout.proofs.Seams.{split, first_byte, same_front, same_seam}
use Rattle.core_layout.proofs.Turns.{turn_end, turn_on}

-- The tokens of a text, each behind the gap that a print has there, and the gap before the end.
abbrev pub join : List ℕ → Bool → List Token → List ℕ
join t tight [] = gap tight TokenKind.Eof
join t tight (u ∷ ts) = gap tight u.kind ++ (text t u ++ join t (is_open u.kind) ts)

gap_blank : (tight : Bool) (k : TokenKind) → all layout_byte (gap tight k) ≡ true
unfolding all
gap_blank true k = refl
gap_blank false TokenKind.LParen = refl
gap_blank false TokenKind.RParen = refl
gap_blank false TokenKind.Atom = refl
gap_blank false TokenKind.String = refl
gap_blank false TokenKind.Eof = refl

module _ (t : List ℕ) where
  pub laid : {at : ℕ} {ts : List Token} → Tokens (next_core_token t) at ts → (n : ℕ) (tight : Bool) → at ≤ length t → length t < at + n
      → same_bytes (drop at t) (join t tight ts) ≡ laid_out t n tight at
  laid (the_end e k) zero tight h i = absurd (omega arith)
  laid {at} (the_end {t = u} e k) (suc n) tight h i =
      let p : drop at t ≡ part t at (u.start - at) = sym (ap (λ (m : ℕ). part t at (m - at)) (at_end t at u e k h) ∙ take_all (length t - at) (drop at t) (omega (arith, length-drop at t))) in
      ap (λ (l : List ℕ). same_bytes l (gap tight TokenKind.Eof)) p ∙ ap (λ (x : TokenKind). same_bytes (part t at (u.start - at)) (gap tight x)) (sym k) ∙ sym (turn_end t n tight at u e k)
  laid (the_next e g k) zero tight h i = absurd (omega arith)
  laid {at} (the_next {t = u} {ts = ts} e g k) (suc n) tight h i =
      let b = span t at u e g in
      let d = led t at u e g in
      let a = u.start in
      let x = get_or t a 0 in
      let w = part t (a + 1) (u.end - (a + 1)) in
      let J = join t (is_open u.kind) ts in
      let f : text t u ≡ x ∷ w = first_byte t a u.end b.some b.high in
      let c : drop at t ≡ part t at (a - at) ++ (x ∷ (w ++ drop u.end t)) = split t at a d.low ∙ ap (λ (l : List ℕ). part t at (a - at) ++ l) (split t a u.end (omega (arith, b.some)) ∙ ap (λ (l : List ℕ). l ++ drop u.end t) f) in
      let j : join t tight (u ∷ ts) ≡ gap tight u.kind ++ (x ∷ (w ++ J)) = ap (λ (l : List ℕ). gap tight u.kind ++ (l ++ J)) f in
      let r = laid k n (is_open u.kind) b.high (omega (arith, b.low, b.some)) in
      (λ y. same_bytes (c y) (j y))
      ∙ same_seam (part t at (a - at)) (gap tight u.kind) x (w ++ drop u.end t) (w ++ J) d.blank (gap_blank tight u.kind) d.solid
      ∙ ap (λ (y : Bool). same_bytes (part t at (a - at)) (gap tight u.kind) && y) (same_front w (drop u.end t) J ∙ r)
      ∙ sym (turn_on t n tight at u e g)
