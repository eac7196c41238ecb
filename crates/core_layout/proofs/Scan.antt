-- The scan before a token: the layout of the whole text is that of the tokens from there on.
use Rattle.std.specs.Prelude.{Ok, Err}
use mathlib.Core.Path.{◌≡◌, refl, sym, ap, ◌∙◌, subst}
use mathlib.Core.List.{List}
use mathlib.Core.Bool.{Bool, true, false, ◌&&◌, ◌||◌, false≢true}
use Prim.Native.Nat.{ℕ, zero, suc, ◌+◌, ◌≤◌, ◌<◌}
use native.Mathlib.Omega.{arith}
use lib.ListN.{length}
use denote.Enum.Bare.{sameb}
use Rattle.token.specs.contracts.TokenKind.{the_type}
use Rattle.token.specs.declared.TokenKind.{TokenKind}
use Rattle.token.specs.declared.Token.{Token}
use Rattle.token.specs.declared.Refusal.{Refusal}
use Rattle.token.proofs.Bounds.{SpanOf, Within}
use Rattle.core_token.specs.CoreToken.{next_core_token}
use Rattle.core_token.proofs.Bounds.{bounds}
use Rattle.surface.specs.Text.{is_open, is_end}
use Rattle.core_layout.specs.inner.Layout.{laid_out, canonical_layout}
use Rattle.core_layout.proofs.Starts.{span}
use Rattle.core_layout.proofs.Turns.{in_front, turn, turn_refused}

-- Whether a kind is the end or an opening parenthesis, by the code's `==`.
pub end_is : (k : TokenKind) → sameb the_type k TokenKind.Eof ≡ is_end k
end_is TokenKind.Eof = refl
end_is TokenKind.LParen = refl
end_is TokenKind.RParen = refl
end_is TokenKind.Atom = refl
end_is TokenKind.String = refl

pub open_is : (k : TokenKind) → sameb the_type k TokenKind.LParen ≡ is_open k
open_is TokenKind.Eof = refl
open_is TokenKind.LParen = refl
open_is TokenKind.RParen = refl
open_is TokenKind.Atom = refl
open_is TokenKind.String = refl

-- `left`: how many tokens may still be looked at, which are enough.
pub record Scanned (t : List ℕ) (at : ℕ) (tight : Bool) : Type 0 where
  pub inside : at ≤ length t
  pub left : ℕ
  pub enough : length t < at + left
  pub same : canonical_layout t ≡ laid_out t left tight at

pub scan_start : (t : List ℕ) → Scanned t 0 true
unfolding canonical_layout
scan_start t = record { inside = omega arith; left = suc (length t); enough = omega arith; same = refl }

module _ (t : List ℕ) (at : ℕ) (tight : Bool) (s : Scanned t at tight) where
  one_left : (n : ℕ) → length t < at + n → (m : ℕ) × (n ≡ suc m)
  one_left zero h = absurd (omega (arith, s.inside))
  one_left (suc m) h = (m, refl)

  abbrev fewer : ℕ
  fewer = (one_left s.left s.enough).0

  from_here : canonical_layout t ≡ laid_out t (suc fewer) tight at
  from_here = s.same ∙ ap (λ (n : ℕ). laid_out t n tight at) (one_left s.left s.enough).1

  pub scan_refused : (r : Refusal) → next_core_token t at ≡ Err r → canonical_layout t ≡ false
  scan_refused r e = from_here ∙ turn_refused t fewer tight at r e

  module _ (u : Token) (e : next_core_token t at ≡ Ok u) where
    start_by : (k : TokenKind) → SpanOf k at u.start u.end (length t) → (at ≤ u.start) × (u.start ≤ length t)
    start_by TokenKind.LParen h = (h.low, omega (arith, h.some, h.high))
    start_by TokenKind.RParen h = (h.low, omega (arith, h.some, h.high))
    start_by TokenKind.Atom h = (h.low, omega (arith, h.some, h.high))
    start_by TokenKind.String h = (h.low, omega (arith, h.some, h.high))
    start_by TokenKind.Eof h = let z = (h s.inside).0 in (omega (arith, s.inside), omega arith)

    pub scan_token : (at ≤ u.start) × (u.start ≤ length t)
    scan_token = start_by u.kind (subst (Within at (length t)) e (bounds t at))

    by_turn : {f i : Bool} → in_front t tight at u ≡ f → is_end u.kind ≡ i → canonical_layout t ≡ (f && (i || laid_out t fewer (is_open u.kind) u.end))
    by_turn f i = from_here ∙ turn t fewer tight at u e ∙ (λ j. f j && (i j || laid_out t fewer (is_open u.kind) u.end))

    pub scan_gap : in_front t tight at u ≡ false → canonical_layout t ≡ false
    scan_gap f = by_turn f refl

    pub scan_end : in_front t tight at u ≡ true → is_end u.kind ≡ true → canonical_layout t ≡ true
    scan_end f i = by_turn f i

    module _ (i : is_end u.kind ≡ false) where
      not_end : ¬ (u.kind ≡ TokenKind.Eof)
      not_end q = false≢true (sym i ∙ ap is_end q)

      pub scan_less : (at < u.end) × (u.end ≤ length t)
      scan_less = let b = span t at u e not_end in (omega (arith, b.low, b.some), b.high)

      pub scan_on : in_front t tight at u ≡ true → Scanned t u.end (is_open u.kind)
      scan_on f = record {
        inside = scan_less.1;
        left = fewer;
        enough = omega (arith, scan_less.0, s.enough, (one_left s.left s.enough).1);
        same = by_turn f i;
      }
