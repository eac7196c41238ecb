-- The tokens of a source have bytes of their own.
use mathlib.Core.Path.{◌≡◌, refl, subst}
use mathlib.Core.List.{List, [], ◌∷◌}
use Prim.Native.Nat.{ℕ, ◌+◌, ◌-◌, ◌≤◌, ◌<◌}
use native.Mathlib.Omega.{arith}
use lib.ListN.{length}
use Rattle.token.specs.Token.{next_token}
use Rattle.token.specs.declared.TokenKind.{TokenKind}
use Rattle.token.specs.declared.Token.{Token}
use Rattle.token.proofs.Bounds.{Span, SpanOf, Within as Spans, bounds}
use Rattle.surface.specs.Grammar.{Tokens, the_end, the_next}

-- The bytes of some tokens, each of which has some.
abbrev pub size : List Token → ℕ
size [] = 0
size (t ∷ ts) = (t.end - t.start) + size ts

abbrev pub Sized : List Token → Type 0
Sized [] = Unit {0}
Sized (t ∷ ts) = (t.start < t.end) × Sized ts

pub span_of : (k : TokenKind) (lo a e hi : ℕ) → SpanOf k lo a e hi → ¬ (k ≡ TokenKind.Eof) → Span lo a e hi
span_of TokenKind.LParen lo a e hi h n = h
span_of TokenKind.RParen lo a e hi h n = h
span_of TokenKind.Atom lo a e hi h n = h
span_of TokenKind.String lo a e hi h n = h
span_of TokenKind.Eof lo a e hi h n = absurd (n refl)

pub tokens_sized : (s : List ℕ) {at : ℕ} {ts : List Token} → Tokens (next_token s) at ts → at ≤ length s → Sized ts × (at + size ts ≤ length s)
tokens_sized s (the_end e k) h = (tt, omega arith)
tokens_sized s {at} (the_next {t = t} {ts = ts} e k r) h =
    let w = span_of t.kind at t.start t.end (length s) (subst (Spans at (length s)) e (bounds s at)) k in
    let y = tokens_sized s r w.high in
    ((w.some, y.0), omega (arith, w.low, w.some, y.1))
