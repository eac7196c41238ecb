-- A token stands at or behind the offset that it was asked at, within the source; the end token's offset is the source's length.
use Rattle.std.specs.Prelude.{Ok, Err}
use Prim.Native.Nat.{ℕ, ◌+◌, ◌-◌, ◌≤◌, ◌<◌}
use mathlib.Core.Path.{◌≡◌}
use mathlib.Core.Bool.{Bool, true, false}
use mathlib.Core.List.{List, [], ◌∷◌}
use native.Mathlib.Omega.{arith}
use lib.ListN.{length, drop, length-drop}
use lib.Dec.{eqb}
use Rattle.token.specs.Token.{byte_class, layout_end, atom_from, token_here, next_token, Lexed}
use Rattle.token.specs.declared.ByteClass.{ByteClass}
use Rattle.token.specs.declared.ByteClass.TheVariants.{Layout, Comment, LParen, RParen, Atom, Refused}
use Rattle.token.specs.declared.TokenKind.{TokenKind}
use Rattle.token.proofs.Outcomes.{atom_by, here_by}

pub record Span (lo a e hi : ℕ) : Type 0 where
  pub low : lo ≤ a
  pub some : a < e
  pub high : e ≤ hi

abbrev pub SpanOf : TokenKind → ℕ → ℕ → ℕ → ℕ → Type 0
SpanOf TokenKind.LParen lo a e hi = Span lo a e hi
SpanOf TokenKind.RParen lo a e hi = Span lo a e hi
SpanOf TokenKind.Atom lo a e hi = Span lo a e hi
SpanOf TokenKind.String lo a e hi = Span lo a e hi
SpanOf TokenKind.Eof lo a e hi = lo ≤ hi → (a ≡ hi) × (e ≡ hi)

abbrev pub Within : ℕ → ℕ → Lexed → Type 0
Within lo hi (Ok t) = SpanOf t.kind lo t.start t.end hi
Within lo hi (Err r) = Unit

-- Layout goes on in two cases, and ends here in the others.
layout_by : (P : ℕ → Type 0) (k : ByteClass) (at p q : ℕ) → P at → P p → P q
    → P (elim k as (λ _. ℕ) [ Layout ↦ p | Comment ↦ q | LParen ↦ at | RParen ↦ at | Atom ↦ at | Refused ↦ at ])
layout_by P Layout at p q h f t = f
layout_by P Comment at p q h f t = t
layout_by P LParen at p q h f t = h
layout_by P RParen at p q h f t = h
layout_by P Atom at p q h f t = h
layout_by P Refused at p q h f t = h

comment_by : (P : ℕ → Type 0) (c : Bool) (p q : ℕ) → P p → P q → P (elim c as (λ _. ℕ) [ true ↦ p | false ↦ q ])
comment_by P true p q f t = f
comment_by P false p q f t = t

pub layout_span : (l : List ℕ) (c : Bool) (at lo hi : ℕ) → lo ≤ at → at + length l ≤ hi → (lo ≤ layout_end c at l) × (layout_end c at l ≤ hi)
unfolding layout_end
layout_span [] true at lo hi h k = (h, omega arith)
layout_span [] false at lo hi h k = (h, omega arith)
layout_span (b ∷ l) true at lo hi h k =
    comment_by (λ n. (lo ≤ n) × (n ≤ hi)) (eqb b 10) _ _
    (layout_span l false (at + 1) lo hi (omega arith) (omega arith)) (layout_span l true (at + 1) lo hi (omega arith) (omega arith))
layout_span (b ∷ l) false at lo hi h k =
    layout_by (λ n. (lo ≤ n) × (n ≤ hi)) (byte_class b) at _ _ (h, omega arith)
    (layout_span l false (at + 1) lo hi (omega arith) (omega arith)) (layout_span l true (at + 1) lo hi (omega arith) (omega arith))

atom_span : (l : List ℕ) (lo start at hi : ℕ) → lo ≤ start → start < at → at + length l ≡ hi → Within lo hi (atom_from start at l)
unfolding atom_from
atom_span [] lo start at hi h p q = record { low = h; some = p; high = omega arith }
atom_span (b ∷ l) lo start at hi h p q =
    atom_by (Within lo hi) (byte_class b) start at _ (record { low = h; some = p; high = omega arith }) tt (atom_span l lo start (at + 1) hi h (omega arith) (omega arith))

-- The list stands at p, and ends at hi unless it is empty.
here_span : (l : List ℕ) (lo p hi : ℕ) → lo ≤ p → (lo ≤ hi → p ≤ hi) → length l ≡ hi - p → Within lo hi (token_here p l)
unfolding token_here
here_span [] lo p hi h k e = λ f. let g : p ≤ hi = k f in (omega arith, omega arith)
here_span (b ∷ l) lo p hi h k e =
    let one : Span lo p (p + 1) hi = record { low = h; some = omega arith; high = omega arith } in
    here_by (Within lo hi) (byte_class b) p _ tt (λ q. one) (λ q. one) (atom_span l lo p (p + 1) hi h (omega arith) (omega arith))

pub bounds : (s : List ℕ) (at : ℕ) → Within at (length s) (next_token s at)
unfolding next_token
bounds s at =
    let p = layout_end false at (drop at s) in
    let low = layout_span (drop at s) false at at (at + length (drop at s)) (omega arith) (omega arith) in
    here_span (drop p s) at p (length s) low.0
    (λ f. (layout_span (drop at s) false at at (length s) (omega arith) (omega (arith, length-drop at s))).1) (length-drop p s)
