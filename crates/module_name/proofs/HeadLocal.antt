-- The tokens of a head depend on the bytes up to its end only.
use Rattle.std.specs.Prelude.{Ok}
use mathlib.Core.Path.{◌≡◌, refl, sym, ap, ◌∙◌, subst}
use mathlib.Core.List.{List, [], ◌∷◌}
use Prim.Native.Nat.{ℕ, ◌-◌, ◌≤◌, ◌<◌}
use native.Mathlib.Omega.{arith}
use lib.ListN.{length, get_or}
use Rattle.token.specs.Token.{next_token}
use Rattle.token.specs.declared.TokenKind.{TokenKind}
use Rattle.token.specs.declared.Token.{Token}
use Rattle.token.proofs.Bounds.{Within, Span, bounds}
use Rattle.token.proofs.Local.{Agree, Reach, part_same, token_local}
use Rattle.token.proofs.Parentheses.{close_here}
use Rattle.token.proofs.Runs.{drop_next}
use Rattle.words.specs.Words.{identifier}
use Rattle.terms.specs.Forms.{Edition}
use Rattle.surface.specs.Text.{text}
use Rattle.surface.specs.Grammar.{Closes, Word, Name, Version, version_0_1, version_0_2, Head, head}
use Rattle.surface.proofs.TokenSizes.{span_of}
use Rattle.surface.proofs.Runs.{Run, run_end, run_more, end_of}

-- The tokens have bytes, which end at e at the latest.
abbrev pub Inside : ℕ → List Token → Type 0
Inside e [] = Unit {0}
Inside e (t ∷ ts) = (t.start < t.end) × (t.end ≤ e) × Inside e ts

-- The last of them closes.
abbrev Ends : List Token → Type 0
Ends [] = Unit {0}
Ends (t ∷ []) = Closes t
Ends (t ∷ u ∷ ts) = Ends (u ∷ ts)

token_span : (s : List ℕ) (at : ℕ) (t : Token) → next_token s at ≡ Ok t → ¬ (t.kind ≡ TokenKind.Eof) → Span at t.start t.end (length s)
token_span s at t e g = span_of t.kind at t.start t.end (length s) (subst (Within at (length s)) e (bounds s at)) g

run_ahead : (s : List ℕ) {at e : ℕ} {ts : List Token} → Run (next_token s) at ts e → at ≤ e
run_ahead s run_end = omega arith
run_ahead s {at} (run_more {t = t} n g r) = let w = token_span s at t n g in omega (arith, w.low, w.some, run_ahead s r)

run_inside : (s : List ℕ) {at e : ℕ} {ts : List Token} → Run (next_token s) at ts e → Inside e ts
run_inside s run_end = tt
run_inside s {at} (run_more {t = t} n g r) = ((token_span s at t n g).some, run_ahead s r, run_inside s r)

-- A token with others behind it ends before they do.
run_further : (s : List ℕ) {at e : ℕ} {t : Token} {ts : List Token} → Run (next_token s) at (t ∷ ts) e → at < e
run_further s {at} (run_more {t = t} n g r) = let w = token_span s at t n g in omega (arith, w.low, w.some, run_ahead s r)

reach : (k : TokenKind) (n e : ℕ) → ¬ (k ≡ TokenKind.Eof) → e < n → Reach n k e
reach TokenKind.LParen n e g h = omega arith
reach TokenKind.RParen n e g h = omega arith
reach TokenKind.Atom n e g h = h
reach TokenKind.String n e g h = h
reach TokenKind.Eof n e g h = absurd (g refl)

-- Another source with the same first e bytes.
module _ (s r : List ℕ) (e : ℕ) (agree : Agree e s r) where
  run_local : {at : ℕ} (ts : List Token) → Ends ts → Run (next_token s) at ts e → Run (next_token r) at ts e
  run_local [] c run_end = run_end
  run_local {at} (t ∷ []) c (run_more n g k) =
      run_more (token_local e s r agree at t n (subst (λ (x : TokenKind). Reach e x t.end) (sym c) (run_ahead s k))) g (run_local [] tt k)
  run_local {at} (t ∷ u ∷ ts) c (run_more n g k) = run_more (token_local e s r agree at t n (reach t.kind e t.end g (run_further s k))) g (run_local (u ∷ ts) c k)

  text_same : (t : Token) → t.start < t.end → t.end ≤ e → text r t ≡ text s t
  text_same t h i = sym (part_same e t.start (t.end - t.start) s r (omega arith) agree)

  word_local : {w : List ℕ} (t : Token) → t.start < t.end → t.end ≤ e → Word s w t → Word r w t
  word_local t h i k = record { atom = k.atom; is = text_same t h i ∙ k.is }

  name_local : (E : Edition) (t : Token) → t.start < t.end → t.end ≤ e → Name E s t → Name E r t
  name_local E t h i k = let q = text_same t h i in record { atom = k.atom; unreserved = ap E.reserved q ∙ k.unreserved; is = ap identifier q ∙ k.is }

  version_local : (a b : Token) {E : Edition} → a.start < a.end → a.end ≤ e → b.start < b.end → b.end ≤ e → Version s a b E → Version r a b E
  version_local a b h i j k (version_0_1 v w) = version_0_1 (word_local a h i v) (word_local b j k w)
  version_local a b h i j k (version_0_2 v w) = version_0_2 (word_local a h i v) (word_local b j k w)

  tokens_local : {ts us : List Token} {E : Edition} {x : Token} → Head s ts E x us → Inside e ts → Head r ts E x us
  tokens_local (head {w = w} {v₀ = a} {v₁ = b} {m = m} {x = x} {E = E} o₁ o₂ v o₅ o₆ o₇ o₈ o₉) (i₁, j₁, (i₂, j₂, (i₃, j₃, (i₄, j₄, (i₅, j₅, (i₆, j₆, (i₇, j₇, (i₈, j₈, k)))))))) =
      head o₁ (word_local w i₂ j₂ o₂) (version_local a b i₃ j₃ i₄ j₄ v) o₅ o₆ (word_local m i₇ j₇ o₇) (name_local E x i₈ j₈ o₈) o₉

  pub head_local : {ts : List Token} {E : Edition} {x : Token} → Head s ts E x [] → Run (next_token s) 0 ts e → Run (next_token r) 0 ts e × Head r ts E x []
  head_local (head o₁ o₂ v o₅ o₆ o₇ o₈ o₉) k = (run_local _ o₉ k, tokens_local (head o₁ o₂ v o₅ o₆ o₇ o₈ o₉) (run_inside s k))

-- The name x has bytes, and the parenthesis behind it ends the head, which is byte 41.
pub record Closed (s : List ℕ) (x : Token) (e : ℕ) : Type 0 where
  pub named : x.start < x.end
  pub behind : x.end ≤ e
  pub parenthesis : Token
  pub next : next_token s x.end ≡ Ok parenthesis
  pub closes : Closes parenthesis
  pub last : parenthesis.end ≡ e
  pub within : e ≤ length s
  pub some : 0 < e
  pub byte : get_or s (e - 1) 0 ≡ 41

closed_by : (s : List ℕ) (x d : Token) (e : ℕ) → x.start < x.end → next_token s x.end ≡ Ok d → Closes d → ¬ (d.kind ≡ TokenKind.Eof) → d.end ≡ e → Closed s x e
closed_by s x d e m n c g l =
    let b = close_here s x.end d n c in
    let w = token_span s x.end d n g in
    let i : e - 1 ≡ d.start = omega (arith, b.1) in
    let f = drop_next s d.start (omega (arith, w.some, w.high)) in
    let z = b.0 in
    record {
      named = m;
      behind = omega (arith, w.low, w.some);
      parenthesis = d;
      next = n;
      closes = c;
      last = l;
      within = omega (arith, w.high);
      some = omega (arith, w.some);
      byte = ap (λ (k : ℕ). get_or s k 0) i ∙ cc;
    }

pub head_closed : {s : List ℕ} {ts : List Token} {E : Edition} {x : Token} → Head s ts E x [] → (e : ℕ) → Run (next_token s) 0 ts e → Closed s x e
head_closed {s} (head {x = x} {d = d} o₁ o₂ v o₅ o₆ o₇ o₈ o₉) e
    (run_more n₁ g₁ (run_more n₂ g₂ (run_more n₃ g₃ (run_more n₄ g₄ (run_more n₅ g₅ (run_more n₆ g₆ (run_more n₇ g₇ (run_more n₈ g₈ (run_more n₉ g₉ k))))))))) =
    closed_by s x d e (token_span s _ x n₈ g₈).some n₉ o₉ g₉ (end_of k)
