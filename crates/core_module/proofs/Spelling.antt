-- Each string that is read has the one spelling that is written for it.
use Rattle.std.specs.Prelude.{Ok}
use mathlib.Core.Path.{◌≡◌, refl, sym, ap, ◌∙◌, subst}
use mathlib.Core.List.{List, [], ◌∷◌, ◌++◌}
use mathlib.Core.Bool.{Bool, true, false, not, ◌||◌, ◌&&◌, cond, and-eq-true_iff, false≢true}
use Prim.Native.Nat.{ℕ, suc, ◌+◌, ◌-◌}
use native.Mathlib.Omega.{arith}
use native.Mathlib.Nat.{add-zero}
use lib.Dec.{leb, ltb, eqb}
use borrow.Author.Tests.{eqb-true, ne_eqb, leb-false}
use lib.ListN.{length, drop}
use lib.Seq.{drop-drop}
use Rattle.token.specs.Token.{within, layout_byte, malformed, token, Lexed}
use Rattle.token.specs.declared.TokenKind.{TokenKind}
use Rattle.token.specs.declared.Token.{Token}
use Rattle.core_token.specs.declared.CoreClass.{CoreClass}
use Rattle.core_token.specs.declared.StringClass.{StringClass}
use Rattle.core_token.specs.declared.StringClass.TheVariants.{Quote as InQuote, Backslash, Control, Lead, Direct}
use Rattle.core_token.specs.CoreToken.{core_class, string_class, core_atom_from, Open, nothing, backslash, lead, closed, string_from, core_token_from, next_core_token}
use Rattle.core_token.proofs.Outcomes.{atom_by, here_by}
use Rattle.terms.specs.Label.{part}
use Rattle.surface.specs.Text.{text, is_string}
use Rattle.surface.specs.Reading.{token as read-token}
use Rattle.surface.proofs.Steps.{after_elim, require_elim, done_inj, token_done}
use Rattle.core_text.specs.TextReading.{string}
use Rattle.core_module.specs.Escapes.{said, says, written}
use Rattle.core_module.specs.Statements.{OneSpelling, SameSpelling}
use Rattle.core_module.proofs.Tokens.{behind_one, part_at}

-- Spellings: a quote or a backslash stands behind a backslash only, and nothing else does; true: behind a backslash.
abbrev raw : Bool → List ℕ → Bool
raw true [] = false
raw false [] = true
raw true (b ∷ l) = (eqb b 34 || eqb b 92) && raw false l
raw false (b ∷ l) = cond (eqb b 92) (raw true l) (not (eqb b 34) && raw false l)

-- A spelling is what is written for what it says.
written_said : (c : Bool) (l : List ℕ) → raw c l ≡ true → written (said c l) ≡ cond c (92 ∷ l) l
unfolding said written
written_said true [] e = absurd (false≢true e)
written_said false [] e = refl
written_said true (b ∷ l) e =
    let w = (and-eq-true_iff (eqb b 34 || eqb b 92) (raw false l)).0 e in
    rw (w.0, written) (ap {B = List ℕ} (λ x. 92 ∷ b ∷ x) (written_said false l w.1))
written_said false (b ∷ l) e = go (written_said true l) (written_said false l) (eqb b 92) (eqb b 34) refl refl e
  where
    go : (raw true l ≡ true → written (said true l) ≡ 92 ∷ l) → (raw false l ≡ true → written (said false l) ≡ l) → (x y : Bool) → eqb b 92 ≡ x → eqb b 34 ≡ y
        → cond x (raw true l) (not y && raw false l) ≡ true
        → written (elim (eqb b 92) as (λ _. List ℕ) [ true ↦ said true l | false ↦ b ∷ said false l ]) ≡ b ∷ l
    go f g true y p q h = rw (p, said) (f h ∙ ap (λ (n : ℕ). n ∷ l) (sym (eqb-true b 92 p)))
    go f g false true p q h = absurd (false≢true h)
    go f g false false p q h = rw (p, said, written, q) (rw (p, written) (ap {B = List ℕ} (λ x. b ∷ x) (g h)))

-- A string that is closed: its bytes, and that they are a spelling.
record Closed (c : Bool) (start at : ℕ) (l : List ℕ) (p : Token) : Type 0 where
  bytes : List ℕ
  rest : List ℕ
  are : l ≡ bytes ++ (34 ∷ rest)
  spelling : raw c bytes ≡ true
  starts : p.start ≡ start
  ends : p.end ≡ at + length bytes + 1

no_got : {P : Type 0} {at : ℕ} {p : Token} → malformed at ≡ Ok p → P
no_got e = absurd (let z : ◌≡◌ {A = ℕ} 0 1 = cc in omega arith)

got_inj : {p q : Token} → ◌≡◌ {A = Lexed} (Ok p) (Ok q) → p ≡ q
got_inj e = cc

-- One byte more.
more : (b : ℕ) (c d : Bool) (start at : ℕ) (l : List ℕ) (p : Token) → ((w : List ℕ) → raw d w ≡ true → raw c (b ∷ w) ≡ true) → Closed d start (at + 1) l p → Closed c start at (b ∷ l) p
more b c d start at l p h k = record {
  bytes = b ∷ k.bytes;
  rest = k.rest;
  are = ap {B = List ℕ} (λ x. b ∷ x) k.are;
  spelling = h k.bytes k.spelling;
  starts = k.starts;
  ends = k.ends ∙ (let q : at + 1 + length k.bytes + 1 ≡ at + suc (length k.bytes) + 1 = omega arith in q);
}

abbrev pending : Open → Bool
pending nothing = false
pending (backslash e) = true
pending (lead e) = false

closes : (x : Bool) (start at : ℕ) (l : List ℕ) (p : Token) → cond x (malformed start) (token TokenKind.String start (at + 1)) ≡ Ok p → Closed false start at (34 ∷ l) p
closes true start at l p e = no_got e
closes false start at l p e =
    let q = got_inj e in
    record { bytes = []; rest = l; are = refl; spelling = refl; starts = ap (λ (x : Token). x.start) (sym q); ends = ap (λ (x : Token). x.end) (sym q) ∙ ap (λ (n : ℕ). n + 1) (sym (add-zero at)) }

string_closed : (l : List ℕ) (o : Open) (start at : ℕ) (p : Token) → string_from start o at l ≡ Ok p → Closed (pending o) start at l p
unfolding string_from string_class
string_closed [] nothing start at p e = no_got e
string_closed [] (backslash x) start at p e = no_got e
string_closed [] (lead x) start at p e = no_got e
string_closed (b ∷ l) nothing start at p e =
    go (eqb b 34) (eqb b 92) (ltb b 0x20 || eqb b 0x7F) (eqb b 0xC2) refl refl e
    (string_closed l (backslash at) start (at + 1) p) (string_closed l (lead at) start (at + 1) p) (string_closed l nothing start (at + 1) p)
  where
    direct : eqb b 34 ≡ false → eqb b 92 ≡ false → (w : List ℕ) → raw false w ≡ true → raw false (b ∷ w) ≡ true
    direct f g w h = ap (λ (x : Bool). cond x (raw true w) (not (eqb b 34) && raw false w)) g ∙ ap (λ (x : Bool). not x && raw false w) f ∙ h

    go : (x y u v : Bool) → eqb b 34 ≡ x → eqb b 92 ≡ y
        → elim (cond x StringClass.Quote (cond y StringClass.Backslash (cond u StringClass.Control (cond v StringClass.Lead StringClass.Direct)))) as (λ _. Lexed) [
          | InQuote ↦ closed start at
          | Backslash ↦ string_from start (backslash at) (at + 1) l
          | Control ↦ malformed at
          | Lead ↦ string_from start (lead at) (at + 1) l
          | Direct ↦ string_from start nothing (at + 1) l
        ] ≡ Ok p
        → (string_from start (backslash at) (at + 1) l ≡ Ok p → Closed true start (at + 1) l p)
        → (string_from start (lead at) (at + 1) l ≡ Ok p → Closed false start (at + 1) l p)
        → (string_from start nothing (at + 1) l ≡ Ok p → Closed false start (at + 1) l p)
        → Closed false start at (b ∷ l) p
    go true y u v f g e i j k = subst (λ (n : ℕ). Closed false start at (n ∷ l) p) (sym (eqb-true b 34 f)) (closes (eqb at (start + 1)) start at l p e)
    go false true u v f g e i j k = more b false true start at l p (λ w h. ap (λ (x : Bool). cond x (raw true w) (not (eqb b 34) && raw false w)) g ∙ h) (i e)
    go false false true v f g e i j k = no_got e
    go false false false true f g e i j k = more b false false start at l p (direct f g) (j e)
    go false false false false f g e i j k = more b false false start at l p (direct f g) (k e)
string_closed (b ∷ l) (backslash x) start at p e = go (eqb b 34 || eqb b 92) refl e (string_closed l nothing start (at + 1) p)
  where
    go : (y : Bool) → eqb b 34 || eqb b 92 ≡ y → elim y as (λ _. Lexed) [ true ↦ string_from start nothing (at + 1) l | false ↦ malformed x ] ≡ Ok p
        → (string_from start nothing (at + 1) l ≡ Ok p → Closed false start (at + 1) l p) → Closed true start at (b ∷ l) p
    go true f e k = more b true false start at l p (λ w h. ap (λ (z : Bool). z && raw false w) f ∙ h) (k e)
    go false f e k = no_got e
string_closed (b ∷ l) (lead x) start at p e = go (leb b 0x9F) refl e (string_closed l nothing start (at + 1) p)
  where
    go : (y : Bool) → leb b 0x9F ≡ y → elim y as (λ _. Lexed) [ true ↦ malformed x | false ↦ string_from start nothing (at + 1) l ] ≡ Ok p
        → (string_from start nothing (at + 1) l ≡ Ok p → Closed false start (at + 1) l p) → Closed false start at (b ∷ l) p
    go true f e k = no_got e
    go false f e k =
        let h = leb-false b 159 f in
        more b false false start at l p
        (λ w z. ap (λ (x : Bool). cond x (raw true w) (not (eqb b 34) && raw false w)) (ne_eqb b 92 (λ q. omega arith)) ∙ ap (λ (x : Bool). not x && raw false w) (ne_eqb b 34 (λ q. omega arith)) ∙ z) (k e)

-- Of the other tokens none is a string.
got_kind : {P : Type 0} (k : TokenKind) (a e : ℕ) (p : Token) → p.kind ≡ TokenKind.String → (k ≡ TokenKind.String → ⊥) → token k a e ≡ Ok p → P
got_kind k a e p h n f = absurd (n (ap (λ (x : Token). x.kind) (got_inj f) ∙ h))

no_open : TokenKind.LParen ≡ TokenKind.String → ⊥
no_open e = let z : ◌≡◌ {A = ℕ} 0 1 = cc in omega arith

no_close : TokenKind.RParen ≡ TokenKind.String → ⊥
no_close e = let z : ◌≡◌ {A = ℕ} 0 1 = cc in omega arith

no_atom : TokenKind.Atom ≡ TokenKind.String → ⊥
no_atom e = let z : ◌≡◌ {A = ℕ} 0 1 = cc in omega arith

no_end : TokenKind.Eof ≡ TokenKind.String → ⊥
no_end e = let z : ◌≡◌ {A = ℕ} 0 1 = cc in omega arith

atom_kind : {P : Type 0} (l : List ℕ) (start at : ℕ) (p : Token) → p.kind ≡ TokenKind.String → core_atom_from start at l ≡ Ok p → P
unfolding core_atom_from
atom_kind [] start at p k = got_kind TokenKind.Atom start at p k no_atom
atom_kind {P} (b ∷ l) start at p k =
    atom_by (λ x. x ≡ Ok p → P) (core_class b) start at _ (got_kind TokenKind.Atom start at p k no_atom) (λ e. no_got e) (atom_kind l start (at + 1) p k)

-- A byte that opens a string is a quote.
quote_fourth : (l o c q a : Bool) → cond l CoreClass.Layout (cond o CoreClass.LParen (cond c CoreClass.RParen (cond q CoreClass.Quote (cond a CoreClass.Atom CoreClass.Refused)))) ≡ CoreClass.Quote → q ≡ true
quote_fourth true o c q a e = cc
quote_fourth false true c q a e = cc
quote_fourth false false true q a e = cc
quote_fourth false false false true a e = refl
quote_fourth false false false false true e = cc
quote_fourth false false false false false e = cc

quote_byte : (b : ℕ) → core_class b ≡ CoreClass.Quote → b ≡ 34
unfolding core_class
quote_byte b e = eqb-true b 34 (quote_fourth (layout_byte b) (eqb b 40) (eqb b 41) (eqb b 34) (within 0x21 0x7E b) e)

-- A string behind layout.
record Stands (at : ℕ) (l : List ℕ) (p : Token) : Type 0 where
  before : ℕ
  rest : List ℕ
  here : drop before l ≡ 34 ∷ rest
  closed_there : Closed false (at + before) (at + before + 1) rest p

token_stands : (l : List ℕ) (at : ℕ) (p : Token) → p.kind ≡ TokenKind.String → core_token_from at l ≡ Ok p → Stands at l p
unfolding core_token_from
token_stands [] at p k = got_kind TokenKind.Eof at at p k no_end
token_stands (b ∷ l) at p k =
    here_by (λ x. x ≡ Ok p → Stands at (b ∷ l) p) (core_class b) at _ _ _ (λ e. further (token_stands l (at + 1) p k e))
    (λ _. got_kind TokenKind.LParen at (at + 1) p k no_open) (got_kind TokenKind.RParen at (at + 1) p k no_close)
    (λ q e. here (quote_byte b q) (string_closed l nothing at (at + 1) p e)) (atom_kind l at (at + 1) p k) (λ e. no_got e)
  where
    further : Stands (at + 1) l p → Stands at (b ∷ l) p
    further w = record {
      before = suc w.before;
      rest = w.rest;
      here = w.here;
      closed_there = subst (λ (n : ℕ). Closed false n (n + 1) w.rest p) (let n : at + 1 + w.before ≡ at + suc w.before = omega arith in n) w.closed_there;
    }

    here : b ≡ 34 → Closed false at (at + 1) l p → Stands at (b ∷ l) p
    here q c = record {
      before = 0;
      rest = l;
      here = ap (λ (n : ℕ). n ∷ l) q;
      closed_there = subst (λ (n : ℕ). Closed false n (n + 1) l p) (sym (add-zero at)) c;
    }

one_spelling_token : (t : List ℕ) (at : ℕ) (p : Token) → next_core_token t at ≡ Ok p → p.kind ≡ TokenKind.String
    → let x = part t (p.start + 1) (p.end - 1 - (p.start + 1)) in written (says x) ≡ x
unfolding next_core_token
one_spelling_token t at p e k =
    let w = token_stands (drop at t) at p k e in
    let c = w.closed_there in
    let a = at + w.before in
    let d : drop a t ≡ 34 ∷ w.rest = sym (drop-drop w.before at t) ∙ w.here in
    let f : drop (a + 1) t ≡ c.bytes ++ (34 ∷ c.rest) = behind_one t a 34 w.rest d ∙ c.are in
    let g : part t (p.start + 1) (p.end - 1 - (p.start + 1)) ≡ c.bytes =
    ap (λ (n : ℕ). part t (n + 1) (p.end - 1 - (p.start + 1))) c.starts ∙ part_at t (a + 1) (p.end - 1 - (p.start + 1)) c.bytes (34 ∷ c.rest) f (omega (arith, c.starts, c.ends)) in
    subst (λ (x : List ℕ). written (says x) ≡ x) (sym g) (written_said false c.bytes c.spelling)

string_is : (k : TokenKind) → is_string k ≡ true → k ≡ TokenKind.String
string_is TokenKind.LParen e = absurd (false≢true e)
string_is TokenKind.RParen e = absurd (false≢true e)
string_is TokenKind.Atom e = absurd (false≢true e)
string_is TokenKind.String e = refl
string_is TokenKind.Eof e = absurd (false≢true e)

pub one_spelling : OneSpelling
unfolding string
one_spelling t p q x e =
    after_elim (read-token (next_core_token t) p) _ x q e (λ u p₁ f e₁.
    require_elim (is_string u.kind) _ p₁ _ x q e₁ (λ b e₂.
    subst (λ (y : Token). written (says (text t y)) ≡ text t y) (done_inj e₂).0
    (one_spelling_token t p.offset u (token_done (next_core_token t) p p₁ u f).takes (string_is u.kind b))))

-- So two strings are spelled alike exactly if they say the same.
pub same_spelling : SameSpelling
same_spelling t u p q p₁ q₁ x y e f = (ap says, λ h. sym (one_spelling t p q x e) ∙ ap written h ∙ one_spelling u p₁ q₁ y f)
