-- The bytes of tokens, as the readers take them: each token but the end has bytes of its own, and two atoms stand apart.
use Rattle.token.specs.declared.Class.{Class}
use Rattle.std.specs.Prelude.{Ok, Err}
use mathlib.Core.Path.{◌≡◌, refl, sym, ap, ◌∙◌}
use mathlib.Core.Bool.{Bool, true, false, not, false≢true}
use mathlib.Core.List.{List}
use Prim.Native.Nat.{ℕ, ◌+◌, ◌-◌, ◌≤◌, ◌<◌, min}
use native.Mathlib.Omega.{arith}
use lib.ListN.{length, drop, length-take}
use Rattle.token.specs.Token.{next_token, Lexed}
use Rattle.token.specs.declared.TokenKind.{TokenKind}
use Rattle.token.specs.declared.Token.{Token}
use Rattle.token.proofs.Outcomes.{every_token}
use Rattle.token.proofs.Bounds.{Within, SpanOf, bounds}
use Rattle.token.proofs.Apart.{atoms_apart}
use Rattle.words.specs.Words.{same_bytes, identifier, numeral}
use Rattle.words.proofs.Names.{same_eq}
use Rattle.terms.specs.Forms.{Edition}
use Rattle.surface.specs.Text.{text, is_open, is_close, is_atom}
use Rattle.surface.specs.Reader.{Position, ◌>>=◌, ◌>>◌, pure, require, at_token}
use Rattle.surface.specs.Reading.{lexed, token, opening, closing, atom, word, natural, name}
use Rattle.surface.proofs.Steps.{atom_is}
use Rattle.surface.proofs.TokenSizes.{span_of}
use Rattle.least_storage.proofs.FromSource.{from_source, Comes, comes_after, comes_require}

-- A refusal of the token function comes from the source.
abbrev pub Lexes : Lexed → Type 0
Lexes (Ok t) = Unit {0}
Lexes (Err r) = from_source r.class ≡ true

-- What is asked of the tokens of a source that has so many bytes.
pub record Spread (next : ℕ → Lexed) (hi : ℕ) : Type 0 where
  pub within : (at : ℕ) → Within at hi (next at)
  pub lexes : (at : ℕ) → Lexes (next at)
  pub apart : (at : ℕ) (t u : Token) → next at ≡ Ok t → t.kind ≡ TokenKind.Atom → next t.end ≡ Ok u → u.kind ≡ TokenKind.Atom → t.end < u.start

pub spread : (s : List ℕ) → Spread (next_token s) (length s)
spread s = record {
  within = bounds s;
  lexes = every_token Lexes (λ a e. tt) (λ a e. tt) (λ a e. tt) (λ a e. tt) (λ p. refl) s;
  apart = atoms_apart s;
}

-- A token that has bytes, at or behind p, and the position behind it.
pub record Ahead (hi : ℕ) (p : Position) (t : Token) (q : Position) : Type 0 where
  pub low : p.offset ≤ t.start
  pub some : t.start < t.end
  pub high : t.end ≤ hi
  pub end : q.offset ≡ t.end
  pub rows : q.rows ≡ p.rows

-- A token's text has as many bytes as the token.
pub text_bytes : (s w : List ℕ) (t : Token) → text s t ≡ w → t.start ≤ t.end → t.start + length w ≤ t.end
text_bytes s w t e h =
    let m : length (text s t) ≡ min (t.end - t.start) (length (drop t.start s)) = length-take (t.end - t.start) (drop t.start s) in
    let n : length (text s t) ≡ length w = ap length e in
    omega arith

module _ (next : ℕ → Lexed) where
  -- No atom stands at an offset: one that is found there starts later.
  abbrev pub Gap : ℕ → Type 0
  Gap at = (u : Token) → next at ≡ Ok u → u.kind ≡ TokenKind.Atom → at < u.start

  -- An atom.
  pub record AtomAhead (hi : ℕ) (p : Position) (t : Token) (q : Position) : Type 0 where
    pub ahead : Ahead hi p t q
    pub later : Gap p.offset → p.offset < t.start
    pub gap : Gap q.offset

module _ (next : ℕ → Lexed) (hi : ℕ) (S : Spread next hi) (p : Position) where
  -- Any token, also the end.
  pub record Taken (t : Token) (q : Position) : Type 0 where
    pub takes : next p.offset ≡ Ok t
    pub span : SpanOf t.kind p.offset t.start t.end hi
    pub end : q.offset ≡ t.end
    pub rows : q.rows ≡ p.rows

  lexed_taken : (x : Lexed) → next p.offset ≡ x → Within p.offset hi x → Lexes x → Comes Taken (lexed p.rows x)
  lexed_taken (Ok t) e w l = record { takes = e; span = w; end = refl; rows = refl }
  lexed_taken (Err r) e w l = l

  pub token_taken : Comes Taken (token next p)
  unfolding token
  token_taken = lexed_taken (next p.offset) refl (S.within p.offset) (S.lexes p.offset)

  pub taken_ahead : (t : Token) (q : Position) → Taken t q → ¬ (t.kind ≡ TokenKind.Eof) → Ahead hi p t q
  taken_ahead t q a n =
      let h = span_of t.kind p.offset t.start t.end hi a.span n in
      record { low = h.low; some = h.some; high = h.high; end = a.end; rows = a.rows }

  -- A token for whose kind a test holds that does not hold for the end.
  tested : (f : TokenKind → Bool) → f TokenKind.Eof ≡ false → Comes (Ahead hi p) ((token next >>= (λ t. require (f t.kind) (at_token Class.Malformed t) >> pure t)) p)
  tested f n =
      comes_after Taken (Ahead hi p) (token next p) _ token_taken
      (λ t q a. comes_require (Ahead hi p) (f t.kind) (at_token Class.Malformed t) (pure t) q refl (λ y. taken_ahead t q a (λ i. false≢true (sym n ∙ ap f (sym i) ∙ y))))

  pub opening_ahead : Comes (Ahead hi p) (opening next p)
  unfolding opening
  opening_ahead = tested is_open refl

  pub closing_ahead : Comes (Ahead hi p) (closing next p)
  unfolding closing
  closing_ahead = tested is_close refl

  pub taken_atom : (t : Token) (q : Position) → Taken t q → t.kind ≡ TokenKind.Atom → AtomAhead next hi p t q
  taken_atom t q a k = record {
    ahead = taken_ahead t q a (λ i. let z : ◌≡◌ {A = ℕ} 0 1 = cc in omega arith);
    later = λ g. g t a.takes k;
    gap = λ u e b. let f = a.end in let h : t.end < u.start = S.apart p.offset t u a.takes k (ap next (sym f) ∙ e) b in omega arith;
  }

  pub atom_ahead : Comes (AtomAhead next hi p) (atom next p)
  unfolding atom
  atom_ahead =
      comes_after Taken (AtomAhead next hi p) (token next p) _ token_taken
      (λ t q a. comes_require (AtomAhead next hi p) (is_atom t.kind) (at_token Class.Malformed t) (pure t) q refl (λ y. taken_atom t q a (atom_is t.kind y)))

  module _ (s : List ℕ) where
    pub word_ahead : (w : List ℕ) → Comes (λ t q. AtomAhead next hi p t q × (t.start + length w ≤ t.end)) (word next s w p)
    unfolding word
    word_ahead w =
        comes_after (AtomAhead next hi p) (λ t q. AtomAhead next hi p t q × (t.start + length w ≤ t.end)) (atom next p) _ atom_ahead
        (λ t q a. comes_require (λ t q. AtomAhead next hi p t q × (t.start + length w ≤ t.end)) (same_bytes (text s t) w) (at_token Class.Malformed t) (pure t) q refl
        (λ y. (a, text_bytes s w t (same_eq _ _ y) (omega (arith, a.ahead.some)))))

    pub natural_ahead : Comes (AtomAhead next hi p) (natural next s p)
    unfolding natural
    natural_ahead =
        comes_after (AtomAhead next hi p) (AtomAhead next hi p) (atom next p) _ atom_ahead
        (λ t q a. comes_require (AtomAhead next hi p) (numeral (text s t)) (at_token Class.Malformed t) (pure t) q refl (λ y. a))

module _ (E : Edition) (s : List ℕ) (S : Spread (E.tokens s) (length s)) (p : Position) where
  pub name_ahead : Comes (AtomAhead (E.tokens s) (length s) p) (name E s p)
  unfolding name
  name_ahead =
      let A = AtomAhead (E.tokens s) (length s) p in
      comes_after A A (atom (E.tokens s) p) _ (atom_ahead (E.tokens s) (length s) S p)
      (λ t q a. comes_require A (not (E.reserved (text s t))) (at_token Class.ReservedName t) (require (identifier (text s t)) (at_token Class.Malformed t) >> pure t) q refl
      (λ y. comes_require A (identifier (text s t)) (at_token Class.Malformed t) (pure t) q refl (λ z. a)))
