-- What is read stands behind the position where it was asked for and within the source, and keeps the count of rows.
use Rattle.expects.specs.Answers.{NameRead}
use Rattle.token.specs.declared.Class.{Class}
use Rattle.token.specs.Token.{Lexed}
use Rattle.std.specs.Prelude.{Ok, Err}
use Prim.Native.Nat.{ℕ, ◌+◌, ◌-◌, ◌≤◌, ◌<◌}
use mathlib.Core.Path.{◌≡◌, refl, sym, ◌∙◌, ap, subst}
use mathlib.Core.Bool.{Bool, true, false, not, false≢true}
use mathlib.Core.List.{List}
use native.Mathlib.Omega.{arith}
use lib.ListN.{length}
use Rattle.token.specs.declared.TokenKind.{TokenKind}
use Rattle.token.specs.declared.Token.{Token}
use Rattle.core_token.specs.CoreToken.{next_core_token}
use Rattle.core_token.proofs.Bounds as core
use Rattle.core_token.proofs.Ends.{string_here}
use Rattle.core_text.specs.TextReading.{string}
use Rattle.token.proofs.Bounds.{Within, SpanOf, Span}
use Rattle.words.specs.Words.{same_bytes, identifier, numeral}
use Rattle.terms.specs.Forms.{Edition}
use Rattle.surface.specs.Reader.{Position, done, Reader, after, ◌>>=◌, ◌>>◌, pure, require, at_token}
use Rattle.surface.specs.Reading.{lexed, token, opening, closing, atom, word, natural, name}
use Rattle.surface.specs.Text.{text, is_open, is_close, is_atom, is_string}
use Rattle.expects.specs.Expects.{position_at, Reads, name_read, Names}
use Rattle.expects.specs.Tokens.{TokenInside, LexedInside}
use Rattle.expects.specs.Lines.{tag}
use Rattle.expects.specs.declared.Format.{Format}
use Rattle.expects.specs.Formats.{edition, declared_name}
use Rattle.expects.proofs.Formats.{bounded}
use Rattle.expects.proofs.Gives.{Gives, given, gives_as, gives_after, gives_require}

-- A source, with the token at or behind each offset.
pub record Source : Type 0 where
  pub bytes : List ℕ
  pub next : ℕ → Lexed
  pub bounded : (at : ℕ) → Within at (length bytes) (next at)

-- A position behind p, within the source.
pub record Ahead (s : List ℕ) (p q : Position) : Type 0 where
  pub past : p.offset < q.offset
  pub high : q.offset ≤ length s
  pub rows : q.rows ≡ p.rows

-- A token that has bytes, at or behind p, and the position behind it.
pub record TokenAhead (s : List ℕ) (p : Position) (t : Token) (q : Position) : Type 0 where
  pub low : p.offset ≤ t.start
  pub some : t.start < t.end
  pub high : t.end ≤ length s
  pub next : q.offset ≡ t.end
  pub rows : q.rows ≡ p.rows

-- Any token, also the end token, and the position behind it.
pub record AnyToken (s : List ℕ) (p : Position) (t : Token) (q : Position) : Type 0 where
  pub span : SpanOf t.kind p.offset t.start t.end (length s)
  pub next : q.offset ≡ t.end
  pub rows : q.rows ≡ p.rows

pub has_bytes : (k : TokenKind) {lo a e hi : ℕ} → (k ≡ TokenKind.Eof → ⊥) → SpanOf k lo a e hi → Span lo a e hi
has_bytes TokenKind.LParen n w = w
has_bytes TokenKind.RParen n w = w
has_bytes TokenKind.Atom n w = w
has_bytes TokenKind.String n w = w
has_bytes TokenKind.Eof n w = absurd (n refl)

module _ (S : Source) (p : Position) where
  lexed_any : (x : Lexed) → Within p.offset (length S.bytes) x → Gives (AnyToken S.bytes p) (lexed p.rows x)
  lexed_any (Ok t) w = record { span = w; next = refl; rows = refl }
  lexed_any (Err r) w = tt

  pub token_any : Gives (AnyToken S.bytes p) (token S.next p)
  unfolding token
  token_any = lexed_any (S.next p.offset) (S.bounded p.offset)

  -- A token that is not the end token.
  pub not_end : (t : Token) (q : Position) → AnyToken S.bytes p t q → (t.kind ≡ TokenKind.Eof → ⊥) → TokenAhead S.bytes p t q
  not_end t q a n = let h = has_bytes t.kind n a.span in record { low = h.low; some = h.some; high = h.high; next = a.next; rows = a.rows }

  -- A token for whose kind a test holds that does not hold for the end.
  tested : (f : TokenKind → Bool) → f TokenKind.Eof ≡ false → Gives (TokenAhead S.bytes p) ((token S.next >>= (λ t. require (f t.kind) (at_token Class.Malformed t) >> pure t)) p)
  tested f n =
      gives_after (AnyToken S.bytes p) (TokenAhead S.bytes p) (token S.next p) _ token_any
      (λ t q a. gives_require (TokenAhead S.bytes p) (f t.kind) (at_token Class.Malformed t) (pure t) q (λ y. not_end t q a (λ i. false≢true (sym n ∙ ap f (sym i) ∙ y))))

  pub opening_ahead : Gives (TokenAhead S.bytes p) (opening S.next p)
  unfolding opening
  opening_ahead = tested is_open refl

  pub closing_ahead : Gives (TokenAhead S.bytes p) (closing S.next p)
  unfolding closing
  closing_ahead = tested is_close refl

  pub atom_ahead : Gives (TokenAhead S.bytes p) (atom S.next p)
  unfolding atom
  atom_ahead = tested is_atom refl

  -- An atom that passes a test.
  atom_tested : (f : Token → Bool) → Gives (TokenAhead S.bytes p) ((atom S.next >>= (λ t. require (f t) (at_token Class.Malformed t) >> pure t)) p)
  atom_tested f =
      gives_after (TokenAhead S.bytes p) (TokenAhead S.bytes p) (atom S.next p) _ atom_ahead (λ t q a. gives_require (TokenAhead S.bytes p) (f t) (at_token Class.Malformed t) (pure t) q (λ y. a))

  pub word_ahead : (w : List ℕ) → Gives (TokenAhead S.bytes p) (word S.next S.bytes w p)
  unfolding word
  word_ahead w = atom_tested (λ t. same_bytes (text S.bytes t) w)

  pub natural_ahead : Gives (TokenAhead S.bytes p) (natural S.next S.bytes p)
  unfolding natural
  natural_ahead = atom_tested (λ t. numeral (text S.bytes t))

-- The source of an edition.
abbrev pub source_of : (E : Edition) → ((s : List ℕ) (at : ℕ) → Within at (length s) (E.tokens s at)) → List ℕ → Source
source_of E b s = record { bytes = s; next = E.tokens s; bounded = b s }

-- The source of a format.
abbrev pub source : Format → List ℕ → Source
source f s = source_of (edition f) (bounded f) s

module _ (E : Edition) (b : (s : List ℕ) (at : ℕ) → Within at (length s) (E.tokens s at)) (s : List ℕ) (p : Position) where
  pub name_ahead : Gives (TokenAhead s p) (name E s p)
  unfolding name
  name_ahead =
      gives_after (TokenAhead s p) (TokenAhead s p) (atom (E.tokens s) p) _ (atom_ahead (source_of E b s) p)
      (λ t q a. gives_require (TokenAhead s p) (not (E.reserved (text s t))) (at_token Class.ReservedName t) (require (identifier (text s t)) (at_token Class.Malformed t) >> pure t) q
      (λ y. gives_require (TokenAhead s p) (identifier (text s t)) (at_token Class.Malformed t) (pure t) q (λ z. a)))

-- The same, of a token that was read.
module _ (S : Source) (p : Position) (t : Token) (q : Position) where
  pub behind : TokenAhead S.bytes p t q → Ahead S.bytes p q
  behind a = omega arith

  pub token_got : token S.next p ≡ done t q → (t.kind ≡ TokenKind.Eof → ⊥) → TokenAhead S.bytes p t q
  token_got e n = not_end S p t q (given (AnyToken S.bytes p) (token_any S p) e) n

  pub opening_got : opening S.next p ≡ done t q → TokenAhead S.bytes p t q
  opening_got e = given (TokenAhead S.bytes p) (opening_ahead S p) e

  pub closing_got : closing S.next p ≡ done t q → TokenAhead S.bytes p t q
  closing_got e = given (TokenAhead S.bytes p) (closing_ahead S p) e

  pub atom_got : atom S.next p ≡ done t q → TokenAhead S.bytes p t q
  atom_got e = given (TokenAhead S.bytes p) (atom_ahead S p) e

pub inside : (s : List ℕ) (p : Position) (t : Token) (q : Position) → TokenAhead s p t q → TokenInside (length s) t
inside s p t q a = record { order = omega arith; high = a.high }

-- The token that stands next, unless it is the end token.
module _ (S : Source) (at : ℕ) (t : Token) (e : S.next at ≡ Ok t) (not-eof : t.kind ≡ TokenKind.Eof → ⊥) where
  pub next_ahead : (n : ℕ) → TokenAhead S.bytes (position_at at n) t (position_at t.end n)
  unfolding token
  next_ahead n = token_got S (position_at at n) t (position_at t.end n) (ap (lexed n) e) not-eof

  pub next_inside : TokenInside (length S.bytes) t
  next_inside = inside S.bytes (position_at at 0) t (position_at t.end 0) (next_ahead 0)

-- What a function gives for a reader R that gives tokens ahead.
module _ (s : List ℕ) (R : Reader Token) (g : (p : Position) → Gives (TokenAhead s p) (R p)) (at : ℕ) (x : Lexed) (h : Reads R at x) where
  pub read_ahead : (t : Token) → x ≡ Ok t → (n : ℕ) → TokenAhead s (position_at at n) t (position_at t.end n)
  read_ahead t e n = let p = position_at at n in given (TokenAhead s p) (g p) (h n ∙ ap (lexed n) e)

  pub read_inside : LexedInside (length s) x
  read_inside = by x refl
    where
      by : (y : Lexed) → x ≡ y → LexedInside (length s) y
      by (Ok t) e = inside s (position_at at 0) t _ (read_ahead t e 0)
      by (Err r) e = tt

pub inside_got : (hi : ℕ) (x : Lexed) (t : Token) → LexedInside hi x → x ≡ Ok t → TokenInside hi t
inside_got hi x t i e = subst (LexedInside hi) e i

-- The parenthesis and the word that a line begins with.
pub tag_ahead : (S : Source) (w : List ℕ) (p : Position) → Gives (λ t q. (t.end ≤ length S.bytes) × Ahead S.bytes p q) (tag S.next S.bytes w p)
unfolding tag
tag_ahead S w p =
    let s = S.bytes in
    gives_after (TokenAhead s p) (λ t q. (t.end ≤ length s) × Ahead s p q) (opening S.next p) _ (opening_ahead S p)
    (λ o q a. gives_as (TokenAhead s q) (λ t r. (t.end ≤ length s) × Ahead s p r) (word S.next s w q) (word_ahead S q w)
    (λ t r b. (b.high, omega arith)))

module _ (f : Format) (s : List ℕ) (at : ℕ) (x : Lexed) where
  pub atom_inside : Reads (atom ((edition f).tokens s)) at x → (t : Token) → x ≡ Ok t → TokenInside (length s) t
  atom_inside h t e = inside_got (length s) x t (read_inside s (atom ((edition f).tokens s)) (atom_ahead (source f s)) at x h) e

  pub natural_inside : Reads (natural ((edition f).tokens s) s) at x → LexedInside (length s) x
  natural_inside = read_inside s (natural ((edition f).tokens s) s) (natural_ahead (source f s)) at x

  pub name_inside : Reads (name (edition f) s) at x → LexedInside (length s) x
  name_inside = read_inside s (name (edition f) s) (name_ahead (edition f) (bounded f) s) at x

-- A declaration's name behind p, and the position where reading goes on.
pub record NameAhead (s : List ℕ) (p : Position) (t : Token) (q : Position) : Type 0 where
  pub low : p.offset ≤ t.start
  pub order : t.start ≤ t.end
  pub inside : t.end ≤ q.offset
  pub ahead : Ahead s p q

-- A string, of which the bytes between the quotes are kept.
module _ (s : List ℕ) (p : Position) where
  string_is : (k : TokenKind) → is_string k ≡ true → k ≡ TokenKind.String
  string_is TokenKind.LParen e = absurd (false≢true e)
  string_is TokenKind.RParen e = absurd (false≢true e)
  string_is TokenKind.Atom e = absurd (false≢true e)
  string_is TokenKind.String e = refl
  string_is TokenKind.Eof e = absurd (false≢true e)

  string_by : (x : Lexed) → next_core_token s p.offset ≡ x
      → Gives (NameAhead s p) (after (lexed p.rows x) (λ t. require (is_string t.kind) (at_token Class.Malformed t) >> pure (record { kind = TokenKind.String; start = t.start + 1; end = t.end - 1 })))
  string_by (Err r) e = tt
  string_by (Ok t) e =
      gives_require (NameAhead s p) (is_string t.kind) (at_token Class.Malformed t) (pure (record { kind = TokenKind.String; start = t.start + 1; end = t.end - 1 })) (position_at t.end p.rows)
      (λ b.
      let k = string_is t.kind b in
      let q = string_here s p.offset t e k in
      let w = has_bytes t.kind (λ i. let z : ◌≡◌ {A = ℕ} 0 1 = cc in omega arith) (subst (Within p.offset (length s)) e (core.bounds s p.offset)) in
      record { low = omega (arith, w.low); order = omega (arith, q.some); inside = omega arith; ahead = record { past = omega (arith, w.low, w.some); high = w.high; rows = refl } })

identifier_ahead : (f : Format) (s : List ℕ) (p : Position) → Gives (NameAhead s p) (name (edition f) s p)
identifier_ahead f s p =
    gives_as (TokenAhead s p) (NameAhead s p) (name (edition f) s p) (name_ahead (edition f) (bounded f) s p)
    (λ t q a. record { low = a.low; order = omega arith; inside = omega arith; ahead = omega arith })

pub declared_ahead : (f : Format) (s : List ℕ) (p : Position) → Gives (NameAhead s p) (declared_name f s p)
unfolding string token
declared_ahead Format.Core01 s p = string_by s p (next_core_token s p.offset) refl
declared_ahead Format.Surface01 s p = identifier_ahead Format.Surface01 s p
declared_ahead Format.Surface02 s p = identifier_ahead Format.Surface02 s p

-- The same, of what `parse_name` gives.
pub names_got : (f : Format) (s : List ℕ) (at : ℕ) (r : NameRead) → Names f s at r → (t : Token) (next : ℕ) → r ≡ Ok (t, next) → (n : ℕ)
    → NameAhead s (position_at at n) t (position_at next n)
names_got f s at r h t next e n = let p = position_at at n in given (NameAhead s p) (declared_ahead f s p) (h n ∙ ap (name_read n) e)
