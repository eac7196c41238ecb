-- What the readers of one token give, by the token that stands next.
use Rattle.token.specs.declared.Class.{Class}
use Rattle.std.specs.Prelude.{Ok, Err}
use Prim.Native.Nat.{ℕ, ◌+◌, ◌<◌}
use mathlib.Core.Path.{◌≡◌, refl, sym, ◌∙◌, ap}
use mathlib.Core.Bool.{Bool, true, false, not, cond}
use mathlib.Core.List.{List}
use native.Mathlib.Omega.{arith}
use lib.Dec.{eqb}
use lib.ListN.{length, get_or, drop}
use borrow.Author.Tests.{eq-eqb, ne_eqb}
use Rattle.token.specs.Token as token·
use Rattle.token.specs.Token.{byte_class, next_token, Lexed}
use Rattle.token.specs.declared.ByteClass.{ByteClass}
use Rattle.token.proofs.Runs.{layout_blank, layout_stop, here_open, here_close, next_at}
use Rattle.token.specs.declared.TokenKind.{TokenKind}
use Rattle.token.specs.declared.Token.{Token}
use Rattle.token.specs.declared.Refusal.{Refusal}
use Rattle.words.specs.Words.{same_bytes, identifier, numeral}
use Rattle.words.specs.declared.NameTest.{NameTest}
use Rattle.terms.specs.Forms.{Edition}
use Rattle.surface.specs.Reader.{Position, Result, done, refused, Reader, after, ◌>>◌, pure, refuse, require, at_token}
use Rattle.surface.specs.Reading.{token, opening, closing, atom, word, natural, name}
use Rattle.surface.specs.Text.{text, is_open, is_close, is_atom, is_end}
use Rattle.core_text.specs.TextReading.{end_token}
use Rattle.expects.specs.Formats.{tested_name}
use Rattle.expects.specs.Expects.{position_at, Reads}
use Rattle.expects.specs.Tokens.{kind_number, of_kind}

-- A parenthesis at its place is the next token.
module _ (s : List ℕ) (at : ℕ) (h : at < length s) where
  pub open_here : get_or s at 0 ≡ 40 → token·.token TokenKind.LParen at (at + 1) ≡ next_token s at
  unfolding byte_class
  open_here e =
      let k : byte_class (get_or s at 0) ≡ ByteClass.LParen = ap byte_class e in
      sym (next_at s at at (sym (layout_stop s at h ByteClass.LParen k (λ q. let z : ◌≡◌ {A = ℕ} 0 1 = cc in omega arith) (λ q. let z : ◌≡◌ {A = ℕ} 0 1 = cc in omega arith)))
      ∙ here_open s at h k)

  pub close_here : get_or s at 0 ≡ 41 → token·.token TokenKind.RParen at (at + 1) ≡ next_token s at
  unfolding byte_class
  close_here e =
      let k : byte_class (get_or s at 0) ≡ ByteClass.RParen = ap byte_class e in
      sym (next_at s at at (sym (layout_stop s at h ByteClass.RParen k (λ q. let z : ◌≡◌ {A = ℕ} 0 1 = cc in omega arith) (λ q. let z : ◌≡◌ {A = ℕ} 0 1 = cc in omega arith)))
      ∙ here_close s at h k)

  pub space_here : get_or s at 0 ≡ 32 → next_token s (at + 1) ≡ next_token s at
  unfolding byte_class next_token
  space_here e =
      let q = sym (layout_blank s at h (ap byte_class e)) in
      λ i. token·.token_here (q i) (drop (q i) s)

-- The kind of a number.
abbrev kind_of : ℕ → TokenKind
kind_of n = cond (eqb n 0) TokenKind.LParen (cond (eqb n 1) TokenKind.RParen (cond (eqb n 2) TokenKind.Atom (cond (eqb n 3) TokenKind.Eof TokenKind.String)))

known : (k : TokenKind) → kind_of (kind_number k) ≡ k
known TokenKind.LParen = refl
known TokenKind.RParen = refl
known TokenKind.Atom = refl
known TokenKind.String = refl
known TokenKind.Eof = refl

-- A kind is known by its number.
pub kind_number_inj : (a b : TokenKind) → kind_number a ≡ kind_number b → a ≡ b
kind_number_inj a b e = sym (known a) ∙ ap kind_of e ∙ known b

-- A token of a wanted kind, where x stands next.
module _ (next : ℕ → Lexed) (wanted : TokenKind) (at : ℕ) (x : Lexed) (h : x ≡ next at) where
  pub kind_refused : (r : Refusal) → x ≡ Err r → Reads (of_kind next wanted) at (Err r)
  unfolding of_kind token
  kind_refused r e = λ n. rw (sym h ∙ e)

  module _ (t : Token) (e : x ≡ Ok t) where
    pub kind_got : kind_number t.kind ≡ kind_number wanted → Reads (of_kind next wanted) at (Ok t)
    unfolding of_kind token
    kind_got k = λ n. rw (sym h ∙ e, eq-eqb _ _ k)

    pub kind_not : (kind_number t.kind ≡ kind_number wanted → ⊥) → (r : Refusal) → r ≡ at_token Class.Malformed t → Reads (of_kind next wanted) at (Err r)
    unfolding of_kind token
    kind_not k r i = λ n. rw (sym h ∙ e, ne_eqb _ _ k, i)

-- The readers of a token whose kind passes a test f: it holds for the wanted kind alone.
module _ (f : TokenKind → Bool) (wanted : TokenKind) where
  is_wanted : TokenKind → Bool
  is_wanted k = eqb (kind_number k) (kind_number wanted)

  module _ (l : f TokenKind.LParen ≡ is_wanted TokenKind.LParen) (r : f TokenKind.RParen ≡ is_wanted TokenKind.RParen)
      (a : f TokenKind.Atom ≡ is_wanted TokenKind.Atom) (t : f TokenKind.String ≡ is_wanted TokenKind.String) (e : f TokenKind.Eof ≡ is_wanted TokenKind.Eof) where
    same_test : (k : TokenKind) → f k ≡ is_wanted k
    same_test TokenKind.LParen = l
    same_test TokenKind.RParen = r
    same_test TokenKind.Atom = a
    same_test TokenKind.String = t
    same_test TokenKind.Eof = e

    same_token : (x : Result Token) → after x (λ t. require (f t.kind) (at_token Class.Malformed t) >> pure t) ≡ after x (λ t. require (is_wanted t.kind) (at_token Class.Malformed t) >> pure t)
    same_token (done t q) = rw (same_test t.kind)
    same_token (refused r) = refl

module _ (next : ℕ → Lexed) (p : Position) where
  pub opening_kind : opening next p ≡ of_kind next TokenKind.LParen p
  unfolding opening of_kind is_wanted
  opening_kind = same_token is_open TokenKind.LParen refl refl refl refl refl (token next p)

  pub closing_kind : closing next p ≡ of_kind next TokenKind.RParen p
  unfolding closing of_kind is_wanted
  closing_kind = same_token is_close TokenKind.RParen refl refl refl refl refl (token next p)

  pub end_kind : end_token next p ≡ of_kind next TokenKind.Eof p
  unfolding end_token of_kind is_wanted
  end_kind = same_token is_end TokenKind.Eof refl refl refl refl refl (token next p)

  pub atom_kind : atom next p ≡ of_kind next TokenKind.Atom p
  unfolding atom of_kind is_wanted
  atom_kind = same_token is_atom TokenKind.Atom refl refl refl refl refl (token next p)

-- What the test of a name gives.
abbrev pub by_test : Token → NameTest → Reader Token
by_test t NameTest.Name = pure t
by_test t NameTest.Reserved = refuse (at_token Class.ReservedName t)
by_test t NameTest.NotIdentifier = refuse (at_token Class.Malformed t)

test_order : (a b : Bool) (t : Token) (v : NameTest) (p : Position) → cond a NameTest.Reserved (cond b NameTest.Name NameTest.NotIdentifier) ≡ v
    → (require (not a) (at_token Class.ReservedName t) >> (require b (at_token Class.Malformed t) >> pure t)) p ≡ by_test t v p
test_order true b t v p e = ap (λ u. by_test t u p) e
test_order false true t v p e = ap (λ u. by_test t u p) e
test_order false false t v p e = ap (λ u. by_test t u p) e

-- An atom that is tested, where x is read for an atom.
module _ (next : ℕ → Lexed) (s : List ℕ) (at : ℕ) (x : Lexed) (h : Reads (atom next) at x) where
  module _ (r : Refusal) (e : x ≡ Err r) where
    pub word_refused : (w : List ℕ) → Reads (word next s w) at (Err r)
    unfolding word
    word_refused w = λ n. rw (h n, e)

    pub natural_refused : Reads (natural next s) at (Err r)
    unfolding natural
    natural_refused = λ n. rw (h n, e)

  module _ (t : Token) (e : x ≡ Ok t) where
    pub word_got : (w : List ℕ) → same_bytes (text s t) w ≡ true → Reads (word next s w) at (Ok t)
    unfolding word
    word_got w q = λ n. rw (h n, e, q)

    pub natural_got : numeral (text s t) ≡ true → Reads (natural next s) at (Ok t)
    unfolding natural
    natural_got q = λ n. rw (h n, e, q)

    module _ (r : Refusal) where
      pub word_not : r ≡ at_token Class.Malformed t → (w : List ℕ) → same_bytes (text s t) w ≡ false → Reads (word next s w) at (Err r)
      unfolding word
      word_not i w q = λ n. rw (h n, e, q, i)

      pub natural_not : r ≡ at_token Class.Malformed t → numeral (text s t) ≡ false → Reads (natural next s) at (Err r)
      unfolding natural
      natural_not i q = λ n. rw (h n, e, q, i)

-- The same with the reserved words of an edition.
module _ (E : Edition) (s : List ℕ) (at : ℕ) (x : Lexed) (h : Reads (atom (E.tokens s)) at x) where
  pub name_refused : (r : Refusal) → x ≡ Err r → Reads (name E s) at (Err r)
  unfolding name
  name_refused r e = λ n. rw (h n, e)

  -- The name by the name test, in the test's order.
  pub name_tested : (t : Token) → x ≡ Ok t → (v : NameTest) → tested_name E (text s t) ≡ v → (n : ℕ) → name E s (position_at at n) ≡ by_test t v (position_at t.end n)
  unfolding name
  name_tested t e v q = λ n. rw (h n, e) (test_order (E.reserved (text s t)) (identifier (text s t)) t v (position_at t.end n) q)
