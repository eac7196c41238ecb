-- What a term begins with, and the bytes of it: a leaf has three and more, and a form two and more before its arguments.
use Rattle.token.specs.Token.{Lexed}
use mathlib.Core.Path.{◌≡◌, refl, sym, subst}
use mathlib.Core.Bool.{true}
use mathlib.Core.List.{List}
use mathlib.Core.Option.{Option, none, some}
use Prim.Native.Nat.{ℕ, ◌+◌, ◌≤◌, ◌<◌}
use native.Mathlib.Omega.{arith}
use lib.Dec.{leb}
use lib.ListN.{length}
use borrow.Author.Tests.{leb-true}
use Rattle.token.specs.declared.TokenKind.{TokenKind}
use Rattle.token.specs.declared.Token.{Token}
use Rattle.terms.specs.Forms.{Shape, alone, with_name, with_numeral, binding, plain, Form, Edition, form_of_word}
use Rattle.terms.proofs.FormTable.{every, of_word, word_is}
use Rattle.surface.specs.Text.{text}
use Rattle.surface.specs.Reader.{Position, Reader}
use Rattle.surface.specs.Reading.{Beginning, leaf, frame, token, closing, atom, natural, name, bare, tagged, known, beginning_on, beginning}
use Rattle.surface.proofs.Editions.{fine_as, fine, Conditions}
use Rattle.least_storage.proofs.FromSource.{Comes, comes_after}
use Rattle.least_storage.proofs.TokenBytes.{Spread, spread, Ahead, text_bytes, Gap, AtomAhead, Taken, token_taken, taken_ahead, taken_atom, atom_ahead, closing_ahead, natural_ahead, name_ahead}

-- What is asked of an edition.
pub record Fine (E : Edition) : Type 0 where
  pub tokens : (s : List ℕ) → Spread (E.tokens s) (length s)
  pub forms : every fine E.forms ≡ true

pub fine_of : {E : Edition} → Conditions E → Fine E
fine_of c = record { tokens = λ s. subst (λ (T : List ℕ → ℕ → Lexed). Spread (T s) (length s)) (sym c.tokens) (spread s); forms = c.fine }

-- The beginning of a term, from p to q. A leaf has a byte more where no atom stands; a form has with its n arguments, each of which has three
-- bytes, and its closing parenthesis four bytes at least.
pub record Leaf (hi : ℕ) (gap : Type 0) (p q : Position) : Type 0 where
  pub bytes : p.offset + 3 ≤ q.offset
  pub more : gap → p.offset + 4 ≤ q.offset
  pub high : q.offset ≤ hi
  pub rows : q.rows ≡ p.rows

pub record Frame (hi n : ℕ) (p q : Position) : Type 0 where
  pub bytes : p.offset + 2 ≤ q.offset
  pub more : p.offset + 3 ≤ q.offset + n
  pub high : q.offset ≤ hi
  pub rows : q.rows ≡ p.rows

abbrev pub Begun : (hi : ℕ) (gap : Type 0) (p : Position) → Beginning → Position → Type 0
Begun hi gap p (leaf l) q = Leaf hi gap p q
Begun hi gap p (frame l n) q = Frame hi n p q

module _ (E : Edition) (F : Fine E) (s : List ℕ) where
  abbrev hi : ℕ
  hi = length s

  abbrev next : ℕ → Lexed
  next = E.tokens s

  abbrev Starts : Position → Beginning → Position → Type 0
  Starts p = Begun hi (Gap next p.offset) p

  known_comes : (p q : Position) (t : Token) (k : Form → Reader Beginning) (o : Option Form)
      → ((f : Form) → o ≡ some f → Comes (Starts p) (k f q)) → Comes (Starts p) (known E s k t o q)
  unfolding known
  known_comes p q t k none h = refl
  known_comes p q t k (some f) h = h f refl

  -- A word without a parenthesis.
  bare_comes : (p q : Position) (t : Token) (f : Form) (c : Shape) → f.shape ≡ c → form_of_word (text s t) E.forms ≡ some f
      → AtomAhead next hi p t q → Comes (Starts p) (bare E s t f c q)
  unfolding bare
  bare_comes p q t f alone c e a =
      let b : leb 3 (length f.word) ≡ true = subst (λ (x : Shape). fine_as x f ≡ true) c (of_word fine (text s t) E.forms f F.forms e) in
      let n : 3 ≤ length f.word = leb-true 3 (length f.word) b in
      let m : t.start + length f.word ≤ t.end = text_bytes s f.word t (word_is (text s t) E.forms f e) (omega (arith, a.ahead.some)) in
      let h = a.ahead in
      record { bytes = omega arith; more = λ g. let i : p.offset < t.start = a.later g in omega arith; high = omega arith; rows = h.rows }
  bare_comes p q t f with_name c e a = refl
  bare_comes p q t f with_numeral c e a = refl
  bare_comes p q t f binding c e a = refl
  bare_comes p q t f plain c e a = refl

  -- A word behind the parenthesis, from p on.
  tagged_comes : (p q : Position) (o t : Token) (f : Form) (c : Shape) → f.shape ≡ c → form_of_word (text s t) E.forms ≡ some f
      → p.offset + 2 ≤ q.offset → q.offset ≤ hi → q.rows ≡ p.rows → Comes (Starts p) (tagged E s o t f c q)
  unfolding tagged
  tagged_comes p q o t f alone c e b h r = refl
  tagged_comes p q o t f with_name c e b h r =
      comes_after (AtomAhead next hi q) (Starts p) (name E s q) _ (name_ahead E s (F.tokens s) q)
      (λ x q₁ a. comes_after (Ahead hi q₁) (Starts p) (closing next q₁) _ (closing_ahead next hi (F.tokens s) q₁)
      (λ c q₂ d. let w = a.ahead in record { bytes = omega arith; more = λ g. omega arith; high = omega arith; rows = omega arith }))
  tagged_comes p q o t f with_numeral c e b h r =
      comes_after (AtomAhead next hi q) (Starts p) (natural next s q) _ (natural_ahead next hi (F.tokens s) q s)
      (λ x q₁ a. comes_after (Ahead hi q₁) (Starts p) (closing next q₁) _ (closing_ahead next hi (F.tokens s) q₁)
      (λ c q₂ d. let w = a.ahead in record { bytes = omega arith; more = λ g. omega arith; high = omega arith; rows = omega arith }))
  tagged_comes p q o t f binding c e b h r =
      comes_after (AtomAhead next hi q) (Starts p) (name E s q) _ (name_ahead E s (F.tokens s) q)
      (λ x q₁ a. let w = a.ahead in record { bytes = omega arith; more = omega arith; high = omega arith; rows = omega arith })
  tagged_comes p q o t f plain c e b h r =
      let y : leb 1 f.arity ≡ true = subst (λ (x : Shape). fine_as x f ≡ true) c (of_word fine (text s t) E.forms f F.forms e) in
      let n : 1 ≤ f.arity = leb-true 1 f.arity y in
      record { bytes = b; more = omega arith; high = h; rows = r }

  on_comes : (p q : Position) (t : Token) (k : TokenKind) → t.kind ≡ k → Taken next hi (F.tokens s) p t q → Comes (Starts p) (beginning_on E s t k q)
  unfolding beginning_on
  on_comes p q t TokenKind.LParen k a =
      let o = taken_ahead next hi (F.tokens s) p t q a (λ i. let z : ◌≡◌ {A = ℕ} 0 1 = cc in omega arith) in
      comes_after (AtomAhead next hi q) (Starts p) (atom next q) _ (atom_ahead next hi (F.tokens s) q)
      (λ w q₁ b. let v = b.ahead in
      known_comes p q₁ w _ (form_of_word (text s w) E.forms) (λ f e. tagged_comes p q₁ t w f f.shape refl e (omega arith) (omega arith) (omega arith)))
  on_comes p q t TokenKind.RParen k a = refl
  on_comes p q t TokenKind.Atom k a =
      known_comes p q t _ (form_of_word (text s t) E.forms) (λ f e. bare_comes p q t f f.shape refl e (taken_atom next hi (F.tokens s) p t q a k))
  on_comes p q t TokenKind.String k a = refl
  on_comes p q t TokenKind.Eof k a = refl

  pub beginning_comes : (p : Position) → Comes (Begun (length s) (Gap (E.tokens s) p.offset) p) (beginning E s p)
  unfolding beginning
  beginning_comes p =
      comes_after (Taken next hi (F.tokens s) p) (Starts p) (token next p) _ (token_taken next hi (F.tokens s) p)
      (λ t q a. on_comes p q t t.kind refl a)
