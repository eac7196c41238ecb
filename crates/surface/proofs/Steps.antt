-- What a step of the reader that succeeds has met.
use Rattle.token.specs.Token.{Lexed}
use Rattle.std.specs.Prelude.{Ok, Err}
use mathlib.Core.Path.{◌≡◌, refl, sym, ap, ◌∙◌, subst}
use mathlib.Core.List.{List, ◌∷◌}
use mathlib.Core.Bool.{Bool, true, false, not, false≢true}
use Prim.Native.Nat.{ℕ}
use native.Mathlib.Omega.{arith}
use borrow.Author.Tests.{not-true}
use Rattle.token.specs.declared.TokenKind.{TokenKind}
use Rattle.token.specs.declared.Token.{Token}
use Rattle.token.specs.declared.Refusal.{Refusal}
use Rattle.words.specs.Words.{same_bytes, identifier, numeral}
use Rattle.words.proofs.Names.{same_eq}
use Rattle.terms.specs.Forms.{Edition}
use Rattle.surface.specs.Text.{text, is_open, is_close, is_atom}
use Rattle.surface.specs.Grammar.{Tokens, the_next, Opens, Closes, Word, Numeral, Name}
use Rattle.surface.specs.Reader.{Position, Result, done, refused, Reader, after, require}
use Rattle.surface.specs.Reading.{lexed, token, opening, closing, atom, word, natural, name}

pub no_done : {A P : Type 0} {r : Refusal} {a : A} {p : Position} → refused r ≡ done a p → P
no_done e = let z : ◌≡◌ {A = ℕ} 0 1 = cc in absurd (omega arith)

-- What a step and those behind it went through.
pub after_elim : {A B P : Type 0} (x : Result A) (k : A → Reader B) (b : B) (q : Position) → after x k ≡ done b q → ((a : A) (p : Position) → x ≡ done a p → k a p ≡ done b q → P) → P
after_elim (done a p) k b q e h = h a p refl e
after_elim (refused r) k b q e h = no_done e

pub require_elim : {B P : Type 0} (t : Bool) (r : Refusal) (p : Position) (k : Unit {0} → Reader B) (b : B) (q : Position) → after (require t r p) k ≡ done b q → (t ≡ true → k tt p ≡ done b q → P) → P
require_elim true r p k b q e h = h refl e
require_elim false r p k b q e h = no_done e

pub done_inj : {A : Type 0} {a b : A} {p q : Position} → done a p ≡ done b q → (a ≡ b) × (p ≡ q)
done_inj e = (cc, cc)

-- What holds of one result holds of its equal.
pub done_as : {A : Type 0} (P : A → Position → Type 0) {a b : A} {p q : Position} → done a p ≡ done b q → P a p → P b q
done_as P {a} {b} {p} {q} e h = let i = done_inj e in subst (λ x. P x q) i.0 (subst (P a) i.1 h)

-- The kinds of tokens.
pub open_is : (k : TokenKind) → is_open k ≡ true → k ≡ TokenKind.LParen
open_is TokenKind.LParen e = refl
open_is TokenKind.RParen e = absurd (false≢true e)
open_is TokenKind.Atom e = absurd (false≢true e)
open_is TokenKind.String e = absurd (false≢true e)
open_is TokenKind.Eof e = absurd (false≢true e)

pub close_is : (k : TokenKind) → is_close k ≡ true → k ≡ TokenKind.RParen
close_is TokenKind.LParen e = absurd (false≢true e)
close_is TokenKind.RParen e = refl
close_is TokenKind.Atom e = absurd (false≢true e)
close_is TokenKind.String e = absurd (false≢true e)
close_is TokenKind.Eof e = absurd (false≢true e)

pub atom_is : (k : TokenKind) → is_atom k ≡ true → k ≡ TokenKind.Atom
atom_is TokenKind.LParen e = absurd (false≢true e)
atom_is TokenKind.RParen e = absurd (false≢true e)
atom_is TokenKind.Atom e = refl
atom_is TokenKind.String e = absurd (false≢true e)
atom_is TokenKind.Eof e = absurd (false≢true e)

pub open_goes : (k : TokenKind) → k ≡ TokenKind.LParen → ¬ (k ≡ TokenKind.Eof)
open_goes k e f = let z : ◌≡◌ {A = ℕ} 0 1 = cc in omega arith

pub close_goes : (k : TokenKind) → k ≡ TokenKind.RParen → ¬ (k ≡ TokenKind.Eof)
close_goes k e f = let z : ◌≡◌ {A = ℕ} 0 1 = cc in omega arith

pub atom_goes : (k : TokenKind) → k ≡ TokenKind.Atom → ¬ (k ≡ TokenKind.Eof)
atom_goes k e f = let z : ◌≡◌ {A = ℕ} 0 1 = cc in omega arith

-- The token t was taken between two positions.
pub record Took (next : ℕ → Lexed) (p : Position) (t : Token) (q : Position) : Type 0 where
  pub takes : next p.offset ≡ Ok t
  pub position : q ≡ record { offset = t.end; rows = p.rows }

-- Then it stands before the tokens that follow.
pub before : (next : ℕ → Lexed) (p q : Position) (t : Token) (ts : List Token) → Took next p t q → ¬ (t.kind ≡ TokenKind.Eof) → Tokens next q.offset ts → Tokens next p.offset (t ∷ ts)
before next p q t ts w g h = the_next w.takes g (subst (λ (x : Position). Tokens next x.offset ts) w.position h)

pub same_rows : (next : ℕ → Lexed) (p q : Position) (t : Token) → Took next p t q → q.rows ≡ p.rows
same_rows next p q t w = ap (λ (x : Position). x.rows) w.position

module _ (next : ℕ → Lexed) where
  pub token_done : (p q : Position) (t : Token) → token next p ≡ done t q → Took next p t q
  unfolding token
  token_done p q t e = go (next p.offset) refl e
    where
      go : (x : Lexed) → next p.offset ≡ x → lexed p.rows x ≡ done t q → Took next p t q
      go (Ok u) f g = let i = done_inj g in record { takes = f ∙ ap {B = Lexed} Ok i.0; position = sym i.1 ∙ ap (λ (v : Token). record { offset = v.end; rows = p.rows }) i.0 }
      go (Err r) f g = no_done g

  pub opening_done : (p q : Position) (t : Token) → opening next p ≡ done t q → Took next p t q × Opens t
  unfolding opening
  opening_done p q t e =
      after_elim (token next p) _ t q e (λ u v f e₁.
      require_elim (is_open u.kind) _ v _ t q e₁ (λ b e₂.
      done_as (λ x y. Took next p x y × Opens x) e₂ (token_done p v u f, open_is u.kind b)))

  pub closing_done : (p q : Position) (t : Token) → closing next p ≡ done t q → Took next p t q × Closes t
  unfolding closing
  closing_done p q t e =
      after_elim (token next p) _ t q e (λ u v f e₁.
      require_elim (is_close u.kind) _ v _ t q e₁ (λ b e₂.
      done_as (λ x y. Took next p x y × Closes x) e₂ (token_done p v u f, close_is u.kind b)))

  pub atom_done : (p q : Position) (t : Token) → atom next p ≡ done t q → Took next p t q × (t.kind ≡ TokenKind.Atom)
  unfolding atom
  atom_done p q t e =
      after_elim (token next p) _ t q e (λ u v f e₁.
      require_elim (is_atom u.kind) _ v _ t q e₁ (λ b e₂.
      done_as (λ x y. Took next p x y × (x.kind ≡ TokenKind.Atom)) e₂ (token_done p v u f, atom_is u.kind b)))

  module _ (s : List ℕ) where
    pub word_done : (w : List ℕ) (p q : Position) (t : Token) → word next s w p ≡ done t q → Took next p t q × Word s w t
    unfolding word
    word_done w p q t e =
        after_elim (atom next p) _ t q e (λ u v f e₁.
        require_elim (same_bytes (text s u) w) _ v _ t q e₁ (λ b e₂.
        let a = atom_done p v u f in
        done_as (λ x y. Took next p x y × Word s w x) e₂ (a.0, record { atom = a.1; is = same_eq _ _ b })))

    pub natural_done : (p q : Position) (t : Token) → natural next s p ≡ done t q → Took next p t q × Numeral s t
    unfolding natural
    natural_done p q t e =
        after_elim (atom next p) _ t q e (λ u v f e₁.
        require_elim (numeral (text s u)) _ v _ t q e₁ (λ b e₂.
        let a = atom_done p v u f in
        done_as (λ x y. Took next p x y × Numeral s x) e₂ (a.0, record { atom = a.1; is = b })))

-- With the reserved words of an edition.
module _ (E : Edition) (s : List ℕ) where
  pub name_done : (p q : Position) (t : Token) → name E s p ≡ done t q → Took (E.tokens s) p t q × Name E s t
  unfolding name
  name_done p q t e =
      after_elim (atom (E.tokens s) p) _ t q e (λ u v f e₁.
      require_elim (not (E.reserved (text s u))) _ v _ t q e₁ (λ b e₂.
      require_elim (identifier (text s u)) _ v _ t q e₂ (λ c e₃.
      let a = atom_done (E.tokens s) p v u f in
      done_as (λ x y. Took (E.tokens s) p x y × Name E s x) e₃ (a.0, record { atom = a.1; unreserved = not-true _ b; is = c }))))
