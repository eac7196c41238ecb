-- What a step of the reader gives on the tokens that it wants.
use Rattle.token.specs.Token.{Lexed}
use Rattle.std.specs.Prelude.{Ok}
use mathlib.Core.Path.{◌≡◌, refl, ap, ◌∙◌}
use mathlib.Core.List.{List, ◌∷◌}
use mathlib.Core.Option.{Option}
use mathlib.Core.Bool.{Bool, true, false, not}
use Prim.Native.Nat.{ℕ}
use Rattle.token.specs.declared.TokenKind.{TokenKind}
use Rattle.token.specs.declared.Token.{Token}
use Rattle.token.specs.declared.Refusal.{Refusal}
use Rattle.words.specs.Words.{same_bytes, identifier, numeral}
use Rattle.words.proofs.Names.{eq_same}
use Rattle.terms.specs.Forms.{Shape, alone, with_name, with_numeral, binding, plain, Form, Edition}
use Rattle.surface.specs.Text.{text, label_with, label_alone, is_open, is_close, is_atom}
use Rattle.surface.specs.Grammar.{Tokens, the_next, Opens, Closes, Word, Numeral, Name, Tag}
use Rattle.surface.specs.Reader.{Position, Result, done, refused, Reader, after, require}
use Rattle.surface.specs.Reading.{Beginning, leaf, frame, lexed, token, opening, closing, atom, word, natural, name, bare, tagged, known, beginning_on, beginning}

pub after_go : {A B : Type 0} (x : Result A) (k : A → Reader B) (a : A) (p : Position) (o : Result B) → x ≡ done a p → k a p ≡ o → after x k ≡ o
after_go x k a p o e f = ap (λ y. after y k) e ∙ f

pub require_go : {B : Type 0} (t : Bool) (r : Refusal) (p : Position) (k : Unit {0} → Reader B) (o : Result B) → t ≡ true → k tt p ≡ o → after (require t r p) k ≡ o
require_go t r p k o e f = ap (λ y. after (require y r p) k) e ∙ f

pub require_stops : {B : Type 0} (t : Bool) (r : Refusal) (p : Position) (k : Unit {0} → Reader B) → t ≡ false → after (require t r p) k ≡ refused r
require_stops t r p k e = ap (λ y. after (require y r p) k) e

-- The position behind a token.
abbrev pub to : Position → Token → Position
to p t = record { offset = t.end; rows = p.rows }

pub first_token : {next : ℕ → Lexed} {at : ℕ} {t : Token} {ts : List Token} → Tokens next at (t ∷ ts) → next at ≡ Ok t
first_token (the_next e g k) = e

pub other_tokens : {next : ℕ → Lexed} {at : ℕ} {t : Token} {ts : List Token} → Tokens next at (t ∷ ts) → Tokens next t.end ts
other_tokens (the_next e g k) = k

module _ (next : ℕ → Lexed) where
  pub token_takes : (p : Position) (t : Token) → next p.offset ≡ Ok t → token next p ≡ done t (to p t)
  unfolding token
  token_takes p t e = ap (lexed p.rows) e

  pub opening_takes : (p : Position) (t : Token) → next p.offset ≡ Ok t → Opens t → opening next p ≡ done t (to p t)
  unfolding opening
  opening_takes p t e k = after_go _ _ t (to p t) _ (token_takes p t e) (require_go (is_open t.kind) _ (to p t) _ _ (ap is_open k) refl)

  pub closing_takes : (p : Position) (t : Token) → next p.offset ≡ Ok t → Closes t → closing next p ≡ done t (to p t)
  unfolding closing
  closing_takes p t e k = after_go _ _ t (to p t) _ (token_takes p t e) (require_go (is_close t.kind) _ (to p t) _ _ (ap is_close k) refl)

  pub atom_takes : (p : Position) (t : Token) → next p.offset ≡ Ok t → t.kind ≡ TokenKind.Atom → atom next p ≡ done t (to p t)
  unfolding atom
  atom_takes p t e k = after_go _ _ t (to p t) _ (token_takes p t e) (require_go (is_atom t.kind) _ (to p t) _ _ (ap is_atom k) refl)

  module _ (s : List ℕ) where
    pub word_takes : (w : List ℕ) (p : Position) (t : Token) → next p.offset ≡ Ok t → Word s w t → word next s w p ≡ done t (to p t)
    unfolding word
    word_takes w p t e k = after_go _ _ t (to p t) _ (atom_takes p t e k.atom) (require_go (same_bytes (text s t) w) _ (to p t) _ _ (eq_same (text s t) w k.is) refl)

    pub natural_takes : (p : Position) (t : Token) → next p.offset ≡ Ok t → Numeral s t → natural next s p ≡ done t (to p t)
    unfolding natural
    natural_takes p t e k = after_go _ _ t (to p t) _ (atom_takes p t e k.atom) (require_go (numeral (text s t)) _ (to p t) _ _ k.is refl)

-- With the reserved words and the forms of an edition.
module _ (E : Edition) (s : List ℕ) where
  pub name_takes : (p : Position) (t : Token) → E.tokens s p.offset ≡ Ok t → Name E s t → name E s p ≡ done t (to p t)
  unfolding name
  name_takes p t e k =
      after_go _ _ t (to p t) _ (atom_takes (E.tokens s) p t e k.atom)
      (require_go (not (E.reserved (text s t))) _ (to p t) _ _ (ap not k.unreserved)
      (require_go (identifier (text s t)) _ (to p t) _ _ k.is refl))

  -- What terms begin with.
  pub begins_leaf : (p : Position) (t : Token) (f : Form) → E.tokens s p.offset ≡ Ok t → Tag E s f alone t → beginning E s p ≡ done (leaf (label_alone f t.start)) (to p t)
  unfolding beginning beginning_on known bare
  begins_leaf p t f e g =
      after_go _ _ t (to p t) _ (token_takes (E.tokens s) p t e)
      (ap (λ (k : TokenKind). beginning_on E s t k (to p t)) g.atom
      ∙ ap (λ (o : Option Form). known E s (λ f. bare E s t f f.shape) t o (to p t)) g.is
      ∙ ap (λ (c : Shape). bare E s t f c (to p t)) g.shape)

  begins_tag : (p : Position) (o t : Token) (f : Form) (c : Shape) (r : Result Beginning) → E.tokens s p.offset ≡ Ok o → Opens o → E.tokens s o.end ≡ Ok t → Tag E s f c t
      → tagged E s o t f c (to (to p o) t) ≡ r → beginning E s p ≡ r
  unfolding beginning beginning_on known
  begins_tag p o t f c r e k h g z =
      after_go _ _ o (to p o) _ (token_takes (E.tokens s) p o e)
      (ap (λ (k : TokenKind). beginning_on E s o k (to p o)) k
      ∙ after_go _ _ t (to (to p o) t) _ (atom_takes (E.tokens s) (to p o) t h g.atom)
      (ap (λ (y : Option Form). known E s (λ f. tagged E s o t f f.shape) t y (to (to p o) t)) g.is
      ∙ ap (λ (c : Shape). tagged E s o t f c (to (to p o) t)) g.shape ∙ z))

  pub begins_ref : (p : Position) (o t x c : Token) (ts : List Token) (f : Form) → Tokens (E.tokens s) p.offset (o ∷ t ∷ x ∷ c ∷ ts) → Opens o → Tag E s f with_name t → Name E s x → Closes c
      → beginning E s p ≡ done (leaf (label_with f x o.start)) (to (to (to (to p o) t) x) c)
  unfolding tagged
  begins_ref p o t x c ts f k a g n d =
      begins_tag p o t f with_name _ (first_token k) a (first_token (other_tokens k)) g
      (after_go _ _ x (to (to (to p o) t) x) _ (name_takes (to (to p o) t) x (first_token (other_tokens (other_tokens k))) n)
      (after_go _ _ c (to (to (to (to p o) t) x) c) _ (closing_takes (E.tokens s) (to (to (to p o) t) x) c (first_token (other_tokens (other_tokens (other_tokens k)))) d) refl))

  pub begins_universe : (p : Position) (o t x c : Token) (ts : List Token) (f : Form) → Tokens (E.tokens s) p.offset (o ∷ t ∷ x ∷ c ∷ ts) → Opens o → Tag E s f with_numeral t → Numeral s x → Closes c
      → beginning E s p ≡ done (leaf (label_with f x o.start)) (to (to (to (to p o) t) x) c)
  unfolding tagged
  begins_universe p o t x c ts f k a g n d =
      begins_tag p o t f with_numeral _ (first_token k) a (first_token (other_tokens k)) g
      (after_go _ _ x (to (to (to p o) t) x) _ (natural_takes (E.tokens s) s (to (to p o) t) x (first_token (other_tokens (other_tokens k))) n)
      (after_go _ _ c (to (to (to (to p o) t) x) c) _ (closing_takes (E.tokens s) (to (to (to p o) t) x) c (first_token (other_tokens (other_tokens (other_tokens k)))) d) refl))

  pub begins_binding : (p : Position) (o t x : Token) (ts : List Token) (f : Form) → Tokens (E.tokens s) p.offset (o ∷ t ∷ x ∷ ts) → Opens o → Tag E s f binding t → Name E s x
      → beginning E s p ≡ done (frame (label_with f x o.start) f.arity) (to (to (to p o) t) x)
  unfolding tagged
  begins_binding p o t x ts f k a g n =
      begins_tag p o t f binding _ (first_token k) a (first_token (other_tokens k)) g
      (after_go _ _ x (to (to (to p o) t) x) _ (name_takes (to (to p o) t) x (first_token (other_tokens (other_tokens k))) n) refl)

  pub begins_plain : (p : Position) (o t : Token) (ts : List Token) (f : Form) → Tokens (E.tokens s) p.offset (o ∷ t ∷ ts) → Opens o → Tag E s f plain t
      → beginning E s p ≡ done (frame (label_alone f o.start) f.arity) (to (to p o) t)
  unfolding tagged
  begins_plain p o t ts f k a g = begins_tag p o t f plain _ (first_token k) a (first_token (other_tokens k)) g refl
