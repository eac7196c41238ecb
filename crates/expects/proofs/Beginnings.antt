-- What a term begins with stands ahead, and has as many arguments as its kind.
use Prim.Native.Nat.{ℕ, ◌≤◌}
use mathlib.Core.Path.{◌≡◌, refl, sym, ◌∙◌}
use mathlib.Core.List.{List}
use mathlib.Core.Option.{Option, none, some}
use native.Mathlib.Omega.{arith}
use lib.ListN.{length}
use Rattle.token.specs.declared.TokenKind.{TokenKind}
use Rattle.token.specs.declared.Token.{Token}
use Rattle.token.proofs.Bounds.{Within}
use Rattle.terms.specs.Forms.{Shape, alone, with_name, with_numeral, binding, plain, Form, Edition, form_of_word, arity_of}
use Rattle.terms.specs.Label.{Label}
use Rattle.surface.specs.Reader.{Position, done, Reader}
use Rattle.surface.specs.Reading.{Beginning, leaf, frame, token, closing, atom, natural, name, bare, tagged, known, beginning_on, beginning}
use Rattle.surface.specs.Text.{text}
use Rattle.expects.specs.declared.Format.{Format}
use Rattle.expects.specs.Formats.{edition}
use Rattle.expects.proofs.Formats.{bounded}
use Rattle.expects.proofs.Gives.{Gives, given, gives_after}
use Rattle.expects.proofs.Arities.{ArityOfShape, Fits, fitting}
use Rattle.expects.proofs.Ahead.{Source, source_of, Ahead, TokenAhead, AnyToken, token_any, not_end, closing_ahead, atom_ahead, natural_ahead, name_ahead}

-- The number of a frame's arguments.
pub record FrameArity (l : Label) (n : ℕ) : Type 0 where
  pub of_kind : n ≡ arity_of l.kind
  pub low : 1 ≤ n
  pub high : n ≤ 6

abbrev pub Labelled : Beginning → Type 0
Labelled (leaf l) = arity_of l.kind ≡ 0
Labelled (frame l n) = FrameArity l n

pub record BeginningAhead (s : List ℕ) (p : Position) (b : Beginning) (q : Position) : Type 0 where
  pub ahead : Ahead s p q
  pub labelled : Labelled b

module _ (E : Edition) (bounded : (s : List ℕ) (at : ℕ) → Within at (length s) (E.tokens s at)) (s : List ℕ) (p : Position) where
  abbrev S : Source
  S = source_of E bounded s

  bare_ahead : (t : Token) (f : Form) (sh : Shape) (q : Position) → TokenAhead s p t q → arity_of f.kind ≡ f.arity → ArityOfShape sh f.arity
      → Gives (BeginningAhead s p) (bare E s t f sh q)
  unfolding bare
  bare_ahead t f alone q a k n = record { ahead = omega arith; labelled = k ∙ n }
  bare_ahead t f with_name q a k n = tt
  bare_ahead t f with_numeral q a k n = tt
  bare_ahead t f binding q a k n = tt
  bare_ahead t f plain q a k n = tt

  tagged_ahead : (o t : Token) (f : Form) (sh : Shape) (q : Position) → Ahead s p q → arity_of f.kind ≡ f.arity → ArityOfShape sh f.arity
      → Gives (BeginningAhead s p) (tagged E s o t f sh q)
  unfolding tagged
  tagged_ahead o t f alone q a k n = tt
  tagged_ahead o t f with_name q a k n =
      gives_after (TokenAhead s q) (BeginningAhead s p) (name E s q) _ (name_ahead E bounded s q)
      (λ x q₁ b. gives_after (TokenAhead s q₁) (BeginningAhead s p) (closing (E.tokens s) q₁) _ (closing_ahead S q₁)
      (λ c q₂ d. record { ahead = omega arith; labelled = k ∙ n }))
  tagged_ahead o t f with_numeral q a k n =
      gives_after (TokenAhead s q) (BeginningAhead s p) (natural (E.tokens s) s q) _ (natural_ahead S q)
      (λ x q₁ b. gives_after (TokenAhead s q₁) (BeginningAhead s p) (closing (E.tokens s) q₁) _ (closing_ahead S q₁)
      (λ c q₂ d. record { ahead = omega arith; labelled = k ∙ n }))
  tagged_ahead o t f binding q a k n =
      gives_after (TokenAhead s q) (BeginningAhead s p) (name E s q) _ (name_ahead E bounded s q)
      (λ x q₁ b. record { ahead = omega arith; labelled = record { of_kind = sym k; low = n.0; high = n.1 } })
  tagged_ahead o t f plain q a k n = record { ahead = a; labelled = record { of_kind = sym k; low = n.0; high = n.1 } }

  known_gives : (k : Form → Reader Beginning) (t : Token) (o : Option Form) (q : Position) → ((f : Form) → o ≡ some f → Gives (BeginningAhead s p) (k f q))
      → Gives (BeginningAhead s p) (known E s k t o q)
  unfolding known
  known_gives k t none q g = tt
  known_gives k t (some f) q g = g f refl

  module _ (fit : Fits E) where
    on_ahead : (t : Token) (k : TokenKind) (q : Position) → AnyToken s p t q → t.kind ≡ k → Gives (BeginningAhead s p) (beginning_on E s t k q)
    unfolding beginning_on
    on_ahead t TokenKind.LParen q a e =
        let h = not_end S p t q a (λ i. let z : ◌≡◌ {A = ℕ} 0 1 = cc in omega arith) in
        gives_after (TokenAhead s q) (BeginningAhead s p) (atom (E.tokens s) q) _ (atom_ahead S q)
        (λ w r b. known_gives (λ f. tagged E s t w f f.shape) w (form_of_word (text s w) E.forms) r
        (λ f i. let g = fit (text s w) f i in tagged_ahead t w f f.shape r (omega arith) g.arity_is g.by_shape))
    on_ahead t TokenKind.RParen q a e = tt
    on_ahead t TokenKind.Atom q a e =
        let h = not_end S p t q a (λ i. let z : ◌≡◌ {A = ℕ} 0 1 = cc in omega arith) in
        known_gives (λ f. bare E s t f f.shape) t (form_of_word (text s t) E.forms) q
        (λ f i. let g = fit (text s t) f i in bare_ahead t f f.shape q h g.arity_is g.by_shape)
    on_ahead t TokenKind.String q a e = tt
    on_ahead t TokenKind.Eof q a e = tt

    beginning_gives : Gives (BeginningAhead s p) (beginning E s p)
    unfolding beginning
    beginning_gives = gives_after (AnyToken s p) (BeginningAhead s p) (token (E.tokens s) p) _ (token_any S p) (λ t q a. on_ahead t t.kind q a refl)

module _ (f : Format) (s : List ℕ) where
  pub beginning_ahead : (p : Position) → Gives (BeginningAhead s p) (beginning (edition f) s p)
  beginning_ahead p = beginning_gives (edition f) (bounded f) s p (fitting f)

  pub beginning_got : (p : Position) (b : Beginning) (q : Position) → beginning (edition f) s p ≡ done b q → BeginningAhead s p b q
  beginning_got p b q e = given (BeginningAhead s p) (beginning_ahead p) e
