-- The head stands ahead, and its name within the source.
use Rattle.std.specs.Prelude.{Ok}
use Rattle.expects.specs.Answers.{HeadRead}
use Prim.Native.Nat.{ℕ}
use mathlib.Core.Path.{◌≡◌, refl, sym, ◌∙◌, ap, subst}
use mathlib.Core.List.{List}
use mathlib.Core.Option.{Option, none, some}
use native.Mathlib.Omega.{arith}
use lib.ListN.{length}
use Rattle.token.specs.Token.{next_token, Lexed}
use Rattle.token.specs.declared.Token.{Token}
use Rattle.token.proofs.Bounds.{bounds, Within}
use Rattle.words.specs.Words.{ascii}
use Rattle.terms.specs.Forms.{Edition}
use Rattle.surface.specs.Reader.{Position}
use Rattle.surface.specs.Reading.{opening, closing, word, natural, name, edition_of, supported, surface_line, module_line, head}
use Rattle.surface.specs.Text.{text}
use Rattle.expects.specs.declared.Format.{Format}
use Rattle.expects.specs.Expects.{position_at, head_read, Heads}
use Rattle.expects.specs.Tokens.{TokenInside}
use Rattle.expects.specs.Formats.{OfSource}
use Rattle.expects.specs.Lines.{edition_read, SurfaceLine}
use Rattle.expects.specs.Answers.{EditionRead}
use Rattle.surface.proofs.Editions.{edition_meets}
use Rattle.expects.proofs.Gives.{Gives, given, gives_after}
use Rattle.expects.proofs.Ahead.{Source, Ahead, TokenAhead, opening_ahead, closing_ahead, word_ahead, natural_ahead, name_ahead}

pub record HeadAhead (s : List ℕ) (p : Position) (t : Token) (q : Position) : Type 0 where
  pub ahead : Ahead s p q
  pub name : TokenInside (length s) t

-- A source with its tokens.
abbrev own : List ℕ → Source
own s = record { bytes = s; next = next_token s; bounded = bounds s }

module _ (s : List ℕ) (p : Position) where
  abbrev Read : Edition → Position → Type 0
  Read E q = (E.tokens ≡ next_token) × Ahead s p q

  supported_ahead : (a b : List ℕ) (q : Position) → Ahead s p q → Gives Read (supported (edition_of a b) q)
  unfolding supported
  supported_ahead a b q h = by (edition_of a b) refl
    where
      by : (o : Option Edition) → edition_of a b ≡ o → Gives Read (supported o q)
      by (some E) e = ((edition_meets a b E e).tokens, h)
      by none e = tt

  surface_ahead : Gives Read (surface_line s p)
  unfolding surface_line
  surface_ahead =
      gives_after (TokenAhead s p) Read (opening (next_token s) p) _ (opening_ahead (own s) p)
      (λ o p₁ a₁. gives_after (TokenAhead s p₁) Read (word (next_token s) s (ascii "surface") p₁) _ (word_ahead (own s) p₁ (ascii "surface"))
      (λ w p₂ a₂. gives_after (TokenAhead s p₂) Read (natural (next_token s) s p₂) _ (natural_ahead (own s) p₂)
      (λ a p₃ a₃. gives_after (TokenAhead s p₃) Read (natural (next_token s) s p₃) _ (natural_ahead (own s) p₃)
      (λ b p₄ a₄. gives_after (TokenAhead s p₄) Read (closing (next_token s) p₄) _ (closing_ahead (own s) p₄)
      (λ c p₅ a₅. supported_ahead (text s a) (text s b) p₅ (omega arith))))))

  module_ahead : (E : Edition) → E.tokens ≡ next_token → Gives (HeadAhead s p) (module_line s E p)
  unfolding module_line
  module_ahead E h =
      gives_after (TokenAhead s p) (HeadAhead s p) (opening (next_token s) p) _ (opening_ahead (own s) p)
      (λ o p₁ a₁. gives_after (TokenAhead s p₁) (HeadAhead s p) (word (next_token s) s (ascii "module") p₁) _ (word_ahead (own s) p₁ (ascii "module"))
      (λ w p₂ a₂. gives_after (TokenAhead s p₂) (HeadAhead s p) (name E s p₂) _ (name_ahead E (subst (λ (T : List ℕ → ℕ → Lexed). (s : List ℕ) (at : ℕ) → Within at (length s) (T s at)) (sym h) bounds) s p₂)
      (λ x p₃ a₃. gives_after (TokenAhead s p₃) (HeadAhead s p) (closing (next_token s) p₃) _ (closing_ahead (own s) p₃)
      (λ c p₄ a₄. record { ahead = omega arith; name = record { order = omega arith; high = a₃.high } }))))

pub head_ahead : (s : List ℕ) (p : Position) → Gives (λ h. HeadAhead s p h.name) (head s p)
unfolding head
head_ahead s p =
    gives_after (Read s p) (λ h. HeadAhead s p h.name) (surface_line s p) _ (surface_ahead s p)
    (λ E q a. gives_after (HeadAhead s q) (λ h. HeadAhead s p h.name) (module_line s E q) _ (module_ahead s q E a.0)
    (λ x r b. let c = a.1 in record { ahead = omega arith; name = b.name }))

-- The format that the surface line tells is one of sources.
pub known_source : (s : List ℕ) (x : EditionRead) → SurfaceLine s x → (f : Format) (next : ℕ) → x ≡ Ok (f, next) → OfSource f
known_source s x h f next e = (given (Read s (position_at 0 0)) (surface_ahead s (position_at 0 0)) (h 0 ∙ ap (edition_read 0) e)).0

-- The same, of what `read_head` gives.
pub head_got : (s : List ℕ) (r : HeadRead) → Heads s r → (f : Format) (t : Token) (next : ℕ) → r ≡ Ok (record { format = f; name = t; next = next }) → (n : ℕ)
    → HeadAhead s (position_at 0 n) t (position_at next n)
head_got s r h f t next e n = let p = position_at 0 n in given (λ i. HeadAhead s p i.name) (head_ahead s p) (h n ∙ ap (head_read n) e)
