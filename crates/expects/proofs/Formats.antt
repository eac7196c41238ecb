-- What each format's tokens and tests are in the code.
use Rattle.std.specs.Prelude.{Option}
use Rattle.expects.specs.Answers.{NameRead}
use Prim.Native.Nat.{ℕ, ◌+◌, ◌<◌}
use mathlib.Core.Path.{◌≡◌, refl, sym, ◌∙◌, ap, subst}
use mathlib.Core.Bool.{Bool, true, false}
use mathlib.Core.List.{List}
use lib.Dec.{eqb}
use lib.ListN.{length, get_or}
use Rattle.token.specs.Token.{next_token, token, Lexed}
use Rattle.token.specs.declared.TokenKind.{TokenKind}
use Rattle.token.proofs.Bounds.{bounds, Within}
use Rattle.core_token.proofs.Bounds as core
use Rattle.core_token.proofs.Parentheses.{open_next, close_next, space_next}
use Rattle.words.specs.Words.{ascii, same_bytes, reserved, reserved_0_2}
use Rattle.terms.specs.Forms.{edition_0_1, edition_0_2, forms, form_of_word}
use Rattle.surface.specs.Text.{is_close, is_end}
use Rattle.surface.specs.Reading.{name}
use Rattle.core_text.specs.TextReading.{text_edition}
use Rattle.expects.specs.declared.Format.{Format}
use Rattle.expects.specs.declared.FormOfWord.{FormOfWord}
use Rattle.expects.specs.FormOfWord.{told_form}
use mathlib.Core.Logic.{inl, inr}
use Rattle.expects.specs.Tokens.{IsParen}
use Rattle.expects.specs.Formats.{edition, OfSource, ends}
use Rattle.expects.specs.Expects.{ReadsName, Names}
use Rattle.expects.specs.Tokens.{kind_number}
use Rattle.expects.proofs.CoreForms.{Alone, alone_text, alone_arrow}
use Rattle.expects.proofs.Tokens.{open_here, close_here, space_here}

-- The ending tokens by their numbers.
source_end : (k : TokenKind) → eqb (kind_number k) 3 ≡ is_end k
source_end TokenKind.LParen = refl
source_end TokenKind.RParen = refl
source_end TokenKind.Atom = refl
source_end TokenKind.String = refl
source_end TokenKind.Eof = refl

core_end : (k : TokenKind) → eqb (kind_number k) 1 ≡ is_close k
core_end TokenKind.LParen = refl
core_end TokenKind.RParen = refl
core_end TokenKind.Atom = refl
core_end TokenKind.String = refl
core_end TokenKind.Eof = refl

-- What holds of both editions holds of every format but core text.
pub of_either : (P : Format → Type 0) → P Format.Surface01 → P Format.Surface02 → (f : Format) → ¬ (f ≡ Format.Core01) → P f
of_either P a b Format.Surface01 n = a
of_either P a b Format.Surface02 n = b
of_either P a b Format.Core01 n = absurd (n refl)

module _ (f : Format) (q : ¬ (f ≡ Format.Core01)) where
  pub source_tokens : OfSource f
  unfolding edition_0_1 edition_0_2
  source_tokens = of_either OfSource refl refl f q

  pub lexes : (s : List ℕ) (at : ℕ) (r : Lexed) → r ≡ next_token s at → r ≡ (edition f).tokens s at
  lexes s at r e = e ∙ ap (λ (T : List ℕ → ℕ → Lexed). T s at) (sym source_tokens)

  pub source_ends : (k : TokenKind) (n : ℕ) → n ≡ kind_number k → eqb n 3 ≡ ends f k
  source_ends k n e = ap (λ (i : ℕ). eqb i 3) e ∙ source_end k ∙ of_either (λ g. is_end k ≡ ends g k) refl refl f q

  pub source_name : (s : List ℕ) (at : ℕ) (r : NameRead) → ReadsName (name (edition f) s) at r → Names f s at r
  source_name s at r = of_either (λ g. ReadsName (name (edition g) s) at r → Names g s at r) (λ h. h) (λ h. h) f q

-- The forms of each format by those of surface 0 1.
module _ (f g : Format) (q : f ≡ g) where
  pub forms_by : (w : List ℕ) (r : Option FormOfWord) → r ≡ told_form (form_of_word w (edition g).forms) → r ≡ told_form (form_of_word w (edition f).forms)
  forms_by w r e = subst (λ (x : Format). r ≡ told_form (form_of_word w (edition x).forms)) (sym q) e

  pub reserved_by : (w : List ℕ) (r : Bool) → r ≡ (edition g).reserved w → r ≡ (edition f).reserved w
  reserved_by w r e = subst (λ (x : Format). r ≡ (edition x).reserved w) (sym q) e

  pub tokens_by : (s : List ℕ) (at : ℕ) (r : Lexed) → r ≡ (edition g).tokens s at → r ≡ (edition f).tokens s at
  tokens_by s at r e = subst (λ (x : Format). r ≡ (edition x).tokens s at) (sym q) e

-- A token stands within the source.
pub bounded : (f : Format) (s : List ℕ) (at : ℕ) → Within at (length s) ((edition f).tokens s at)
unfolding edition_0_1 edition_0_2 text_edition
bounded Format.Surface01 s at = bounds s at
bounded Format.Surface02 s at = bounds s at
bounded Format.Core01 s at = core.bounds s at

-- A parenthesis at its place is the next token, and a space is passed.
module _ (s : List ℕ) (at : ℕ) (h : at < length s) where
  pub open_first : (f : Format) → get_or s at 0 ≡ 40 → token TokenKind.LParen at (at + 1) ≡ (edition f).tokens s at
  unfolding edition_0_1 edition_0_2 text_edition
  open_first Format.Surface01 e = open_here s at h e
  open_first Format.Surface02 e = open_here s at h e
  open_first Format.Core01 e = sym (open_next s at h e)

  pub close_first : (f : Format) → get_or s at 0 ≡ 41 → token TokenKind.RParen at (at + 1) ≡ (edition f).tokens s at
  unfolding edition_0_1 edition_0_2 text_edition
  close_first Format.Surface01 e = close_here s at h e
  close_first Format.Surface02 e = close_here s at h e
  close_first Format.Core01 e = sym (close_next s at h e)

  pub space_first : (f : Format) → get_or s at 0 ≡ 32 → (edition f).tokens s (at + 1) ≡ (edition f).tokens s at
  unfolding edition_0_1 edition_0_2 text_edition
  space_first Format.Surface01 e = space_here s at h e
  space_first Format.Surface02 e = space_here s at h e
  space_first Format.Core01 e = sym (space_next s at h e)

-- The same of either parenthesis, by its byte.
pub paren_first : (s : List ℕ) (at b : ℕ) (k : TokenKind) (f : Format) → IsParen b k → get_or s at 0 ≡ b → at < length s → (edition f).tokens s at ≡ token k at (at + 1)
paren_first s at b k f (inl q) e h = rw q.1 (sym (open_first s at h f (e ∙ q.0)))
paren_first s at b k f (inr q) e h = rw q.1 (sym (close_first s at h f (e ∙ q.0)))

pub core_ends : (f : Format) (k : TokenKind) (n : ℕ) → n ≡ kind_number k → f ≡ Format.Core01 → eqb n 1 ≡ ends f k
core_ends f k n e q = ap (λ (i : ℕ). eqb i 1) e ∙ core_end k ∙ ap (λ (g : Format). ends g k) (sym q)

-- What surface 0 2 reserves besides.
module _ (w : List ℕ) where
  pub reserved_there : reserved w ≡ true → true ≡ reserved_0_2 w
  unfolding reserved_0_2
  reserved_there e = rw e

  pub reserved_besides : reserved w ≡ false → (b : Bool) → b ≡ same_bytes w (ascii "arrow") → b ≡ reserved_0_2 w
  unfolding reserved_0_2
  reserved_besides e b h = rw e h

pub names_by : (f g : Format) (s : List ℕ) (at : ℕ) (r : NameRead) → f ≡ g → Names g s at r → Names f s at r
names_by f g s at r q h = subst (λ (x : Format). Names x s at r) (sym q) h

-- A word that stands alone is the same form in every format.
pub alone_in : (f : Format) (w : List ℕ) → Alone (told_form (form_of_word w forms)) (told_form (form_of_word w (edition f).forms))
unfolding edition_0_1 edition_0_2 text_edition
alone_in Format.Surface01 w = record { there = λ f e q. refl; back = λ f e q. refl }
alone_in Format.Surface02 w = alone_arrow w
alone_in Format.Core01 w = alone_text w
