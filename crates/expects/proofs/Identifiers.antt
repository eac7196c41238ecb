-- An identifier that is told by the class numbers of its bytes.
use Rattle.std.specs.Prelude.{Ok}
use Prim.Native.Nat.{ℕ, zero, suc, ◌+◌, ◌-◌, ◌≤◌, ◌<◌}
use mathlib.Core.Path.{◌≡◌, refl, sym, ◌∙◌, ap, subst}
use mathlib.Core.Bool.{true, false}
use mathlib.Core.List.{List}
use native.Mathlib.Omega.{arith}
use lib.ListN.{length, get_or, take, drop}
use Rattle.token.specs.Token.{next_token, token_here, Lexed}
use Rattle.token.specs.Classes.{class_number, SameLayout, NameAt}
use Rattle.token.specs.declared.TokenKind.{TokenKind}
use Rattle.token.specs.declared.Token.{Token}
use Rattle.token.proofs.ClassNumbers as classes
use Rattle.token.proofs.Runs.{drop_next}
use Rattle.words.specs.Words.{all, name_byte, identifier}
use Rattle.words.specs.declared.NameTest.{NameTest}
use Rattle.terms.specs.Forms.{Edition}
use Rattle.surface.specs.Reading.{token, atom, name, closing, natural}
use Rattle.expects.specs.Lines.{tag}
use Rattle.expects.specs.declared.Format.{Format}
use Rattle.expects.specs.Formats.{edition, OfSource}
use Rattle.surface.specs.Text.{text}
use Rattle.expects.specs.Tokens.{TokenInside, IsWordAt}
use Rattle.expects.specs.Expects.{Reads}
use Rattle.expects.proofs.Tokens.{atom_kind, kind_got, name_tested}

-- Layout that ends at one place has one token behind it.
pub same_next : (s : List ℕ) (at r : ℕ) → SameLayout s at r → next_token s r ≡ next_token s at
unfolding next_token
same_next s at r e = let q = sym e in λ i. token_here (q i) (drop (q i) s)

-- The token from `start` up to `end`.
abbrev found : ℕ → ℕ → Token
found start end = record { kind = TokenKind.Atom; start = start; end = end }

module _ (s : List ℕ) where
  all_names : (n at : ℕ) → at + n ≤ length s → ((i : ℕ) → at ≤ i → i < at + n → 6 ≤ class_number (get_or s i 0)) → all name_byte (take n (drop at s)) ≡ true
  unfolding all
  all_names zero at h p = refl
  all_names (suc n) at h p =
      rw (drop_next s at (omega arith), all, classes.name_byte (get_or s at 0) (p at (omega arith) (omega arith)))
      (all_names n (at + 1) (omega arith) (λ i l u. p i (omega arith) (omega arith)))

  module _ (start end : ℕ) (h : start < end) (x : NameAt s start end) where
    pub is_identifier : identifier (take (end - start) (drop start s)) ≡ true
    unfolding identifier
    is_identifier =
        let n = end - (start + 1) in
        let e : end - start ≡ suc n = omega arith in
        rw (e, drop_next s start (omega (arith, x.within)), identifier, classes.name_start (get_or s start 0) (omega (arith, x.begins)))
        (all_names n (start + 1) (omega (arith, x.within)) (λ i l u. x.bytes i (omega arith) (omega arith)))

-- What is read behind layout is read before it.
pub name_behind : (E : Edition) (s : List ℕ) (at r : ℕ) → E.tokens s r ≡ E.tokens s at → (x : Lexed) → Reads (name E s) r x → Reads (name E s) at x
unfolding name atom token
name_behind E s at r e x h = λ n. rw (sym e) (h n)

pub blank_same : (f : Format) → OfSource f → (s : List ℕ) (at r : ℕ) → SameLayout s at r → (edition f).tokens s r ≡ (edition f).tokens s at
blank_same f q s at r e =
    let own : (i : ℕ) → (edition f).tokens s i ≡ next_token s i = λ i. ap (λ (T : List ℕ → ℕ → Lexed). T s i) q in
    own r ∙ same_next s at r e ∙ sym (own at)

-- In whichever edition of the source format: a word that is told by its classes is the next token, and the atom that is read.
module _ (f : Format) (s : List ℕ) (start end : ℕ) (q : OfSource f) (x : NameAt s start end) where
  pub word_token : Ok (found start end) ≡ (edition f).tokens s start
  word_token = sym x.here ∙ ap (λ (U : List ℕ → ℕ → Lexed). U s start) (sym q)

  pub word_read : Reads (atom ((edition f).tokens s)) start (Ok (found start end))
  word_read = λ n. atom_kind ((edition f).tokens s) _ ∙ kind_got ((edition f).tokens s) TokenKind.Atom start (Ok (found start end)) word_token (found start end) refl refl n

  -- A name, if it is not reserved there.
  pub identifier_in : (at : ℕ) → (edition f).tokens s start ≡ (edition f).tokens s at → start < end → (edition f).reserved (take (end - start) (drop start s)) ≡ false
      → Reads (name (edition f) s) at (Ok (found start end))
  identifier_in at e h r =
      name_behind (edition f) s at start e (Ok (found start end)) (name_tested (edition f) s start (Ok (found start end)) word_read (found start end) refl NameTest.Name (rw (r, is_identifier s start end h x)))

-- The same of a word that `word_at` tells.
module _ (f : Format) (s : List ℕ) (at : ℕ) (t : Token) (w : IsWordAt f s at t) where
  its : found at t.end ≡ t
  its = let a = w.kind in let b = w.start in λ i. record { kind = sym a i; start = sym b i; end = t.end }

  pub word_is : Ok t ≡ (edition f).tokens s at
  word_is = ap (λ (x : Token). Ok x) (sym its) ∙ word_token f s at t.end w.of_source w.name

  pub word_told : Reads (atom ((edition f).tokens s)) at (Ok t)
  word_told = subst (λ (x : Token). Reads (atom ((edition f).tokens s)) at (Ok x)) its (word_read f s at t.end w.of_source w.name)

  pub word_within : TokenInside (length s) t
  word_within = record { order = omega (arith, w.start, w.some); high = w.name.within }

  pub word_name : (start : ℕ) → (edition f).tokens s at ≡ (edition f).tokens s start → (edition f).reserved (text s t) ≡ false → Reads (name (edition f) s) start (Ok t)
  word_name start e r = subst (λ (x : Token). (edition f).reserved (text s x) ≡ false → Reads (name (edition f) s) start (Ok x)) its (identifier_in f s at t.end w.of_source w.name start e w.some) r

-- What is read in a format of sources is what is read by the tokens of a source.
module _ (f : Format) (s : List ℕ) (at : ℕ) (q : OfSource f) (x : Lexed) where
  pub closing_own : Reads (closing ((edition f).tokens s)) at x → Reads (closing (next_token s)) at x
  closing_own = subst (λ (T : List ℕ → ℕ → Lexed). Reads (closing (T s)) at x) q

  pub natural_own : Reads (natural ((edition f).tokens s) s) at x → Reads (natural (next_token s) s) at x
  natural_own = subst (λ (T : List ℕ → ℕ → Lexed). Reads (natural (T s) s) at x) q

pub tag_own : (f : Format) (s w : List ℕ) (at : ℕ) → OfSource f → (x : Lexed) → Reads (tag ((edition f).tokens s) s w) at x → Reads (tag (next_token s) s w) at x
tag_own f s w at q x = subst (λ (T : List ℕ → ℕ → Lexed). Reads (tag (T s) s w) at x) q
