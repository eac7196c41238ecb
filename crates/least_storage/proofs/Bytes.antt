-- What reading a source of some bytes comes to: three bytes and more for each row, seventeen and more for each declaration; or a refusal that
-- comes from the source. So with a row for each three bytes and a declaration for each seventeen, reading meets neither 8 nor 9.
use mathlib.Core.Path.{◌≡◌, refl}
use mathlib.Core.Logic.{inr}
use mathlib.Core.Bool.{true}
use mathlib.Core.List.{List}
use mathlib.Core.Option.{Option, none, some}
use Prim.Native.Nat.{ℕ, ◌+◌, ◌*◌, ◌/◌, ◌≤◌, ◌<◌}
use native.Mathlib.Omega.{arith}
use lib.ListN.{length}
use Rattle.token.specs.Token.{next_token, Lexed}
use Rattle.words.specs.Words.{ascii}
use Rattle.terms.specs.Forms.{Edition}
use Rattle.terms.specs.Label.{Declaration}
use Rattle.surface.specs.Text.{text, is_end}
use Rattle.surface.specs.Reader.{Position, start, Result, done, refused}
use Rattle.surface.specs.Reading.{term, opening, closing, word, natural, name, beginning, declarations, edition_of, supported, surface_line, module_line, Head, head, read_module}
use Rattle.surface.proofs.Editions.{edition_meets}
pub use Rattle.least_storage.proofs.FromSource.{from_source}
use Rattle.least_storage.proofs.FromSource.{Comes, comes_as, comes_after}
use Rattle.least_storage.proofs.TokenBytes.{spread, Gap, AtomAhead, name_ahead}
use Rattle.least_storage.proofs.LineBytes.{LineOf, Any, line_after, line_end, atom_line, opening_line, closing_line, natural_line, word_line}
use Rattle.least_storage.proofs.FormBytes.{Fine, fine_of}
use Rattle.least_storage.proofs.TermBytes.{whole_comes}
use Rattle.least_storage.proofs.DeclarationBytes.{Named, Passed, declarations_comes}

abbrev pub Fits : List ℕ → Result (List Declaration) → Type 0
Fits s (done ds q) = (q.rows ≤ length s / 3) × (length ds ≤ length s / 17)
Fits s (refused r) = from_source r.class ≡ true

-- n bytes stand beside those of the rows, and beside those of the declarations.
pub record Sized (hi n : ℕ) (ds : List Declaration) (q : Position) : Type 0 where
  pub rows : n + q.rows * 3 ≤ q.offset
  pub declarations : n + length ds * 17 ≤ q.offset
  pub high : q.offset ≤ hi

pub fits : (s : List ℕ) (n : ℕ) (x : Result (List Declaration)) → Comes (Sized (length s) n) x → Fits s x
fits s n (done ds q) m = (omega (arith, m.rows, m.high), omega (arith, m.declarations, m.high))
fits s n (refused r) m = m

-- The names of an edition.
module _ (E : Edition) (F : Fine E) (s : List ℕ) where
  named_comes : (p : Position) → Gap (E.tokens s) p.offset → Comes (λ x q. Named (E.tokens s) (length s) p q) (name E s p)
  named_comes p g =
      comes_as (AtomAhead (E.tokens s) (length s) p) (λ x q. Named (E.tokens s) (length s) p q) (name E s p) (name_ahead E s (F.tokens s) p)
      (λ x q a. let w = a.ahead in let l : p.offset < x.start = a.later g in
      record { bytes = omega arith; more = inr a.gap; high = omega arith; rows = w.rows })

module _ (s : List ℕ) where
  abbrev next : ℕ → Lexed
  next = next_token s

  abbrev hi : ℕ
  hi = length s

  -- An edition that is supported is fine.
  supported_comes : (a b : List ℕ) (p : Position) → p.offset ≤ hi → Comes (LineOf Fine hi 0 p) (supported (edition_of a b) p)
  unfolding supported
  supported_comes a b p h = go (edition_of a b) refl
    where
      go : (o : Option Edition) → edition_of a b ≡ o → Comes (LineOf Fine hi 0 p) (supported o p)
      go (some E) e = line_end Fine hi p E (fine_of (edition_meets a b E e)) h
      go none e = refl

  surface_comes : (p : Position) → Comes (LineOf Fine hi 11 p) (surface_line s p)
  unfolding surface_line
  surface_comes p =
      line_after Any Fine hi 1 10 p (opening next p) _ (opening_line next hi (spread s) p) (λ o p₁ u₁ h₁.
      line_after Any Fine hi 7 3 p₁ (word next s (ascii "surface") p₁) _ (word_line next hi (spread s) p₁ s (ascii "surface")) (λ w p₂ u₂ h₂.
      line_after Any Fine hi 1 2 p₂ (natural next s p₂) _ (natural_line next hi (spread s) p₂ s) (λ a p₃ u₃ h₃.
      line_after Any Fine hi 1 1 p₃ (natural next s p₃) _ (natural_line next hi (spread s) p₃ s) (λ b p₄ u₄ h₄.
      line_after Any Fine hi 1 0 p₄ (closing next p₄) _ (closing_line next hi (spread s) p₄) (λ c p₅ u₅ h₅.
      supported_comes (text s a) (text s b) p₅ h₅)))))

  name_comes : (E : Edition) → Fine E → (p : Position) → Comes (LineOf Any hi 9 p) (module_line s E p)
  unfolding module_line
  name_comes E F p =
      line_after Any Any hi 1 8 p (opening next p) _ (opening_line next hi (spread s) p) (λ o p₁ u₁ h₁.
      line_after Any Any hi 6 2 p₁ (word next s (ascii "module") p₁) _ (word_line next hi (spread s) p₁ s (ascii "module")) (λ w p₂ u₂ h₂.
      line_after Any Any hi 1 1 p₂ (name E s p₂) _ (atom_line (E.tokens s) hi (F.tokens s) p₂ (name E s) (name_ahead E s (F.tokens s) p₂)) (λ x p₃ u₃ h₃.
      line_after Any Any hi 1 0 p₃ (closing next p₃) _ (closing_line next hi (spread s) p₃) (λ c p₄ u₄ h₄. line_end Any hi p₄ x tt h₄))))

  abbrev FineHead : Head → Type 0
  FineHead h = Fine h.edition

  head_comes : (p : Position) → Comes (LineOf FineHead hi 20 p) (head s p)
  unfolding head
  head_comes p =
      line_after Fine FineHead hi 11 9 p (surface_line s p) _ (surface_comes p) (λ E q F h.
      line_after Any FineHead hi 9 0 q (module_line s E q) _ (name_comes E F q) (λ x r u i. line_end FineHead hi r (record { edition = E; name = x }) F i))

  -- The head has twenty bytes at least.
  pub module_comes : (limit room frames : ℕ) → length s / 3 ≤ limit → length s / 17 ≤ room → Comes (Sized (length s) 20) (read_module s limit room frames start)
  unfolding read_module
  module_comes limit room frames h k =
      comes_after (LineOf FineHead hi 20 start) (Sized hi 20) (head s start) _ (head_comes start) (λ d p e.
      let E = d.edition in let F = e.0 in let l = e.1 in
      comes_as (λ ds q. Passed hi (length ds * 17) p q) (Sized hi 20)
      (declarations E s (term (beginning E s) (closing (E.tokens s)) limit frames) (name E s) is_end room p)
      (declarations_comes E F s (term (beginning E s) (closing (E.tokens s)) limit frames) (whole_comes E F s limit frames h)
      (name E s) is_end (named_comes E F s) room 0 p (record { rows = omega arith; high = l.high }) (omega (arith, l.bytes)) (omega arith))
      (λ ds q y. let z = y.stored in record { rows = omega (arith, l.bytes); declarations = omega (arith, l.bytes, y.bytes); high = z.high }))

  -- Whatever the source is.
  pub module_fits : (limit room frames : ℕ) → length s / 3 ≤ limit → length s / 17 ≤ room → Fits s (read_module s limit room frames start)
  module_fits limit room frames h k = fits s 20 (read_module s limit room frames start) (module_comes limit room frames h k)
