-- A term has three bytes and more for each row that it stores, so that rows for a third of the source's bytes are never short.
use mathlib.Core.Path.{◌≡◌, refl}
use mathlib.Core.Bool.{Bool, true, false}
use mathlib.Core.List.{List}
use Prim.Native.Nat.{ℕ, zero, suc, ◌+◌, ◌*◌, ◌/◌, ◌≤◌}
use native.Mathlib.Omega.{arith}
use lib.Dec.{ltb}
use lib.ListN.{length}
use borrow.Author.Tests.{ltb-false}
use Rattle.token.specs.declared.Token.{Token}
use Rattle.terms.specs.Forms.{Edition}
use Rattle.terms.specs.Tree.{Forest, Tree}
use Rattle.terms.specs.Label.{Label}
use Rattle.surface.specs.Reader.{Position, Reader, after}
use Rattle.surface.specs.Reading.{Beginning, leaf, frame, store, finish, several, term, closing, beginning}
use Rattle.least_storage.proofs.FromSource.{Comes, comes_after}
use Rattle.least_storage.proofs.TokenBytes.{Ahead, Gap, closing_ahead}
use Rattle.least_storage.proofs.FormBytes.{Fine, Begun, beginning_comes}

-- A position within a source of so many bytes, with three bytes for each row that is stored.
pub record Held (hi : ℕ) (p : Position) : Type 0 where
  pub rows : p.rows * 3 ≤ p.offset
  pub high : p.offset ≤ hi

-- From p to q n rows and more are stored, and there are three bytes for each of them.
pub record Stored (hi n : ℕ) (p q : Position) : Type 0 where
  pub rows : p.rows + n ≤ q.rows
  pub slow : p.offset + q.rows * 3 ≤ q.offset + p.rows * 3
  pub high : q.offset ≤ hi

-- A term: it has a byte more where no atom stands.
pub record Grown (hi : ℕ) (gap : Type 0) (p q : Position) : Type 0 where
  pub stored : Stored hi 1 p q
  pub more : gap → p.offset + 4 ≤ q.offset

module _ (beginning : Reader Beginning) (close : Reader Token) (limit hi : ℕ) (gap : ℕ → Type 0) (enough : hi / 3 ≤ limit)
    (begins : (p : Position) → Comes (Begun hi (gap p.offset) p) (beginning p)) (closes : (p : Position) → Comes (Ahead hi p) (close p)) where
  abbrev TermFrom : Position → Tree Label → Position → Type 0
  TermFrom p t q = Grown hi (gap p.offset) p q

  abbrev TermsFrom : ℕ → Position → Forest Label → Position → Type 0
  TermsFrom n p f q = Stored hi n p q

  -- There is room for the row of a term that began at p.
  store_comes : (b : Bool) (t : Tree Label) (p q : Position) → ltb q.rows limit ≡ b → Held hi p → q.offset ≤ hi → p.rows ≤ q.rows
      → p.offset + q.rows * 3 + 3 ≤ q.offset + p.rows * 3 → (gap p.offset → p.offset + 4 ≤ q.offset)
      → Comes (TermFrom p) (store beginning close limit t q)
  unfolding store
  store_comes true t p q e h i r k g = rw (e, store) (record { stored = record { rows = omega arith; slow = omega arith; high = i }; more = g })
  store_comes false t p q e h i r k g = absurd (omega (arith, ltb-false q.rows limit e))

  several_comes : (one : Reader (Tree Label)) → ((p : Position) → Held hi p → Comes (TermFrom p) (one p)) → (n : ℕ) (p : Position) → Held hi p
      → Comes (TermsFrom n p) (several beginning close limit one n p)
  unfolding several
  several_comes one h zero p i = record { rows = omega arith; slow = omega arith; high = i.high }
  several_comes one h (suc n) p i =
      comes_after (TermFrom p) (TermsFrom (suc n) p) (one p) _ (h p i)
      (λ t q g. let w = g.stored in
      comes_after (TermsFrom n q) (TermsFrom (suc n) p) (several beginning close limit one n q) _
      (several_comes one h n q (record { rows = omega arith; high = w.high }))
      (λ r u k. record { rows = omega arith; slow = omega arith; high = k.high }))

  module _ (arguments : ℕ → Reader (Forest Label)) (h : (n : ℕ) (p : Position) → Held hi p → Comes (TermsFrom n p) (arguments n p)) where
    finish_comes : (p : Position) → Held hi p → (b : Beginning) (q : Position) → Begun hi (gap p.offset) p b q
        → Comes (TermFrom p) (finish beginning close limit arguments b q)
    unfolding finish
    finish_comes p i (leaf l) q a = store_comes (ltb q.rows limit) _ p q refl i a.high (omega arith) (omega arith) a.more
    finish_comes p i (frame l n) q a =
        comes_after (TermsFrom n q) (TermFrom p) (arguments n q) _ (h n q (record { rows = omega arith; high = a.high }))
        (λ f r g. comes_after (Ahead hi r) (TermFrom p) (close r) _ (closes r)
        (λ c u z. store_comes (ltb u.rows limit) _ p u refl i (omega arith) (omega arith) (omega arith) (λ y. omega arith)))

    begun_comes : (p : Position) → Held hi p → Comes (TermFrom p) (after (beginning p) (finish beginning close limit arguments))
    begun_comes p i = comes_after (Begun hi (gap p.offset) p) (TermFrom p) (beginning p) _ (begins p) (finish_comes p i)

  pub term_comes : (frames : ℕ) (p : Position) → Held hi p → Comes (λ t q. Grown hi (gap p.offset) p q) (term beginning close limit frames p)
  unfolding term
  term_comes zero p i = begun_comes _ (λ n q j. refl) p i
  term_comes (suc frames) p i = begun_comes _ (several_comes (term beginning close limit frames) (term_comes frames)) p i

-- The terms of an edition.
module _ (E : Edition) (F : Fine E) (s : List ℕ) where
  pub whole_comes : (limit frames : ℕ) → length s / 3 ≤ limit → (p : Position) → Held (length s) p
      → Comes (λ t q. Grown (length s) (Gap (E.tokens s) p.offset) p q) (term (beginning E s) (closing (E.tokens s)) limit frames p)
  whole_comes limit frames h =
      term_comes (beginning E s) (closing (E.tokens s)) limit (length s) (Gap (E.tokens s)) h (beginning_comes E F s)
      (closing_ahead (E.tokens s) (length s) (F.tokens s)) frames
