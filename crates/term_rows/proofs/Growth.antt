-- Reading a term goes forward within the source, and stores at most one row for each byte that it passes.
use mathlib.Core.Path.{◌≡◌, refl}
use mathlib.Core.List.{List}
use mathlib.Core.Bool.{Bool, true, false}
use Prim.Native.Nat.{ℕ, zero, suc, ◌+◌, ◌≤◌, ◌<◌}
use native.Mathlib.Omega.{arith}
use lib.Dec.{ltb}
use lib.ListN.{length}
use Rattle.token.specs.declared.Token.{Token}
use Rattle.terms.specs.Label.{Label}
use Rattle.terms.specs.Tree.{Forest, Tree}
use Rattle.surface.specs.Reader.{Position, done, Reader, after}
use Rattle.surface.specs.Reading.{Beginning, leaf, frame, store, finish, several, term}
use Rattle.expects.proofs.Gives.{Gives, given, gives_after}
use Rattle.expects.proofs.Ahead.{Ahead}
use Rattle.term_rows.proofs.Counting.{gives}

-- Terms are read, or none.
record Grew (p q : Position) : Type 0 where
  past : p.offset ≤ q.offset
  rows : p.rows ≤ q.rows
  slow : q.rows + p.offset ≤ p.rows + q.offset

-- A term is read.
pub record Grown (s : List ℕ) (p q : Position) : Type 0 where
  pub past : p.offset < q.offset
  pub high : q.offset ≤ length s
  pub rows : p.rows < q.rows
  pub slow : q.rows + p.offset ≤ p.rows + q.offset

abbrev ahead : {A : Type 0} → List ℕ → Position → A → Position → Type 0
ahead s p a q = Ahead s p q

abbrev grew : Position → Forest Label → Position → Type 0
grew p a q = Grew p q

abbrev grown : List ℕ → Position → Tree Label → Position → Type 0
grown s p t q = Grown s p q

module _ (beginning : Reader Beginning) (close : Reader Token) (limit : ℕ) (s : List ℕ)
    (begins : (p q : Position) (b : Beginning) → beginning p ≡ done b q → Ahead s p q)
    (closes : (p q : Position) (c : Token) → close p ≡ done c q → Ahead s p q) where
  store_grown : (b : Bool) (t : Tree Label) (p q : Position) → ltb q.rows limit ≡ b
      → p.offset < q.offset → q.offset ≤ length s → p.rows ≤ q.rows → suc q.rows + p.offset ≤ p.rows + q.offset
      → Gives (grown s p) (store beginning close limit t q)
  unfolding store
  store_grown true t p q e a h r k = rw (e, store) (record { past = a; high = h; rows = omega arith; slow = k })
  store_grown false t p q e a h r k = rw (e, store) tt

  several_grew : (one : Reader (Tree Label)) → ((p : Position) → Gives (grown s p) (one p)) → (m : ℕ) (p : Position)
      → Gives (grew p) (several beginning close limit one m p)
  unfolding several
  several_grew one h zero p = record { past = omega arith; rows = omega arith; slow = omega arith }
  several_grew one h (suc m) p =
      gives_after (grown s p) (grew p) (one p) _ (h p)
      (λ t q g. gives_after (grew q) (grew p) (several beginning close limit one m q) _ (several_grew one h m q)
      (λ r u k. record { past = omega arith; rows = omega arith; slow = omega arith }))

  module _ (arguments : ℕ → Reader (Forest Label)) (h : (m : ℕ) (p : Position) → Gives (grew p) (arguments m p)) where
    finish_grown : (p : Position) (b : Beginning) (q : Position) → Ahead s p q → Gives (grown s p) (finish beginning close limit arguments b q)
    unfolding finish
    finish_grown p (leaf l) q a = store_grown (ltb q.rows limit) _ p q refl a.past a.high (omega arith) (omega arith)
    finish_grown p (frame l m) q a =
        gives_after (grew q) (grown s p) (arguments m q) _ (h m q)
        (λ f r g. gives_after (ahead s r) (grown s p) (close r) _ (gives (ahead s r) (close r) (λ c u. closes r u c))
        (λ c u z. store_grown (ltb u.rows limit) _ p u refl (omega arith) z.high (omega arith) (omega arith)))

    begun_grown : (p : Position) → Gives (grown s p) (after (beginning p) (finish beginning close limit arguments))
    begun_grown p =
        gives_after (ahead s p) (grown s p) (beginning p) _ (gives (ahead s p) (beginning p) (λ b q. begins p q b)) (finish_grown p)

  term_gives : (f : ℕ) (p : Position) → Gives (grown s p) (term beginning close limit f p)
  unfolding term
  term_gives zero p = begun_grown _ (λ m q. tt) p
  term_gives (suc f) p = begun_grown _ (several_grew (term beginning close limit f) (term_gives f)) p

  pub term_grown : (f : ℕ) (p q : Position) (t : Tree Label) → term beginning close limit f p ≡ done t q → Grown s p q
  term_grown f p q t e = given (grown s p) (term_gives f p) e
