-- What a step of a reader of terms gives, whatever terms begin with and what closes them.
use mathlib.Core.Path.{◌≡◌, refl}
use Prim.Native.Nat.{ℕ, zero, suc, ◌<◌}
use lib.Dec.{ltb}
use borrow.Author.Tests.{lt-ltb}
use Rattle.token.specs.declared.Token.{Token}
use Rattle.terms.specs.Tree.{Forest, nil, Tree, tree}
use Rattle.terms.specs.Label.{Label}
use Rattle.surface.specs.Reader.{Position, done, Reader}
use Rattle.surface.specs.Reading.{Beginning, leaf, frame, store, finish, several, term}
use Rattle.surface.proofs.Takes.{after_go, require_go}

-- One row more.
abbrev pub stored : Position → Position
stored p = record { offset = p.offset; rows = suc p.rows }

module _ (beginning : Reader Beginning) (close : Reader Token) (limit : ℕ) where
  pub store_takes : (t : Tree Label) (p : Position) → p.rows < limit → store beginning close limit t p ≡ done t (stored p)
  unfolding store
  store_takes t p h = require_go (ltb p.rows limit) _ p _ _ (lt-ltb p.rows limit h) refl

  pub leaf_takes : (i : ℕ) (p q : Position) (m : Label) → beginning p ≡ done (leaf m) q → q.rows < limit → term beginning close limit i p ≡ done (record { label = m; args = nil }) (stored q)
  unfolding term finish
  leaf_takes zero p q m e h = after_go _ _ (leaf m) q _ e (store_takes _ q h)
  leaf_takes (suc i) p q m e h = after_go _ _ (leaf m) q _ e (store_takes _ q h)

  -- A form that p begins with, whose k arguments f stand up to r and whose parenthesis c up to x.
  pub frame_takes : (i : ℕ) (p q r x : Position) (m : Label) (k : ℕ) (f : Forest Label) (c : Token) → beginning p ≡ done (frame m k) q
      → several beginning close limit (term beginning close limit i) k q ≡ done f r → close r ≡ done c x → x.rows < limit
      → term beginning close limit (suc i) p ≡ done (record { label = m; args = f }) (stored x)
  unfolding term finish
  frame_takes i p q r x m k f c e g d h = after_go _ _ (frame m k) q _ e (after_go _ _ f r _ g (after_go _ _ c x _ d (store_takes _ x h)))

  pub several_takes : (one : Reader (Tree Label)) (n : ℕ) (p q r : Position) (t : Tree Label) (f : Forest Label) → one p ≡ done t q → several beginning close limit one n q ≡ done f r
      → several beginning close limit one (suc n) p ≡ done (tree t f) r
  unfolding several
  several_takes one n p q r t f e g = after_go _ _ t q _ e (after_go _ _ f r _ g refl)
