-- A term is read with as many frames as its tree has open together, and with no fewer.
use Rattle.token.specs.declared.Class.{Class}
use mathlib.Core.Path.{◌≡◌, refl, sym, ◌∙◌, ap, subst}
use mathlib.Core.Bool.{Bool, true, false}
use Prim.Native.Nat.{ℕ, zero, suc, ◌≤◌}
use native.Mathlib.Omega.{arith}
use lib.Dec.{ltb}
use Rattle.token.specs.declared.Token.{Token}
use Rattle.terms.specs.Label.{Label}
use Rattle.terms.specs.Tree.{Forest, nil, node, Tree, tree}
use Rattle.surface.specs.Reader.{Position, Result, done, refused, Reader, after, refuse, nowhere}
use Rattle.surface.specs.Reading.{Beginning, leaf, frame, store, finish, several, term}
use Rattle.surface.specs.Sizes.{opens, frames_of}
use Rattle.surface.proofs.Steps.{no_done, after_elim, done_inj}
use Rattle.expects.proofs.Gives.{Gives, given, gives_as, gives_after}
use Rattle.term_rows.proofs.Readers.{Arities}

-- A form's arguments have one frame fewer open than the form.
arguments_within : (a : Forest Label) (g : ℕ) → opens a (suc (frames_of a)) ≤ suc g → frames_of a ≤ g
arguments_within nil g h = omega arith
arguments_within (node l a r) g h = omega arith

form_within : (a : Forest Label) (g : ℕ) → frames_of a ≤ g → opens a (suc (frames_of a)) ≤ suc g
form_within nil g h = omega arith
form_within (node l a r) g h = omega arith

abbrev Shallow : ℕ → Tree Label → Position → Type 0
Shallow f t q = frames_of (tree t nil) ≤ f

abbrev ShallowAll : ℕ → Forest Label → Position → Type 0
ShallowAll f a q = frames_of a ≤ f

module _ (beginning : Reader Beginning) (close : Reader Token) (limit : ℕ) where
  store_shallow : (f : ℕ) (t : Tree Label) (b : Bool) (p : Position) → ltb p.rows limit ≡ b → frames_of (tree t nil) ≤ f → Gives (Shallow f) (store beginning close limit t p)
  unfolding store
  store_shallow f t true p e h = rw (e, store) h
  store_shallow f t false p e h = rw (e, store) tt

  several_shallow : (f : ℕ) (one : Reader (Tree Label)) → ((p : Position) → Gives (Shallow f) (one p)) → (m : ℕ) (p : Position)
      → Gives (ShallowAll f) (several beginning close limit one m p)
  unfolding several
  several_shallow f one h zero p = omega arith
  several_shallow f one h (suc m) p =
      gives_after (Shallow f) (ShallowAll f) (one p) _ (h p)
      (λ t q k. gives_after (ShallowAll f) (ShallowAll f) (several beginning close limit one m q) _ (several_shallow f one h m q)
      (λ r u l. omega (arith, k, l)))

  any : {A : Type 0} (x : Result A) → Gives (λ a q. Unit {0}) x
  any (done a q) = tt
  any (refused r) = tt

  finish_shallow : (f : ℕ) (A : ℕ → Reader (Forest Label)) → ((m : ℕ) (p : Position) → Gives (λ a q. opens a (suc (frames_of a)) ≤ f) (A m p)) → (b : Beginning) (p : Position)
      → Gives (Shallow f) (finish beginning close limit A b p)
  unfolding finish
  finish_shallow f A h (leaf l) p = store_shallow f _ (ltb p.rows limit) p refl (omega arith)
  finish_shallow f A h (frame l m) p =
      gives_after (λ a q. opens a (suc (frames_of a)) ≤ f) (Shallow f) (A m p) _ (h m p)
      (λ a q k. gives_after (λ c u. Unit {0}) (Shallow f) (close q) _ (any (close q))
      (λ c u z. store_shallow f (record { label = l; args = a }) (ltb u.rows limit) u refl (omega (arith, k))))

  begun_shallow : (f : ℕ) (A : ℕ → Reader (Forest Label)) → ((m : ℕ) (p : Position) → Gives (λ a q. opens a (suc (frames_of a)) ≤ f) (A m p)) → (p : Position)
      → Gives (Shallow f) (after (beginning p) (finish beginning close limit A))
  begun_shallow f A h p = gives_after (λ b q. Unit {0}) (Shallow f) (beginning p) _ (any (beginning p)) (λ b q z. finish_shallow f A h b q)

  term_shallow : (f : ℕ) (p : Position) → Gives (Shallow f) (term beginning close limit f p)
  unfolding term
  term_shallow zero p = begun_shallow 0 _ (λ m q. tt) p
  term_shallow (suc f) p =
      begun_shallow (suc f) _
      (λ m q. gives_as (ShallowAll f) (λ a u. opens a (suc (frames_of a)) ≤ suc f) (several beginning close limit (term beginning close limit f) m q) (several_shallow f (term beginning close limit f) (term_shallow f) m q) (λ a u h. form_within a f h)) p

  -- It has no more open than it was read with.
  pub term_needs : (f : ℕ) (p q : Position) (t : Tree Label) → term beginning close limit f p ≡ done t q → frames_of (tree t nil) ≤ f
  term_needs f p q t e = given (Shallow f) (term_shallow f p) e

  -- Terms that one reader reads another reads as well, if no more than g are open in them.
  abbrev As : ℕ → Reader (Tree Label) → Reader (Tree Label) → Type 0
  As g one two = (p q : Position) (t : Tree Label) → one p ≡ done t q → frames_of (tree t nil) ≤ g → two p ≡ done t q

  several_as : (g : ℕ) (one two : Reader (Tree Label)) → As g one two → (m : ℕ) (p q : Position) (a : Forest Label) → several beginning close limit one m p ≡ done a q → frames_of a ≤ g
      → several beginning close limit two m p ≡ done a q
  unfolding several
  several_as g one two h zero p q a e k = e
  several_as g one two h (suc m) p q a e k =
      after_elim (one p) _ a q e (λ t v f e₁.
      after_elim (several beginning close limit one m v) _ a q e₁ (λ r u f₁ e₂.
      let i : frames_of (tree t r) ≤ g = subst (λ (x : Forest Label). frames_of x ≤ g) (sym (done_inj e₂).0) k in
      rw (h p v t f (omega (arith, i)), several_as g one two h m v u r f₁ (omega (arith, i))) e₂))

  -- At least one argument was read.
  pub some_argument : {P : Type 0} (one : Reader (Tree Label)) (m : ℕ) (p q : Position) → several beginning close limit one (suc m) p ≡ done nil q → P
  unfolding several
  some_argument one m p q e =
      after_elim (one p) _ nil q e (λ t v f e₁.
      after_elim (several beginning close limit one m v) _ nil q e₁ (λ r u f₁ e₂.
      absurd (let z : ◌≡◌ {A = ℕ} 0 1 = cc (done_inj e₂).0 in omega arith)))

  module _ (A B : ℕ → Reader (Forest Label)) (g : ℕ)
      (h : (m : ℕ) → 1 ≤ m → (p q : Position) (a : Forest Label) → A m p ≡ done a q → opens a (suc (frames_of a)) ≤ g → B m p ≡ done a q) where
    store_is : (t u : Tree Label) (b : Bool) (p q : Position) → ltb p.rows limit ≡ b → store beginning close limit t p ≡ done u q → t ≡ u
    unfolding store
    store_is t u true p q k e = (done_inj (rw (k, store) at e)).0
    store_is t u false p q k e = no_done (rw (k, store) at e)

    finish_as : (b : Beginning) → ((l : Label) (m : ℕ) → b ≡ frame l m → 1 ≤ m) → (p q : Position) (t : Tree Label) → finish beginning close limit A b p ≡ done t q → frames_of (tree t nil) ≤ g
        → finish beginning close limit B b p ≡ done t q
    unfolding finish
    finish_as (leaf l) i p q t e k = e
    finish_as (frame l m) i p q t e k =
        after_elim (A m p) _ t q e (λ a v f e₁.
        after_elim (close v) _ t q e₁ (λ c u f₁ e₂.
        let j : frames_of (tree (record { label = l; args = a }) nil) ≤ g =
        subst (λ (x : Tree Label). frames_of (tree x nil) ≤ g) (sym (store_is (record { label = l; args = a }) t (ltb u.rows limit) u q refl e₂)) k in
        rw (h m (i l m refl) p v a f (omega (arith, j)), f₁) e₂))

    begun_as : Arities beginning → (p q : Position) (t : Tree Label) → after (beginning p) (finish beginning close limit A) ≡ done t q → frames_of (tree t nil) ≤ g
        → after (beginning p) (finish beginning close limit B) ≡ done t q
    begun_as arities p q t e k =
        after_elim (beginning p) _ t q e (λ b v f e₁.
        rw f (finish_as b (λ l m i. (arities p v l m (f ∙ ap (λ (x : Beginning). done x v) i)).1) v q t e₁ k))

  -- With as many frames as it has open it is read.
  pub term_reads : Arities beginning → (f g : ℕ) (p q : Position) (t : Tree Label) → term beginning close limit f p ≡ done t q → frames_of (tree t nil) ≤ g
      → term beginning close limit g p ≡ done t q
  unfolding term
  term_reads arities zero zero p q t e k = e
  term_reads arities zero (suc g) p q t e k = begun_as _ _ (suc g) (λ m i u v a z w. no_done z) arities p q t e k
  term_reads arities (suc f) zero p q t e k =
      begun_as _ _ 0 (λ m i u v a z w. none m i u v a z w) arities p q t e k
    where
      none : (m : ℕ) → 1 ≤ m → (u v : Position) (a : Forest Label) → several beginning close limit (term beginning close limit f) m u ≡ done a v → opens a (suc (frames_of a)) ≤ 0 → refuse (nowhere Class.Frames) u ≡ done a v
      none (suc m) i u v nil z w = some_argument (term beginning close limit f) m u v z
      none (suc m) i u v (node l a r) z w = absurd (omega arith)
      none zero i u v a z w = absurd (omega arith)
  term_reads arities (suc f) (suc g) p q t e k =
      begun_as _ _ (suc g)
      (λ m i u v a z w. several_as g (term beginning close limit f) (term beginning close limit g) (term_reads arities f g) m u v a z (arguments_within a g w)) arities p q t e k
