-- The rows that are stored when a term was read: one for each of its nodes.
use mathlib.Core.Path.{◌≡◌, refl, ◌∙◌, ap, subst}
use mathlib.Core.Bool.{Bool, true, false}
use Prim.Native.Nat.{ℕ, zero, suc}
use lib.Dec.{ltb}
use Rattle.token.specs.declared.Token.{Token}
use Rattle.terms.specs.Label.{Label}
use Rattle.terms.specs.Tree.{Forest, nil, Tree, tree, next}
use Rattle.surface.specs.Reader.{Position, Result, done, refused, Reader, after}
use Rattle.surface.specs.Reading.{Beginning, leaf, frame, store, finish, several, term}
use Rattle.expects.proofs.Gives.{Gives, given, gives_after}

pub gives : {A : Type 0} (P : A → Position → Type 0) (x : Result A) → ((a : A) (q : Position) → x ≡ done a q → P a q) → Gives P x
gives P (done a q) h = h a q refl
gives P (refused r) h = tt

-- So many rows are stored.
abbrev pub Rows : {A : Type 0} → ℕ → A → Position → Type 0
Rows n a q = q.rows ≡ n

-- Trees whose first row is number n were read, and their rows are stored.
abbrev pub RowsOf : ℕ → Forest Label → Position → Type 0
RowsOf n a q = q.rows ≡ next n a

abbrev pub RowsOfTree : ℕ → Tree Label → Position → Type 0
RowsOfTree n t q = RowsOf n (tree t nil) q

module _ (beginning : Reader Beginning) (close : Reader Token) (limit : ℕ) where
  store_counted : (b : Bool) (t : Tree Label) (p : Position) (n : ℕ) → ltb p.rows limit ≡ b → p.rows ≡ next n t.args
      → Gives (RowsOfTree n) (store beginning close limit t p)
  unfolding store
  store_counted true t p n e h = rw (e, store) (ap suc h)
  store_counted false t p n e h = rw (e, store) tt

  pub several_counted : (one : Reader (Tree Label)) → ((p : Position) → Gives (RowsOfTree p.rows) (one p)) → (m : ℕ) (p : Position)
      → Gives (RowsOf p.rows) (several beginning close limit one m p)
  unfolding several
  several_counted one h zero p = refl
  several_counted one h (suc m) p =
      gives_after (RowsOfTree p.rows) (RowsOf p.rows) (one p) _ (h p)
      (λ t q e. gives_after (RowsOf q.rows) (RowsOf p.rows) (several beginning close limit one m q) _ (several_counted one h m q)
      (λ r u k. k ∙ ap (λ (n : ℕ). next n r) e))

  module _ (begins : (p q : Position) (b : Beginning) → beginning p ≡ done b q → q.rows ≡ p.rows)
      (closes : (p q : Position) (c : Token) → close p ≡ done c q → q.rows ≡ p.rows) where
    pub begins_counted : (p : Position) → Gives (Rows p.rows) (beginning p)
    begins_counted p = gives (Rows p.rows) (beginning p) (λ b q. begins p q b)

    pub closes_counted : (p : Position) → Gives (Rows p.rows) (close p)
    closes_counted p = gives (Rows p.rows) (close p) (λ c q. closes p q c)

    module _ (arguments : ℕ → Reader (Forest Label)) (h : (m : ℕ) (p : Position) → Gives (RowsOf p.rows) (arguments m p)) where
      finish_counted : (b : Beginning) (p : Position) → Gives (RowsOfTree p.rows) (finish beginning close limit arguments b p)
      unfolding finish
      finish_counted (leaf l) p = store_counted (ltb p.rows limit) _ p p.rows refl refl
      finish_counted (frame l m) p =
          gives_after (RowsOf p.rows) (RowsOfTree p.rows) (arguments m p) _ (h m p)
          (λ a q e. gives_after (Rows q.rows) (RowsOfTree p.rows) (close q) _ (closes_counted q)
          (λ c u k. store_counted (ltb u.rows limit) _ u p.rows refl (k ∙ e)))

      begun_counted : (p : Position) → Gives (RowsOfTree p.rows) (after (beginning p) (finish beginning close limit arguments))
      begun_counted p =
          gives_after (Rows p.rows) (RowsOfTree p.rows) (beginning p) _ (begins_counted p)
          (λ b q e. subst (λ (n : ℕ). Gives (RowsOfTree n) (finish beginning close limit arguments b q)) e (finish_counted b q))

    pub term_counted : (f : ℕ) (p : Position) → Gives (RowsOfTree p.rows) (term beginning close limit f p)
    unfolding term
    term_counted zero p = begun_counted _ (λ m q. tt) p
    term_counted (suc f) p = begun_counted _ (several_counted (term beginning close limit f) (term_counted f)) p

    pub term_next : (f : ℕ) (p q : Position) (t : Tree Label) → term beginning close limit f p ≡ done t q → q.rows ≡ next p.rows (tree t nil)
    term_next f p q t e = given (RowsOfTree p.rows) (term_counted f p) e
