-- What the lookup gives at a place is what binds the reference there: its row, and the number of binders between.
use mathlib.Core.Path.{◌≡◌, refl, sym, ap, ◌∙◌, subst}
use mathlib.Core.Logic.{by_cases}
use mathlib.Core.List.{List, [], ◌∷◌, ◌++◌, map}
use mathlib.Core.Option.{Option, none, some}
use mathlib.Core.Bool.{Bool, true, false, cond}
use Prim.Native.Nat.{ℕ, ◌+◌}
use native.Mathlib.Omega.{arith}
use lib.ListN.{length, length-append}
use Rattle.terms.specs.Tree.{Place, then, maybe, pick, next}
use Rattle.terms.specs.Label.{Name, Named, Term}
use Rattle.terms.specs.Resolution.{covers, bound_name}
use Rattle.terms.proofs.Names.{called?}
use Rattle.terms.proofs.Binders.{down, own as own-binder, scope, first, first_yes, first_no, first_down, binder_place}
use Rattle.terms.specs.RowAt.{tree_row, row_at}
use Rattle.binding.specs.Binds.{binders_around, between}
use Rattle.terms.specs.Lookup.{Local, local_of, Found, found, lookup}
use Rattle.terms.proofs.Lookup.{lookup_yes, lookup_no, behind, lookup_some, lookup_none}

-- What a term of row k adds to the locals in its argument i.
abbrev pub own : Named → ℕ → ℕ → List Local
own t k i = cond (covers t.kind i) (local_of (bound_name t.kind t.name) k ∷ []) []

-- The locals at a place of a term whose first row is n: the binders around it, each with its row.
abbrev pub located : ℕ → Place → Term → List Local
located n [] t = []
located n (i ∷ p) t = maybe (pick t.args i) [] (λ u. located (tree_row n t.args i) p u ++ own t.label (next n t.args) i)

length_own : (b : Bool) (x : Local) → length {A = Local} (cond b (x ∷ []) []) ≡ cond b 1 0
length_own true x = refl
length_own false x = refl

-- As many locals as binders.
length_located : (p : Place) (n : ℕ) (t : Term) → length (located n p t) ≡ binders_around p t
length_located [] n t = refl
length_located (i ∷ p) n t = go (length_located p) (pick t.args i)
  where
    go : ((n : ℕ) (t : Term) → length (located n p t) ≡ binders_around p t) → (o : Option Term)
        → length (maybe o [] (λ u. located (tree_row n t.args i) p u ++ own t.label (next n t.args) i)) ≡ maybe o 0 (λ u. binders_around p u + cond (covers t.label.kind i) 1 0)
    go ih none = refl
    go ih (some u) =
        omega (
          arith,
          length-append (located (tree_row n t.args i) p u) (own t.label (next n t.args) i),
          ih (tree_row n t.args i) u,
          length_own (covers t.label.kind i) (local_of (bound_name t.label.kind t.label.name) (next n t.args)),
        )

module _ (x : Name) where
  -- The lookup's answer l for what binds x, if something does.
  abbrev pub Gives : ℕ → Place → Term → Option Found → Option Place → Type 0
  Gives n p t l none = l ≡ none
  Gives n p t l (some q) = (r : ℕ) × (row_at n q t ≡ some r) × (l ≡ some (found (between q p t) r))

  -- A term's own binder, behind c others.
  own_gives : (n c i : ℕ) (p : Place) (t : Term) → between [] (i ∷ p) t ≡ c → Gives n (i ∷ p) t (behind c (lookup x (own t.label (next n t.args) i))) (first x (own-binder t.label i))
  unfolding lookup
  own_gives n c i p t e = go (covers t.label.kind i)
    where
      o : Option Name
      o = bound_name t.label.kind t.label.name

      go : (b : Bool) → Gives n (i ∷ p) t (behind c (lookup x (cond b (local_of o (next n t.args) ∷ []) []))) (first x (cond b (record { called = o; place = [] } ∷ []) []))
      go false = refl
      go true = by_cases (called? x o)
          (λ y. rw (first_yes x (record { called = o; place = [] }) [] y, lookup_yes x (local_of o (next n t.args)) [] y)
          (next n t.args, refl, ap (λ (m : ℕ). some (found m (next n t.args))) (let z : c + 0 ≡ between [] (i ∷ p) t = omega arith in z)))
          (λ y. rw (first_no x (record { called = o; place = [] }) [] y, lookup_no x (local_of o (next n t.args)) [] y) refl)

  pub lookup_located : (p : Place) (n : ℕ) (t : Term) → Gives n p t (lookup x (located n p t)) (binder_place x p t)
  unfolding lookup
  lookup_located [] n t = refl
  lookup_located (i ∷ p) n t = go (lookup_located p (tree_row n t.args i)) (pick t.args i) refl
    where
      m : ℕ
      m = tree_row n t.args i

      inside : (u : Term) → pick t.args i ≡ some u → (o : Option Place) → first x (scope p u) ≡ o → Gives m p u (lookup x (located m p u)) o
          → Gives n (i ∷ p) t (lookup x (located m p u ++ own t.label (next n t.args) i)) (maybe o (first x (own-binder t.label i)) (λ q. some (i ∷ q)))
      inside u k none f h =
          subst (λ (l : Option Found). Gives n (i ∷ p) t l (first x (own-binder t.label i))) (sym (lookup_none x (located m p u) (own t.label (next n t.args) i) h))
          (own_gives n (length (located m p u)) i p t (ap (λ (o : Option Term). maybe o 0 (binders_around p)) k ∙ sym (length_located p m u)))
      inside u k (some q) f h = (
        h.0,
        ap (λ (o : Option Term). then o (row_at m q)) k ∙ h.1,
        lookup_some x (located m p u) (own t.label (next n t.args) i) _ h.2 ∙ ap (λ (c : ℕ). some (found c h.0)) (ap (λ (o : Option Term). maybe o 0 (between q p)) (sym k)),
      )

      go : ((u : Term) → Gives m p u (lookup x (located m p u)) (binder_place x p u)) → (o : Option Term) → pick t.args i ≡ o
          → Gives n (i ∷ p) t (lookup x (maybe o [] (λ u. located m p u ++ own t.label (next n t.args) i))) (first x (maybe o [] (λ u. map (down i) (scope p u) ++ own-binder t.label i)))
      go ih none k = refl
      go ih (some u) k =
          subst (Gives n (i ∷ p) t (lookup x (located m p u ++ own t.label (next n t.args) i))) (sym (first_down x i (scope p u) (own-binder t.label i)))
          (inside u k (first x (scope p u)) refl (ih u))
