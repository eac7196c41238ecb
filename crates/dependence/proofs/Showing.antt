-- Which places show j: the function of First is true exactly of those that the relation of Depends has.
use mathlib.Core.Path.{◌≡◌, refl, sym, ap, ◌∙◌}
use mathlib.Core.Logic.{◌↔◌, ◌⊎◌, inl, inr}
use mathlib.Core.Bool.{Bool, true, false, ◌||◌}
use mathlib.Core.List.{List}
use mathlib.Core.Option.{Option}
use Prim.Native.Nat.{ℕ, zero, suc, ◌<◌, ◌≤◌}
use native.Mathlib.Omega.{arith}
use lib.Dec.{eqb}
use borrow.Author.Tests.{eqb-true, eq-eqb}
use Rattle.terms.specs.Resolution.{CoreDeclaration}
use Rattle.dependence.specs.Depends.{Among, Shows, itself, by_type, by_body}
use Rattle.dependence.specs.First.{counted_rows, first_naming, is_found, shows_by, shows}
use Rattle.dependence.proofs.Naming.{found_passes, passes_found, first_same}
use Rattle.dependence.proofs.Counted.{either_own, counted_own, type_counts, body_counts, through}
use Rattle.dependence.proofs.Earlier.{Earlier}

or-true : (a b : Bool) → a || b ≡ true → (a ≡ true) ⊎ (b ≡ true)
or-true true b e = inl refl
or-true false b e = inr e

or_right : (a b : Bool) → b ≡ true → a || b ≡ true
or_right true b e = refl
or_right false b e = e

-- Two tests that are true of the same.
same_test : {X : Type 0} (a b : Bool) → ((a ≡ true) ↔ X) → ((b ≡ true) ↔ X) → a ≡ b
same_test true b f g = sym (g.1 (f.0 refl))
same_test false true f g = f.1 (g.0 refl)
same_test false false f g = refl

module _ (m : List CoreDeclaration) (j : ℕ) where
  -- What some steps find shows j.
  pub found_shows : (n k : ℕ) → shows_by n m j k ≡ true → Shows m j k
  unfolding shows_by
  found_shows zero k e = itself (eqb-true k j e)
  found_shows (suc n) k e = go (found_shows n) (or-true (eqb k j) _ e)
    where
      go : ((p : ℕ) → shows_by n m j p ≡ true → Shows m j p) → (eqb k j ≡ true) ⊎ (is_found (first_naming (shows_by n m j) (counted_rows m k)) ≡ true) → Shows m j k
      go ih (inl f) = itself (eqb-true k j f)
      go ih (inr f) = let w = found_passes (shows_by n m j) (counted_rows m k) f in through m k w.1.place w.0 j w.1.among (ih w.1.place w.1.passes)

  itself_found : (n k : ℕ) → k ≡ j → shows_by n m j k ≡ true
  unfolding shows_by
  itself_found zero k e = eq-eqb k j e
  itself_found (suc n) k e = ap (λ (b : Bool). b || is_found (first_naming (shows_by n m j) (counted_rows m k))) (eq-eqb k j e)

  -- A row that counts is one step more.
  one_more : (k p r : ℕ) → p < k → Among p r (counted_rows m k) → ((n : ℕ) → p ≤ n → shows_by n m j p ≡ true) → (n : ℕ) → k ≤ n → shows_by n m j k ≡ true
  unfolding shows_by
  one_more k p r l a h zero e = absurd (omega arith)
  one_more k p r l a h (suc n) e =
      or_right (eqb k j) _ (passes_found (shows_by n m j) (counted_rows m k) r (record { place = p; among = a; passes = h n (omega arith) }))

  -- Rows name earlier places.
  module _ (earlier : Earlier m) where
    -- As many steps as the place's number find what shows j.
    pub shows_found : (k : ℕ) → Shows m j k → (n : ℕ) → k ≤ n → shows_by n m j k ≡ true
    shows_found k (itself e) n h = itself_found n k e
    shows_found k (by_type {p = p} r a s) n h = one_more k p r (earlier k p r (either_own m k p r (inl a))) (type_counts m k p r a) (shows_found p s) n h
    shows_found k (by_body {p = p} r t a s) n h = one_more k p r (earlier k p r (either_own m k p r (inr a))) (body_counts m k p r t a) (shows_found p s) n h

    pub shows_exactly : (n k : ℕ) → k ≤ n → (shows_by n m j k ≡ true) ↔ Shows m j k
    shows_exactly n k h = (found_shows n k, λ s. shows_found k s n h)

    -- So more steps find no more, and the steps can be left out.
    enough : (n k : ℕ) → k ≤ n → shows_by n m j k ≡ shows m j k
    enough n k h = same_test (shows_by n m j k) (shows m j k) (shows_exactly n k h) (shows_exactly k k (omega arith))

    pub shows_rule : (k : ℕ) → shows m j k ≡ (eqb k j || is_found (first_naming (shows m j) (counted_rows m k)))
    unfolding shows_by
    shows_rule k =
        let same = first_same (shows_by k m j) (shows m j) (counted_rows m k) (λ p r a. enough k p (omega (arith, earlier k p r (counted_own m k p r a)))) in
        sym (enough (suc k) k (omega arith)) ∙ ap (λ (o : Option ℕ). eqb k j || is_found o) same

    -- No place below j shows it.
    pub shows_upwards : (k : ℕ) → Shows m j k → j ≤ k
    shows_upwards k (itself e) = omega arith
    shows_upwards k (by_type {p = p} r a s) = omega (arith, shows_upwards p s, earlier k p r (either_own m k p r (inl a)))
    shows_upwards k (by_body {p = p} r t a s) = omega (arith, shows_upwards p s, earlier k p r (either_own m k p r (inr a)))

    pub none_below : (k : ℕ) → k < j → shows m j k ≡ false
    none_below k h = go (shows m j k) (found_shows k k)
      where
        go : (b : Bool) → (b ≡ true → Shows m j k) → b ≡ false
        go true s = absurd (omega (arith, shows_upwards k (s refl)))
        go false s = refl
