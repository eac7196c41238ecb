-- The stacks read from a work area: how many items they have, and that only their own words count.
use Prim.Native.Nat.{ℕ, zero, suc, ◌+◌, ◌*◌, ◌≤◌, ◌<◌}
use mathlib.Core.Path.{◌≡◌, refl, ◌∙◌, ap}
use mathlib.Core.List.{List, [], ◌∷◌, ◌++◌}
use native.Mathlib.Omega.{arith}
use native.Mathlib.Nat.{add-zero, add-suc}
use lib.ListN.{length, get_or, take, length-append}
use lib.Seq.{take-append-le, take_all}
use Rattle.terms.specs.Label.{part}
use Rattle.terms.specs.Resolution.{bound_name}
use Rattle.terms.specs.Lookup.{local_of}
use Rattle.scope.specs.Scope.{in_scope}
use Rattle.stacks.specs.Stacks.{work_of, works_in, values_in}

pub length_works : (w : List ℕ) (t : ℕ) → length (works_in w t) ≡ t
unfolding works_in
length_works w zero = refl
length_works w (suc t) = ap suc (length_works w t)

pub length_values : (w : List ℕ) (v : ℕ) → length (values_in w v) ≡ v
unfolding values_in
length_values w zero = refl
length_values w (suc v) = omega (arith, length-append (values_in w v) (get_or w (2048 + v) 0 ∷ []), length_values w v)

-- The values below the top.
pub values_below : (w : List ℕ) (b n : ℕ) → take b (values_in w (b + n)) ≡ values_in w b
unfolding values_in
values_below w b zero = ap (λ (k : ℕ). take b (values_in w k)) (add-zero b) ∙ take_all b (values_in w b) (omega (arith, length_values w b))
values_below w b (suc n) =
    ap (λ (k : ℕ). take b (values_in w k)) (add-suc b n)
    ∙ take-append-le b (values_in w (b + n)) (get_or w (2048 + (b + n)) 0 ∷ []) (omega (arith, length_values w (b + n)))
    ∙ values_below w b n

-- Two work areas have the same words between two places.
abbrev pub Same : List ℕ → List ℕ → ℕ → ℕ → Type 0
Same w w' from to = (j : ℕ) → from ≤ j → j < to → get_or w' j 0 ≡ get_or w j 0

module _ (w w' : List ℕ) where
  pub same_works : (t : ℕ) → Same w w' 5120 (5120 + t * 3) → works_in w' t ≡ works_in w t
  unfolding works_in
  same_works zero h = refl
  same_works (suc t) h =
      let i = 5120 + t * 3 in
      let tail = same_works t (λ j p q. h j p (omega arith)) in
      let a = h i (omega arith) (omega arith) in
      let b = h (i + 1) (omega arith) (omega arith) in
      let c = h (i + 2) (omega arith) (omega arith) in
      λ k. work_of (a k) (b k) (c k) ∷ tail k

  pub same_values : (v : ℕ) → Same w w' 2048 (2048 + v) → values_in w' v ≡ values_in w v
  unfolding values_in
  same_values zero h = refl
  same_values (suc v) h =
      let front = same_values v (λ j p q. h j p (omega arith)) in
      let a = h (2048 + v) (omega arith) (omega arith) in
      λ k. front k ++ (a k ∷ [])

  pub same_locals : (s : List ℕ) (l : ℕ) → Same w w' 0 (l * 2) → Same w w' 1024 (1024 + l) → Same w w' 1536 (1536 + l) → in_scope s w' l ≡ in_scope s w l
  unfolding in_scope
  same_locals s zero h r n = refl
  same_locals s (suc l) h r n =
      let tail = same_locals s l (λ j p q. h j p (omega arith)) (λ j p q. r j p (omega arith)) (λ j p q. n j p (omega arith)) in
      let a = h (l * 2) (omega arith) (omega arith) in
      let b = h (l * 2 + 1) (omega arith) (omega arith) in
      let c = r (1024 + l) (omega arith) (omega arith) in
      let d = n (1536 + l) (omega arith) (omega arith) in
      λ k. local_of (bound_name (d k) (part s (a k) (b k))) (c k) ∷ tail k
