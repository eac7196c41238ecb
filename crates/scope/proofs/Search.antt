-- A walk over the declarations' names that passes one name after the other, and what a comparison of names says.
use lib.Dec.{eqb}
use lib.Seq.{take-nil}
use lib.ListN.{drop_of_length-le}
use borrow.Author.Tests.{ne_eqb}
use Prim.Native.Nat.{◌≤◌, ℕ, suc, ◌+◌, ◌-◌, ◌*◌, ◌<◌}
use mathlib.Core.Path.{◌≡◌, refl, sym, ◌∙◌, ap}
use mathlib.Core.List.{List, [], ◌∷◌}
use mathlib.Core.Option.{Option, none, some}
use mathlib.Core.Bool.{true, false}
use native.Mathlib.Omega.{arith}
use native.Mathlib.Numerals.{add-one}
use native.Mathlib.Nat.{min-le_left}
use lib.ListN.{length, get_or, drop, length-take}
use Rattle.words.proofs.Names.{ne_same}
use Rattle.words.specs.Words.{same_bytes}
use Rattle.terms.specs.Label.{Name, part}
use Rattle.terms.specs.Resolution.{next_number, find}
use Rattle.scope.specs.Scope.{declared_names}

-- A number counted from the k-th name on, as one counted from the first.
abbrev counted : ℕ → Option ℕ → Option ℕ
counted k none = none
counted k (some i) = some (k + i)

counted_next : (k : ℕ) (o : Option ℕ) → counted k (next_number o) ≡ counted (k + 1) o
counted_next k none = refl
counted_next k (some i) = ap some (let q : k + suc i ≡ k + 1 + i = omega arith in q)

module _ (x : Name) where
  -- Of the names `all`, k were passed and `rest` are left.
  abbrev pub Passed : List Name → ℕ → List Name → Type 0
  Passed all k rest = find x all ≡ counted k (find x rest)

  module _ (all : List Name) (k : ℕ) (left : List Name) (p : Passed all k left) where
    pub hit : (y : Name) (rest : List Name) → left ≡ y ∷ rest → same_bytes x y ≡ true → some k ≡ find x all
    unfolding find
    hit y rest q e = sym (p ∙ rw (q, find, e) (ap some (let z : k + 0 ≡ k = omega arith in z)))

    pub miss : (y : Name) (rest : List Name) → left ≡ y ∷ rest → same_bytes x y ≡ false → Passed all (k + 1) rest
    unfolding find
    miss y rest q e = p ∙ rw (q, find, e) (counted_next k (find x rest))

    pub passed_all : left ≡ [] → none ≡ find x all
    unfolding find
    passed_all q = sym (p ∙ rw q)

-- A part is no longer than it says.
pub longer : (x : Name) (s : List ℕ) (a n : ℕ) → n < length x → same_bytes x (part s a n) ≡ false
longer x s a n h = ne_same x (part s a n) (λ q. let e = ap length q in omega (arith, length-take n (drop a s), min-le_left n (length (drop a s))))

-- A part that starts behind the source is nothing.
pub nothing_left : (x : Name) (s : List ℕ) (a n : ℕ) → length s ≤ a → eqb (length x) 0 ≡ same_bytes x (part s a n)
unfolding same_bytes
nothing_left x s a n h = rw (drop_of_length-le s {i = a} h, take-nil n) (empty x)
  where
    empty : (x : Name) → eqb (length x) 0 ≡ same_bytes x []
    empty [] = refl
    empty (b ∷ l) = ne_eqb (suc (length l)) 0 (λ q. omega arith)

-- The name of the declaration at place k.
pub declared_next : (s t : List ℕ) (k d : ℕ) → k < d
    → declared_names s t k (d - k) ≡ part s (get_or t (k * 5 + 1) 0) (get_or t (k * 5 + 2) 0) ∷ declared_names s t (k + 1) (d - (k + 1))
unfolding declared_names
declared_next s t k d h =
    ap (declared_names s t k) (let q : d - k ≡ suc (d - (k + 1)) = omega arith in q)
    ∙ ap (λ (i : ℕ). part s (get_or t (k * 5 + 1) 0) (get_or t (k * 5 + 2) 0) ∷ declared_names s t i (d - (k + 1))) (sym (add-one k))

pub no_declaration : (s t : List ℕ) (k d : ℕ) → d ≡ k → declared_names s t k (d - k) ≡ []
unfolding declared_names
no_declaration s t k d e = ap (declared_names s t k) (let q : d - k ≡ 0 = omega arith in q)
