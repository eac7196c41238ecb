-- Elements of lists that stand behind each other.
use mathlib.Core.Path.{◌≡◌, refl, ap}
use mathlib.Core.List.{List, [], ◌∷◌, ◌++◌, map}
use mathlib.Core.Option.{some}
use Prim.Native.Nat.{ℕ, zero, suc, ◌+◌, ◌<◌}
use native.Mathlib.Omega.{arith}
use native.Mathlib.Nat.{zero-add, suc-add}
use lib.ListN.{length, get_or}
use Rattle.terms.proofs.Names.{none_some, some_inj}
use Rattle.terms.specs.RowAt.{entry}

module _ {B : Type 0} where
  pub entry_front : (l m : List B) (i : ℕ) (b : B) → entry l i ≡ some b → entry (l ++ m) i ≡ some b
  entry_front [] m i b e = none_some e
  entry_front (x ∷ l) m zero b e = e
  entry_front (x ∷ l) m (suc i) b e = entry_front l m i b e

  pub entry_behind : (l m : List B) (i : ℕ) → entry (l ++ m) (length l + i) ≡ entry m i
  entry_behind [] m i = rw (zero-add i) refl
  entry_behind (x ∷ l) m i = rw (suc-add (length l) i) (entry_behind l m i)

pub entry_map : {A B : Type 0} (h : A → B) (l : List A) (i : ℕ) (a : A) → entry l i ≡ some a → entry (map h l) i ≡ some (h a)
entry_map h [] i a e = none_some e
entry_map {A} {B} h (x ∷ l) zero a e = let q : x ≡ a = cc in ap (λ (y : A). some (h y)) q
entry_map h (x ∷ l) (suc i) a e = entry_map h l i a e

pub entry_below : {B : Type 0} (l : List B) (i : ℕ) (b : B) → entry l i ≡ some b → i < length l
entry_below [] i b e = none_some e
entry_below (x ∷ l) zero b e = omega arith
entry_below (x ∷ l) (suc i) b e = omega (arith, entry_below l i b e)

pub entry_getD : {B : Type 0} (l : List B) (i : ℕ) (b c : B) → entry l i ≡ some b → get_or l i c ≡ b
entry_getD [] i b c e = none_some e
entry_getD (x ∷ l) zero b c e = some_inj e
entry_getD (x ∷ l) (suc i) b c e = entry_getD l i b c e

-- What an element of a list comes from.
pub entry_from : {A B : Type 0} (h : A → B) (l : List A) (i : ℕ) (b : B) → entry (map h l) i ≡ some b → (a : A) × (entry l i ≡ some a) × (h a ≡ b)
entry_from h [] i b e = none_some e
entry_from h (x ∷ l) zero b e = (x, refl, some_inj e)
entry_from h (x ∷ l) (suc i) b e = entry_from h l i b e
