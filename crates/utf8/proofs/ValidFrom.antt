-- `valid_from` behind one more byte and at the end, also where the sequence is broken.
use Prim.Native.Nat.{ℕ, ◌+◌}
use mathlib.Core.Path.{◌≡◌, refl}
use mathlib.Core.Bool.{Bool, true, false, cond}
use mathlib.Core.List.{List, [], ◌∷◌}
use mathlib.Core.Option.{Option, none, some}
use Rattle.utf8.specs.Utf8.{Range, in_range, table_3_7, following, valid_from}

-- What is wanted behind one more byte.
unfoldable pub wanted_after : ℕ → Option (List Range) → Option (List Range)
wanted_after b none = none
wanted_after b (some []) = following b table_3_7
wanted_after b (some (r ∷ rs)) = cond (in_range r b) (some rs) none

abbrev pub valid_on : ℕ → ℕ → Option (List Range) → List ℕ → ℕ
valid_on good at none l = good
valid_on good at (some rs) l = valid_from good at rs l

-- How many of the bytes passed are whole sequences: all of them where nothing is wanted.
abbrev pub whole_bytes : ℕ → ℕ → Option (List Range) → ℕ
whole_bytes good at none = good
whole_bytes good at (some []) = at
whole_bytes good at (some (r ∷ rs)) = good

pub one_more : (good at b : ℕ) (o : Option (List Range)) (l : List ℕ)
    → valid_on good at o (b ∷ l) ≡ valid_on (whole_bytes good at o) (at + 1) (wanted_after b o) l
unfolding valid_from wanted_after
one_more good at b none l = refl
one_more good at b (some []) l = go (following b table_3_7)
  where
    go : (o : Option (List Range)) → elim o as (λ _. ℕ) [ none ↦ at | some rs ↦ valid_from at (at + 1) rs l ] ≡ valid_on at (at + 1) o l
    go none = refl
    go (some rs) = refl
one_more good at b (some (r ∷ rs)) l = go (in_range r b)
  where
    go : (t : Bool) → elim t as (λ _. ℕ) [ true ↦ valid_from good (at + 1) rs l | false ↦ good ] ≡ valid_on good (at + 1) (cond t (some rs) none) l
    go true = refl
    go false = refl

pub at_end : (good at : ℕ) (o : Option (List Range)) → valid_on good at o [] ≡ whole_bytes good at o
unfolding valid_from
at_end good at none = refl
at_end good at (some []) = refl
at_end good at (some (r ∷ rs)) = refl

-- Where nothing is wanted, all that was passed is whole.
pub all_whole : (good at : ℕ) (l : List ℕ) → valid_from good at [] l ≡ valid_from at at [] l
unfolding valid_from
all_whole good at [] = refl
all_whole good at (b ∷ l) = refl
