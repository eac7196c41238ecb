-- `valid_length` is the length of the longest beginning that is well-formed UTF-8.
use mathlib.Core.Path.{◌≡◌, refl}
use mathlib.Core.Logic.{◌⊎◌, inl, inr}
use mathlib.Core.List.{List, [], ◌∷◌}
use mathlib.Core.Option.{Option, none, some}
use mathlib.Core.Bool.{Bool, true, false, cond}
use Prim.Native.Nat.{ℕ, zero, suc, ◌+◌, ◌≤◌}
use native.Mathlib.Nat.{zero-add}
use native.Mathlib.Omega.{arith}
use lib.ListN.{length, take}
use Rattle.utf8.specs.Utf8.{Range, in_range, table_3_7, following, Whole, WellFormed, valid_length}
use Rattle.utf8.proofs.ValidFrom.{wanted_after, valid_on, whole_bytes, one_more, at_end, all_whole}

-- `Whole`, also where the sequence is broken.
abbrev WholeOn : Option (List Range) → List ℕ → Type 0
WholeOn none l = ⊥
WholeOn (some rs) l = Whole rs l

whole_more : (b : ℕ) (o : Option (List Range)) (l : List ℕ) → WholeOn (wanted_after b o) l → WholeOn o (b ∷ l)
unfolding wanted_after
whole_more b none l w = w
whole_more b (some []) l w = go (following b table_3_7) refl w
  where
    go : (o : Option (List Range)) → following b table_3_7 ≡ o → WholeOn o l → Whole [] (b ∷ l)
    go none e w = absurd w
    go (some rs) e w = (rs, e, w)
whole_more b (some (r ∷ rs)) l w = go (in_range r b) refl w
  where
    go : (t : Bool) → in_range r b ≡ t → WholeOn (cond t (some rs) none) l → Whole (r ∷ rs) (b ∷ l)
    go true e w = (e, w)
    go false e w = absurd w

whole_less : (b : ℕ) (o : Option (List Range)) (l : List ℕ) → WholeOn o (b ∷ l) → WholeOn (wanted_after b o) l
unfolding wanted_after
whole_less b none l w = w
whole_less b (some []) l (rs, e, w) = rw e w
whole_less b (some (r ∷ rs)) l (e, w) = rw e w

-- What is whole stays valid.
whole_within : (good at : ℕ) (o : Option (List Range)) → good ≤ at → (good ≤ whole_bytes good at o) × (whole_bytes good at o ≤ at)
whole_within good at none h = omega arith
whole_within good at (some []) h = omega arith
whole_within good at (some (r ∷ rs)) h = omega arith

stays : (l : List ℕ) (o : Option (List Range)) (good at : ℕ) → good ≤ at → good ≤ valid_on good at o l
stays [] o good at h = rw (at_end good at o) (whole_within good at o h).0
stays (b ∷ l) o good at h =
    let w = whole_within good at o h in
    rw (one_more good at b o l) (omega (arith, w, stays l (wanted_after b o) (whole_bytes good at o) (at + 1) (omega arith)))

-- Either the open sequence breaks, or what is passed is whole.
abbrev BreaksOrWhole : ℕ → ℕ → Option (List Range) → List ℕ → ℕ → Type 0
BreaksOrWhole good at o l v = (v ≡ good) ⊎ ((k : ℕ) × (v ≡ at + k) × (k ≤ length l) × WholeOn o (take k l))

no_more : (good at : ℕ) (o : Option (List Range)) (l : List ℕ) (v : ℕ) → v ≡ whole_bytes good at o → BreaksOrWhole good at o l v
no_more good at none l v e = inl e
no_more good at (some []) l v e = inr (0, omega arith, omega arith, tt)
no_more good at (some (r ∷ rs)) l v e = inl e

breaks_or_whole : (l : List ℕ) (o : Option (List Range)) (good at : ℕ) → BreaksOrWhole good at o l (valid_on good at o l)
breaks_or_whole [] o good at = no_more good at o [] _ (at_end good at o)
breaks_or_whole (b ∷ l) o good at = rw (one_more good at b o l) (go (breaks_or_whole l (wanted_after b o) (whole_bytes good at o) (at + 1)))
  where
    go : {v : ℕ} → BreaksOrWhole (whole_bytes good at o) (at + 1) (wanted_after b o) l v → BreaksOrWhole good at o (b ∷ l) v
    go (inl e) = no_more good at o (b ∷ l) _ e
    go (inr (k, e, h, w)) = inr (suc k, omega arith, omega arith, whole_more b o (take k l) w)

-- No longer beginning is whole.
longest : (l : List ℕ) (o : Option (List Range)) (good at k : ℕ) → k ≤ length l → WholeOn o (take k l) → at + k ≤ valid_on good at o l
longest l none good at zero h w = absurd w
longest l (some []) good at zero h w = rw (all_whole good at l) (omega (arith, stays l (some []) at at (omega arith)))
longest l (some (r ∷ rs)) good at zero h w = absurd w
longest [] o good at (suc k) h w = absurd (omega arith)
longest (b ∷ l) o good at (suc k) h w =
    rw (one_more good at b o l) (omega (arith, longest l (wanted_after b o) (whole_bytes good at o) (at + 1) k (omega arith) (whole_less b o (take k l) w)))

pub valid_is_whole : (s : List ℕ) → (valid_length s ≤ length s) × WellFormed (take (valid_length s) s)
unfolding valid_length
valid_is_whole s = go (breaks_or_whole s (some []) 0 0)
  where
    go : {v : ℕ} → BreaksOrWhole 0 0 (some []) s v → (v ≤ length s) × WellFormed (take v s)
    go (inl e) = rw e (omega arith, tt)
    go (inr (k, e, h, w)) = rw (e, zero-add k) (h, w)

pub valid_is_longest : (s : List ℕ) (n : ℕ) → n ≤ length s → WellFormed (take n s) → n ≤ valid_length s
unfolding valid_length
valid_is_longest s n h w = omega (arith, longest s (some []) 0 0 n h w)
