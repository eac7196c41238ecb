-- Document 02, Req 02: where two equally long names differ first.
use Rattle.std.specs.Prelude.{ℕ, suc, ◌<◌, ◌≡◌, ◌↔◌, ◌⊎◌, cond, List, [], ◌∷◌, eqb, length, get_or}

-- "the first place where two equally long names differ, or their length when there is none"
unfoldable pub first_difference : List ℕ → List ℕ → ℕ
first_difference [] b = 0
first_difference (x ∷ a) [] = 0
first_difference (x ∷ a) (y ∷ b) = cond (eqb x y) (suc (first_difference a b)) 0

-- The same said of places: before place k they have equal bytes, and at k they differ, or k is their length.
pub record FirstPlace (a b : List ℕ) (k : ℕ) : Type 0 where
  pub before : (i : ℕ) → i < k → get_or a i 0 ≡ get_or b i 0
  pub there : ((k < length a) × (get_or a k 0 ≡ get_or b k 0 → ⊥)) ⊎ (k ≡ length a)

-- It is that place and no other. proofs/Places.antt has the proof.
abbrev pub DifferenceIsFirst : Type 0
DifferenceIsFirst = (a b : List ℕ) → length a ≡ length b → (k : ℕ) → (k ≡ first_difference a b) ↔ FirstPlace a b k
