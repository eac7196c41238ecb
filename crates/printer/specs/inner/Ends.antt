-- What grows from the end of a lent table towards its beginning: the text in its buffer, and the stack of frames in the work area.
use Rattle.std.specs.Prelude.{◌≡◌, List, ◌∷◌, ◌++◌, cond, ℕ, ◌+◌, ◌-◌, ◌≤◌, min, ltb, length, drop, replicate}

-- The text t stands at the buffer's end. `at` is its length as far as the buffer can tell it: a text that does not fit counts one byte more
-- than the buffer has.
pub record Written (out t : List ℕ) (at : ℕ) : Type 0 where
  pub told : at ≡ min (length t) (length out + 1)
  pub content : length t ≤ length out → drop (length out - length t) out ≡ t

-- The text w is put in front of what stands there, whatever that is.
pub record Puts (out : List ℕ) (at : ℕ) (w out₁ : List ℕ) (at₁ : ℕ) : Type 0 where
  pub front : (t : List ℕ) → Written out t at → Written out₁ (w ++ t) at₁

-- The words l, the top of the stack first, stand at the work area's end, and in front of them it is 0.
pub record Stacked (work l : List ℕ) (top : ℕ) : Type 0 where
  pub told : top ≡ length l
  pub content : work ≡ replicate (length work - length l) 0 ++ l

-- A stack that has no room for a word stays as it is.
unfoldable pub pushed : ℕ → ℕ → List ℕ → List ℕ
pushed limit w l = cond (ltb (length l) limit) (w ∷ l) l
