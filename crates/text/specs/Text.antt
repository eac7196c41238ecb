-- Text written into a lent buffer: bytes behind the buffer's end are dropped, and the length tells.
use Rattle.std.specs.Prelude.{ℕ, zero, suc, ◌+◌, ◌/◌, ◌%◌, min, ◌≡◌, true, false, List, [], ◌∷◌, ◌++◌, ltb, length}
use Rattle.std.proofs.lemmas.List.Edits.{sets}

-- The length of a text as far as the buffer can tell it: a text that does not fit counts one byte more than the buffer has.
abbrev pub length_in : List ℕ → ℕ → ℕ
length_in out n = min n (length out + 1)

-- The buffer `out`, with the text t written from its beginning on.
abbrev pub with_text : List ℕ → List ℕ → List ℕ
with_text out t = sets out 0 t

-- Behind the text t in the buffer that was `out`: the buffer's content, and the offset.
pub record Behind (out t now : List ℕ) (at : ℕ) : Type 0 where
  pub content : now ≡ with_text out t
  pub offset : at ≡ length_in out (length t)

-- A number in decimal digits, of which there are at most so many; `0` is 48.
unfoldable pub digits : ℕ → ℕ → List ℕ
digits zero n = []
digits (suc places) n = elim (ltb n 10) [ true ↦ (48 + n) ∷ [] | false ↦ digits places (n / 10) ++ ((48 + n % 10) ∷ []) ]

-- A number below 10 ^ 20, and so every number of 64 bits.
unfoldable pub decimal : ℕ → List ℕ
decimal n = digits 20 n
