-- Rows and records of two pairs of tables, compared by what counts of them.
use Rattle.std.specs.Prelude.{◌≡◌, List, [], ◌∷◌, Bool, true, false, ℕ, zero, suc, ◌+◌, ◌*◌, ◌≤◌, ◌<◌, get_or, Option, Some, None}
use Rattle.terms.specs.Label.{part}
use Rattle.rows.specs.DeclarationRows.{row_behind, first_row}
use Rattle.terms.specs.Content.{row_content, record_content}

-- The answer of a test, and what it is a test of.
abbrev pub Decides : Bool → Type 0 → Type 0
Decides true P = P
Decides false P = ¬ P

-- n words of a table from word i on, 0 behind its end.
abbrev pub words_at : ℕ → List ℕ → ℕ → List ℕ
words_at zero t i = []
words_at (suc n) t i = get_or t i 0 ∷ words_at n t (i + 1)

-- The part of a source whose start and length stand at word i.
abbrev pub atom_at : List ℕ → List ℕ → ℕ → List ℕ
atom_at s t i = part s (get_or t i 0) (get_or t (i + 1) 0)

-- Row i of a core table, and record k of a declaration list.
abbrev pub row_at : List ℕ → ℕ → List ℕ
row_at core i = words_at 8 core (i * 8)

abbrev pub record_at : List ℕ → ℕ → List ℕ
record_at declarations k = words_at 5 declarations (k * 5)

-- Row i of two core tables, by what counts of it.
unfoldable pub SameRow : List ℕ → List ℕ → List ℕ → List ℕ → ℕ → Type 0
SameRow s core₁ t core₂ i = row_content s (row_at core₁ i) ≡ row_content t (row_at core₂ i)

-- The rows from row i on and before row j.
abbrev pub SameRows : List ℕ → List ℕ → List ℕ → List ℕ → ℕ → ℕ → Type 0
SameRows s core₁ t core₂ i j = (n : ℕ) → n < j → i ≤ n → SameRow s core₁ t core₂ n

-- Record k of two declaration lists, by what counts of it.
unfoldable pub SameRecord : List ℕ → List ℕ → List ℕ → List ℕ → ℕ → Type 0
SameRecord s declarations₁ t declarations₂ k = record_content s (record_at declarations₁ k) ≡ record_content t (record_at declarations₂ k)

-- Two sources, with their core tables and declaration lists.
module _ (s core₁ declarations₁ t core₂ declarations₂ : List ℕ) where
  -- The record of declaration k and its rows.
  pub record SameDeclaration (k : ℕ) : Type 0 where
    pub records : SameRecord s declarations₁ t declarations₂ k
    pub rows : SameRows s core₁ t core₂ (first_row declarations₁ k) (row_behind declarations₁ k)

  -- The records of the first k declarations and their rows.
  pub record SameBefore (k : ℕ) : Type 0 where
    pub records : (j : ℕ) → j < k → SameRecord s declarations₁ t declarations₂ j
    pub rows : SameRows s core₁ t core₂ 0 (first_row declarations₁ k)

  -- Of m and n declarations the first k are the same, and no more.
  pub record FirstDifferent (m n k : ℕ) : Type 0 where
    pub within_first : k ≤ m
    pub within_second : k ≤ n
    pub before : SameBefore k
    pub there : k < m → k < n → ¬ SameBefore (suc k)

  -- What comparing m and n declarations answers.
  abbrev pub Compared : ℕ → ℕ → Option ℕ → Type 0
  Compared m n None = (m ≡ n) × SameBefore m
  Compared m n (Some k) = FirstDifferent m n k × ¬ ((k ≡ m) × (k ≡ n))
