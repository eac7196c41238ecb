-- A run of words stored one after the other, and what the table then holds.
use Prim.Native.Nat.{ℕ, ◌+◌, ◌≤◌, ◌<◌}
use mathlib.Core.Path.{◌≡◌, sym, ap, ◌∙◌}
use mathlib.Core.Bool.{Bool, cond}
use mathlib.Core.List.{List}
use native.Mathlib.Omega.{arith}
use native.Mathlib.Numerals.{add-one}
use lib.ListN.{length, get_or, set}
use lib.Seq.{paste, paste-suc}
use borrow.Author.Tests.{le-leb, lt-leb}
use Rattle.tables.specs.Tables.{with_words, stored}

module _ (t : List ℕ) (at : ℕ) (ws : List ℕ) where
  -- The first i words are stored.
  abbrev pub Storing : List ℕ → ℕ → Type 0
  Storing t₁ i = (i ≤ length ws) × (t₁ ≡ paste t at ws i)

  pub stored_fits : at + length ws ≤ length t → stored t at ws ≡ with_words t at ws
  unfolding stored
  stored_fits h = ap (λ (b : Bool). cond b (with_words t at ws) t) (le-leb (at + length ws) (length t) h)

  pub stored_not : length t < at + length ws → stored t at ws ≡ t
  unfolding stored
  stored_not h = ap (λ (b : Bool). cond b (with_words t at ws) t) (lt-leb (at + length ws) (length t) h)

  module _ (h : at + length ws ≤ length t) where
    pub store_more : (t₁ : List ℕ) (i : ℕ) → i < length ws → Storing t₁ i → Storing (set t₁ (at + i) (get_or ws i 0)) (i + 1)
    store_more t₁ i k s = (
      omega arith,
      ap (λ (l : List ℕ). set l (at + i) (get_or ws i 0)) s.1 ∙ paste-suc t at ws i 0 (omega arith) k ∙ ap (paste t at ws) (sym (add-one i)),
    )
