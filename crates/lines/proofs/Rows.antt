-- What a row's line and a declaration's line say, read from the table that begins with the row.
use Prim.Native.Nat.{ℕ, zero, suc, ◌+◌}
use mathlib.Core.Path.{◌≡◌, refl, sym, ◌∙◌}
use mathlib.Core.Bool.{Bool, true, false, ◌||◌}
use mathlib.Core.List.{List, ◌++◌}
use native.Mathlib.Decide.{ℕ_discrete}
use native.Mathlib.Nat.{zero-add, add-zero, add_assoc}
use lib.Dec.{eqb}
use lib.ListN.{get_or, drop}
use lib.Seq.{get_or-drop}
use borrow.Author.Tests.{eq-eqb, ne_eqb}
use Rattle.terms.specs.Forms.{arity_of}
use Rattle.terms.specs.Label.{part}
use Rattle.text.specs.Text.{decimal}
use Rattle.text.proofs.Writing.{one_more}
use Rattle.lines.specs.Listing.{spaced, numbers, row_fields, row_line, row_lines, declaration_rows, declaration_line, declaration_lines}
use Rattle.kind_words.specs.KindWords.{field_count}

numbers_from : (n : ℕ) (t : List ℕ) (a i : ℕ) → numbers n (drop a t) i ≡ numbers n t (a + i)
unfolding numbers
numbers_from zero t a i = refl
numbers_from (suc n) t a i = rw (get_or-drop, numbers_from n t a (i + 1), add_assoc) refl

-- By the kind of a core row, whose words begin at word i.
module _ (s t : List ℕ) (i : ℕ) where
  pub fields_span : get_or t i 0 ≡ 3 → row_fields s t i ≡ spaced (part s (get_or t (i + 1) 0) (get_or t (i + 2) 0))
  unfolding row_fields
  fields_span e = rw (eq-eqb (get_or t i 0) 3 e, row_fields)

  pub fields_numbers : (get_or t i 0 ≡ 3 → ⊥) → row_fields s t i ≡ numbers (field_count (get_or t i 0)) t (i + 1)
  unfolding row_fields field_count
  fields_numbers e = rw (ne_eqb (get_or t i 0) 3 e, row_fields) (by (eqb (get_or t i 0) 1 || eqb (get_or t i 0) 2))
    where
      by : (b : Bool) → ◌≡◌ {A = List ℕ}
          (elim b [ true ↦ numbers 1 t (i + 1) | false ↦ numbers (arity_of (get_or t i 0)) t (i + 1) ])
          (numbers (elim b [ true ↦ 1 | false ↦ arity_of (get_or t i 0) ]) t (i + 1))
      by true = refl
      by false = refl

-- By the kind of a declaration.
module _ (t : List ℕ) (i : ℕ) where
  pub rows_one : get_or t i 0 ≡ 1 → declaration_rows t i ≡ numbers 1 t (i + 3)
  unfolding declaration_rows
  rows_one e = rw (eq-eqb (get_or t i 0) 1 e, declaration_rows)

  pub rows_two : (get_or t i 0 ≡ 1 → ⊥) → declaration_rows t i ≡ numbers 2 t (i + 3)
  unfolding declaration_rows
  rows_two e = rw (ne_eqb (get_or t i 0) 1 e, declaration_rows)

-- The same words stand at the beginning of the table that begins with word a.
module _ (t : List ℕ) (a : ℕ) where
  pub first_word : get_or (drop a t) 0 0 ≡ get_or t a 0
  first_word = rw (get_or-drop, add-zero)

  pub fields_from : (s : List ℕ) → row_fields s (drop a t) 0 ≡ row_fields s t a
  fields_from s = elim (ℕ_discrete (get_or t a 0) 3) [
    | yes e ↦ fields_span s (drop a t) 0 (first_word ∙ e) ∙ rw (get_or-drop, get_or-drop) (sym (fields_span s t a e))
    | no n ↦ fields_numbers s (drop a t) 0 (λ e. n (sym first_word ∙ e)) ∙ rw (first_word, numbers_from) (sym (fields_numbers s t a n))
  ]

  pub rows_from : declaration_rows (drop a t) 0 ≡ declaration_rows t a
  rows_from = elim (ℕ_discrete (get_or t a 0) 1) [
    | yes e ↦ rows_one (drop a t) 0 (first_word ∙ e) ∙ rw numbers_from (sym (rows_one t a e))
    | no n ↦ rows_two (drop a t) 0 (λ e. n (sym first_word ∙ e)) ∙ rw numbers_from (sym (rows_two t a n))
  ]

-- One more number, and one more line.
pub numbers_more : (t : List ℕ) (i n : ℕ) → numbers (n + 1) t i ≡ numbers n t i ++ spaced (decimal (get_or t (i + n) 0))
unfolding numbers
numbers_more t i n = one_more (λ n k. numbers n t k) (λ k. spaced (decimal (get_or t k 0))) (λ k. refl) (λ n k. refl) n i

module _ (s t : List ℕ) (n : ℕ) where
  pub row_lines_more : row_lines s t (n + 1) 0 ≡ row_lines s t n 0 ++ row_line s t n
  unfolding row_lines
  row_lines_more = one_more (row_lines s t) (row_line s t) (λ k. refl) (λ n k. refl) n 0 ∙ rw zero-add refl

  pub declaration_lines_more : declaration_lines s t (n + 1) 0 ≡ declaration_lines s t n 0 ++ declaration_line s t n
  unfolding declaration_lines
  declaration_lines_more = one_more (declaration_lines s t) (declaration_line s t) (λ k. refl) (λ n k. refl) n 0 ∙ rw zero-add refl
