-- The listing does not print where terms start.
use mathlib.Core.Path.{◌≡◌, refl, sym, ap, ap₂, ◌∙◌}
use mathlib.Core.List.{List, ◌++◌}
use mathlib.Core.Bool.{Bool, true, false, ◌||◌}
use Prim.Native.Nat.{ℕ, zero, suc, ◌+◌, ◌*◌, ◌≤◌}
use native.Mathlib.Omega.{arith}
use lib.Dec.{eqb}
use lib.ListN.{get_or}
use Rattle.terms.specs.Forms.{arity_of, var_kind, global_kind, universe}
use Rattle.terms.specs.Label.{part}
use Rattle.terms.proofs.FormTable.{arity_small}
use Rattle.text.specs.Text.{decimal}
use Rattle.lines.specs.Listing.{spaced, line, kind_word, numbers, row_fields, row_line, row_lines, first_line, declaration_lines, listing}
use Rattle.lines.specs.Unprinted.{SameButOffsets, OffsetsUnprinted}

module _ (s core other : List ℕ) (h : SameButOffsets core other) (k : ℕ) where
  abbrev at : ℕ
  at = k * 8

  first_word : get_or core at 0 ≡ get_or other at 0
  first_word = let e : at ≡ at + 0 = omega arith in ap (λ (i : ℕ). get_or core i 0) e ∙ h k 0 (omega arith) ∙ ap (λ (i : ℕ). get_or other i 0) (sym e)

  same_numbers : (n j : ℕ) → j + n ≤ 7 → numbers n core (at + j) ≡ numbers n other (at + j)
  unfolding numbers
  same_numbers zero j b = refl
  same_numbers (suc n) j b =
      let e : at + j + 1 ≡ at + (j + 1) = omega arith in
      let rest = ap (numbers n core) e ∙ same_numbers n (j + 1) (omega arith) ∙ ap (numbers n other) (sym e) in
      ap₂ (λ (x : ℕ) (r : List ℕ). spaced (decimal x) ++ r) (h k j (omega arith)) rest

  same_fields : row_fields s core at ≡ row_fields s other at
  unfolding row_fields
  same_fields = ap (λ (x : ℕ). chosen x core) first_word ∙ go (eqb (get_or other at 0) universe) (eqb (get_or other at 0) var_kind || eqb (get_or other at 0) global_kind)
    where
      -- The fields of a row of kind x.
      chosen : ℕ → List ℕ → List ℕ
      chosen x t = elim (eqb x universe) [
        | true ↦ spaced (part s (get_or t (at + 1) 0) (get_or t (at + 2) 0))
        | false ↦ elim (eqb x var_kind || eqb x global_kind) [ true ↦ numbers 1 t (at + 1) | false ↦ numbers (arity_of x) t (at + 1) ]
      ]

      go : (u c : Bool)
          → ◌≡◌ {A = List ℕ}
          (elim u as (λ _. List ℕ) [ true ↦ spaced (part s (get_or core (at + 1) 0) (get_or core (at + 2) 0)) | false ↦ elim c as (λ _. List ℕ) [ true ↦ numbers 1 core (at + 1) | false ↦ numbers (arity_of (get_or other at 0)) core (at + 1) ] ])
          (elim u as (λ _. List ℕ) [ true ↦ spaced (part s (get_or other (at + 1) 0) (get_or other (at + 2) 0)) | false ↦ elim c as (λ _. List ℕ) [ true ↦ numbers 1 other (at + 1) | false ↦ numbers (arity_of (get_or other at 0)) other (at + 1) ] ])
      go true c = ap₂ (λ (a n : ℕ). spaced (part s a n)) (h k 1 (omega arith)) (h k 2 (omega arith))
      go false true = same_numbers 1 1 (omega arith)
      go false false = same_numbers (arity_of (get_or other at 0)) 1 (omega (arith, arity_small (get_or other at 0)))

  same_line : row_line s core k ≡ row_line s other k
  unfolding row_line
  same_line = ap₂ (λ (x : ℕ) (f : List ℕ). line (decimal k ++ spaced (kind_word x) ++ f)) first_word same_fields

same_lines : (s core other : List ℕ) → SameButOffsets core other → (n k : ℕ) → row_lines s core n k ≡ row_lines s other n k
unfolding row_lines
same_lines s core other h zero k = refl
same_lines s core other h (suc n) k = ap₂ (λ (a b : List ℕ). a ++ b) (same_line s core other h k) (same_lines s core other h n (k + 1))

pub offsets_unprinted : OffsetsUnprinted
unfolding listing
offsets_unprinted s core other declarations rows count h =
    ap (λ (l : List ℕ). first_line rows count ++ l ++ declaration_lines s declarations count 0) (same_lines s core other h rows 0)
