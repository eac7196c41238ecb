-- The words of trees behind one another.
use mathlib.Core.Path.{◌≡◌, refl, sym, ◌∙◌, ap}
use mathlib.Core.List.{List, [], ◌∷◌, ◌++◌, map, map-append, append_assoc}
use Prim.Native.Nat.{ℕ, suc, ◌+◌, ◌*◌}
use native.Mathlib.Omega.{arith}
use lib.ListN.{length, length-append}
use Rattle.terms.specs.Label.{Label}
use Rattle.terms.specs.Tree.{Forest, nil, Tree, tree, Cell, next, roots, cells}
use Rattle.terms.specs.Forms.{holds_span_in}
use Rattle.terms.specs.Rows.{joined}
use Rattle.terms.proofs.Cells.{next_cells}
use Rattle.terms.proofs.Widths.{length_row_holding}
use Rattle.expects.specs.declared.Format.{Format}
use Rattle.expects.specs.Formats.{edition}
use Rattle.reader.specs.ModuleWords.{format_row, forest_words}

pub joined_append : (a b : List (List ℕ)) → joined (a ++ b) ≡ joined a ++ joined b
joined_append [] b = refl
joined_append (r ∷ a) b = ap (λ (w : List ℕ). r ++ w) (joined_append a b) ∙ sym (append_assoc r (joined a) (joined b))

module _ (format : Format) where
  abbrev row : Cell Label → List ℕ
  row = format_row format

  length_rows : (c : List (Cell Label)) → length (joined (map row c)) ≡ length c * 8
  length_rows [] = refl
  length_rows (x ∷ c) = length-append (row x) (joined (map row c)) ∙ omega (arith, length_row_holding (holds_span_in (edition format).forms) x, length_rows c)

  -- Each row of a list of trees has eight words.
  pub length_forest : (n : ℕ) (f : Forest Label) → n * 8 + length (forest_words format n f) ≡ next n f * 8
  length_forest n f = omega (arith, length_rows (cells n f), next_cells n f)

  -- The words of a tree, then those of the others.
  pub forest_split : (n : ℕ) (a : Tree Label) (f : Forest Label)
      → forest_words format n (tree a f) ≡ forest_words format n (tree a nil) ++ forest_words format (suc (next n a.args)) f
  forest_split n a f =
      let c : List (Cell Label) = record { label = a.label; children = roots n a.args } ∷ [] in
      let rest = cells (suc (next n a.args)) f in
      ap (λ (l : List (Cell Label)). joined (map row l)) (sym (append_assoc (cells n a.args) c rest))
      ∙ ap joined (map-append row (cells n a.args ++ c) rest)
      ∙ joined_append (map row (cells n a.args ++ c)) (map row rest)
