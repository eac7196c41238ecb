-- Rows that stand one behind the other in a table, and the terms that they spell.
use mathlib.Core.Path.{◌≡◌, refl, sym, ap, ◌∙◌, subst}
use mathlib.Core.Bool.{Bool, true, false, cond}
use mathlib.Core.List.{List, [], ◌∷◌, ◌++◌, map, map-append}
use Prim.Native.Nat.{ℕ, zero, suc, ◌+◌, ◌-◌, ◌*◌, ◌<◌, ◌≤◌}
use native.Mathlib.Omega.{arith}
use native.Mathlib.Nat.{add-zero}
use lib.Dec.{eqb}
use lib.ListN.{length, get_or, length-map}
use borrow.Author.Tests.{eqb-true, eqb-false}
use Rattle.terms.specs.Forms.{forms, form_of_kind, universe, counts_as, holds_span_in}
use Rattle.terms.specs.Tree.{Forest, nil, node, Cell, next, roots, cells, relabel}
use Rattle.terms.specs.Label.{Name, Label, Named, part}
use Rattle.terms.specs.Resolution.{Core, kept, var, global, unknown, Resolved}
use Rattle.terms.specs.Rows.{pad, span, core_words, core_row}
use Rattle.terms.proofs.Arrow.{counts_same}
use Rattle.terms.proofs.Cells.{recell, next_cells, cells_relabel}
use Rattle.terms.proofs.CoreRows.{Fits, AllFit, CellsFit, cells_fit}
use Rattle.terms.proofs.Spans.{bytes_core, named_core}
use Rattle.terms.specs.TextForms.{text_forms}
use Rattle.printing.specs.Printing.{spell_core, spell}
use Rattle.printer.specs.inner.Machine.{Machine, numeral_of, spelled_row, row_at, step, step_row, down}
use Rattle.printer.proofs.Words.{with_numerals, without_numerals, numeral_universe}
use Rattle.printer.proofs.Forests.{labels, run}

-- A count that goes down comes to its first number last.
pub down_first : {A : Type 0} (f : ℕ → A → A) (first n : ℕ) (a : A) → down f first (suc n) a ≡ f first (down f (suc first) n a)
unfolding down
down_first f first zero a = ap (λ (k : ℕ). f k a) (add-zero first)
down_first f first (suc n) a =
    let e : first + suc n ≡ suc first + n = omega arith in
    down_first f first n (f (first + suc n) a) ∙ ap (λ (k : ℕ). f first (down f (suc first) n (f k a))) e

-- Rows of w words, of which the first is row b of the table t.
abbrev pub View : ℕ → List ℕ → ℕ → List (List ℕ) → Type 0
View w t b [] = Unit {0}
View w t b (r ∷ l) = ((j : ℕ) → j < w → get_or t (b * w + j) 0 ≡ get_or r j 0) × View w t (suc b) l

pub view_of : (w : ℕ) (t : List ℕ) (b : ℕ) (l : List (List ℕ)) → ((k j : ℕ) → k < length l → j < w → get_or t ((b + k) * w + j) 0 ≡ get_or (get_or l k []) j 0) → View w t b l
view_of w t b [] h = tt
view_of w t b (r ∷ l) h = (
  λ j g. ap (λ (k : ℕ). get_or t (k * w + j) 0) (sym (add-zero b)) ∙ h 0 j (omega arith) g,
  view_of w t (suc b) l (λ k j f g. let e : suc b + k ≡ b + suc k = omega arith in ap (λ (n : ℕ). get_or t (n * w + j) 0) e ∙ h (suc k) j (omega arith) g),
)

pub view_left : (w : ℕ) (t : List ℕ) (b : ℕ) (l m : List (List ℕ)) → View w t b (l ++ m) → View w t b l
view_left w t b [] m v = tt
view_left w t b (r ∷ l) m v = (v.0, view_left w t (suc b) l m v.1)

pub view_right : (w : ℕ) (t : List ℕ) (b c : ℕ) (l m : List (List ℕ)) → c ≡ b + length l → View w t b (l ++ m) → View w t c m
view_right w t b c [] m e v = let f : b ≡ c = omega arith in rw f at v
view_right w t b c (r ∷ l) m e v = view_right w t (suc b) c l m (omega arith) v.1

-- Core rows that spell terms, of which the first is row b.
module _ (s core : List ℕ) where
  abbrev pub Spells : ℕ → List Named → Type 0
  Spells b [] = Unit {0}
  Spells b (x ∷ l) = (row_at s core b ≡ x) × Spells (suc b) l

  pub run_spelled : (limit b : ℕ) (l : List Named) (m : Machine) → Spells b l → down (step_row s core limit) b (length l) m ≡ run limit l m
  unfolding run down step_row
  run_spelled limit b [] m h = refl
  run_spelled limit b (x ∷ l) m h =
      down_first (step_row s core limit) b (length l) m ∙ (λ i. step limit (h.0 i) (run_spelled limit (suc b) l m h.1 i))

-- The row of a term that fits spells it.
kept_spelled : (s : List ℕ) (l : Label) (k : List ℕ) → 3 ≤ counts_as l.kind
    → let w = core_words l kept k in spelled_row s (get_or w 0 0) (get_or w 1 0) (get_or w 2 0) ≡ spell_core s l kept
kept_spelled s l k h = go (eqb l.kind universe) (counts_same (λ i. eqb i universe) refl l.kind)
  where
    j : ℕ
    j = counts_as l.kind

    words : Bool → List ℕ
    words b = pad 6 (cond b (span l) [] ++ k) ++ (l.offset ∷ [])

    at : Name → Named
    at n = record { kind = j; name = n }

    go : (b : Bool) → eqb j universe ≡ b → spelled_row s j (get_or (words b) 0 0) (get_or (words b) 1 0) ≡ at (cond b (part s l.start l.length) [])
    go true q =
        let e = eqb-true j universe q in
        ap (λ (b : Bool). at (cond b (numeral_of s j l.start l.length) [])) (with_numerals j (omega (arith, e)) (omega (arith, e)))
        ∙ ap at (numeral_universe s j l.start l.length e)
    go false q =
        let e = eqb-false j universe q in
        ap (λ (b : Bool). at (cond b (numeral_of s j (get_or (words false) 0 0) (get_or (words false) 1 0)) [])) (without_numerals j (omega (arith, h, e)))

row_spelled : (s : List ℕ) (l : Label) (c : Core) (k : List ℕ) (n : ℕ) → Fits (bytes_core s l c) n
    → let w = core_words l c k in spelled_row s (get_or w 0 0) (get_or w 1 0) (get_or w 2 0) ≡ spell_core s l c
unfolding holds_span_in numeral_of form_of_kind text_forms forms
row_spelled s l kept k n f = kept_spelled s l k f.0
row_spelled s l (var i) k n f = refl
row_spelled s l (global j) k n f = refl
row_spelled s l unknown k n f = absurd f

spells_cells : (s core : List ℕ) (b : ℕ) (l : List (Cell Resolved)) → View 8 core b (map core_row l) → CellsFit (map (recell (named_core s)) l)
    → Spells s core b (map (λ c. spell s c.label) l)
unfolding row_at
spells_cells s core b [] v f = tt
spells_cells s core b (c ∷ l) v f =
    let h = v.0 in
    let e : get_or core (b * 8) 0 ≡ get_or (core_row c) 0 0 = ap (λ (n : ℕ). get_or core n 0) (sym (add-zero (b * 8))) ∙ h 0 (omega arith) in (
      (λ i. spelled_row s (e i) (h 1 (omega arith) i) (h 2 (omega arith) i)) ∙ row_spelled s c.label.label c.label.core c.children _ f.0,
      spells_cells s core (suc b) l v.1 f.1,
    )

-- The labels of terms are those of their rows.
cell_labels : (s : List ℕ) (n : ℕ) (f : Forest Resolved) → map (λ c. spell s c.label) (cells n f) ≡ labels (relabel (spell s) f)
cell_labels s n nil = refl
cell_labels s n (node x a r) =
    map-append (λ c. spell s c.label) (cells n a) (record { label = x; children = roots n a } ∷ cells (suc (next n a)) r)
    ∙ (λ i. cell_labels s n a i ++ (spell s x ∷ cell_labels s (suc (next n a)) r i))

-- So the rows of terms that fit spell them.
pub spells_terms : (s core : List ℕ) (n : ℕ) (f : Forest Resolved) → View 8 core n (map core_row (cells n f)) → AllFit (relabel (named_core s) f)
    → Spells s core n (labels (relabel (spell s) f))
spells_terms s core n f v h =
    subst (Spells s core n) (cell_labels s n f)
    (spells_cells s core n (cells n f) v (subst CellsFit (cells_relabel (named_core s) n f) (cells_fit n (relabel (named_core s) f) h)))

pub count_labels : (s : List ℕ) (n : ℕ) (f : Forest Resolved) → length (labels (relabel (spell s) f)) ≡ next n f - n
count_labels s n f =
    omega (arith, ap length (sym (cell_labels s n f)) ∙ length-map (cells n f) (λ c. spell s c.label), next_cells n f)
