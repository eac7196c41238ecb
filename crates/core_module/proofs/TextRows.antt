-- The rows and records that reading a core text leaves, and where the rows' terms begin.
use mathlib.Core.Path.{◌≡◌, refl, sym, ap, ◌∙◌, subst}
use mathlib.Core.List.{List, [], ◌∷◌, ◌++◌, map}
use mathlib.Core.Option.{Option, none, some}
use mathlib.Core.Bool.{Bool, true, false, cond}
use Prim.Native.Nat.{ℕ, suc, ◌*◌, ◌/◌, ◌≤◌}
use native.Mathlib.Omega.{arith}
use lib.ListN.{length, get_or}
use Rattle.terms.specs.Forms.{Shape, alone, with_name, with_numeral, binding, plain, Form, holds_span_in, has_atom}
use Rattle.terms.specs.TextForms.{text_forms}
use Rattle.terms.specs.Tree.{Forest, nil, node, Cell, next, roots, cells}
use Rattle.terms.specs.Label.{Label, Declaration, trees}
use Rattle.terms.specs.Rows.{pad, span, joined, first_rows, read_records}
use Rattle.terms.specs.Offsets.{eighth_word}
use Rattle.terms.proofs.Tables.{length_pad, Wide, first_rows_pad}
use Rattle.terms.proofs.Widths.{total_rows, wide_rows}
use Rattle.terms.proofs.RowFields.{row_field, row_offset}
use Rattle.surface.specs.Reader.{Position, start, Result, done, refused}
use Rattle.surface.specs.Tables.{Lengths, lengths}
use Rattle.surface.specs.Loading.{Outcome}
use Rattle.surface.specs.SameCore.{row_count, declaration_count, Accepts}
use Rattle.core_module.specs.CoreText.{reading_text, text_row, text_rows, text_outcome, read_core}
use Rattle.core_module.specs.Statements.{BeginsAs, RowBegins, AllBegin, TextRows}
use Rattle.core_module.proofs.Begins.{LabelBegins, AllLabels, AllModule}
use Rattle.core_module.proofs.ReadRows.{reading_reads}

-- Records have five words, and how many there are.
wide_read : (n : ℕ) (l : List Declaration) → Wide 5 (read_records n l)
wide_read n [] = tt
wide_read n (d ∷ l) = (ap suc (ap suc (ap suc (length_pad 2 (roots n (trees d))))), wide_read (next n (trees d)) l)

count_read : (n : ℕ) (ds : List Declaration) → length (read_records n ds) ≡ length ds
count_read n [] = refl
count_read n (d ∷ l) = ap suc (count_read (next n (trees d)) l)

-- The tables that reading leaves hold the rows and the records of what it gives.
pub record TextStands (ds : List Declaration) (o : Outcome) : Type 0 where
  pub core : first_rows 8 (row_count o.answer) o.tables.core ≡ text_rows 0 ds
  pub declarations : first_rows 5 (declaration_count o.answer) o.tables.declarations ≡ read_records 0 ds

in_table : (w n k : ℕ) (l : List (List ℕ)) → Wide w l → n ≡ length l → length l * w ≤ k → first_rows w n (pad k (joined l)) ≡ l
in_table w n k l h i j = ap (λ (x : ℕ). first_rows w x (pad k (joined l))) i ∙ first_rows_pad w l k h j

eighth : (n k : ℕ) → n ≤ k / 8 → n * 8 ≤ k
eighth n k h = omega arith

fifth : (n k : ℕ) → n ≤ k / 5 → n * 5 ≤ k
fifth n k h = omega arith

pub text_stands : (t : List ℕ) (z : Lengths) (ds : List Declaration) (q : Position) → reading_text t z start ≡ done ds q → TextStands ds (text_outcome z (done ds q))
text_stands t z ds q e =
    let r = reading_reads t z ds q e in
    let n : q.rows ≡ length (text_rows 0 ds) = omega (arith, r.rows, total_rows text_row 0 ds) in
    record {
      core = in_table 8 q.rows z.core (text_rows 0 ds) (wide_rows (holds_span_in text_forms) 0 ds) n (eighth (length (text_rows 0 ds)) z.core (omega (arith, n, r.room (omega arith))));
      declarations = in_table 5 (length ds) z.declarations (read_records 0 ds) (wide_read 0 ds) (sym (count_read 0 ds)) (fifth (length (read_records 0 ds)) z.declarations (omega (arith, count_read 0 ds, r.few)));
    }

module _ (t : List ℕ) where
  -- A row says of its term what the label says.
  row_begins : (c : Cell Label) → LabelBegins t c.label → RowBegins t (text_row c)
  unfolding holds_span_in
  row_begins c (f, e, b) = (f, e, go f.shape refl b)
    where
      l : Label
      l = c.label

      fields : List ℕ
      fields = cond (holds_span_in text_forms l.kind) (span l) [] ++ c.children

      at : eighth_word (text_row c) ≡ l.offset
      at = row_offset l.kind fields l.offset

      held : has_atom f.shape ≡ true → holds_span_in text_forms l.kind ≡ true
      held h = ap (λ (o : Option Form). elim o as (λ _. Bool) [ none ↦ false | some g ↦ has_atom g.shape ]) e ∙ h

      one : has_atom f.shape ≡ true → get_or (text_row c) 1 0 ≡ l.start
      one h = row_field l.kind fields l.offset 0 (omega arith) ∙ ap (λ (b : Bool). get_or (cond b (span l) [] ++ c.children) 0 0) (held h)

      two : has_atom f.shape ≡ true → get_or (text_row c) 2 0 ≡ l.length
      two h = row_field l.kind fields l.offset 1 (omega arith) ∙ ap (λ (b : Bool). get_or (cond b (span l) [] ++ c.children) 1 0) (held h)

      go : (x : Shape) → f.shape ≡ x → BeginsAs t l.offset f x l.start l.length → BeginsAs t (eighth_word (text_row c)) f x (get_or (text_row c) 1 0) (get_or (text_row c) 2 0)
      go alone h b = subst (λ (n : ℕ). BeginsAs t n f alone 0 0) (sym at) b
      go with_name h b = b
      go with_numeral h b =
          subst (λ (n : ℕ). BeginsAs t n f with_numeral (get_or (text_row c) 1 0) (get_or (text_row c) 2 0)) (sym at)
          (subst (λ (n : ℕ). BeginsAs t l.offset f with_numeral n (get_or (text_row c) 2 0)) (sym (one (ap has_atom h)))
          (subst (λ (n : ℕ). BeginsAs t l.offset f with_numeral l.start n) (sym (two (ap has_atom h))) b))
      go binding h b = b
      go plain h b = subst (λ (n : ℕ). BeginsAs t n f plain 0 0) (sym at) b

  all_append : (l m : List (List ℕ)) → AllBegin t l → AllBegin t m → AllBegin t (l ++ m)
  all_append [] m h k = k
  all_append (w ∷ l) m h k = (h.0, all_append l m h.1 k)

  map_append_rows : (a b : List (Cell Label)) → AllBegin t (map text_row a) → AllBegin t (map text_row b) → AllBegin t (map text_row (a ++ b))
  map_append_rows [] b h k = k
  map_append_rows (c ∷ a) b h k = (h.0, map_append_rows a b h.1 k)

  terms_begin : (n : ℕ) (f : Forest Label) → AllLabels t f → AllBegin t (map text_row (cells n f))
  terms_begin n nil h = tt
  terms_begin n (node l a r) h =
      map_append_rows (cells n a) (record { label = l; children = roots n a } ∷ cells (suc (next n a)) r) (terms_begin n a h.1)
      (row_begins (record { label = l; children = roots n a }) h.0, terms_begin (suc (next n a)) r h.2)

  rows_begin : (n : ℕ) (ds : List Declaration) → AllModule t ds → AllBegin t (text_rows n ds)
  rows_begin n [] h = tt
  rows_begin n (d ∷ l) h = all_append (map text_row (cells n (trees d))) (text_rows (next n (trees d)) l) (terms_begin n (trees d) h.0) (rows_begin (next n (trees d)) l h.1)

  by_result : (z : Lengths) (o : Result (List Declaration)) → reading_text t z start ≡ o → Accepts (text_outcome z o) → AllBegin t (first_rows 8 (row_count (text_outcome z o).answer) (text_outcome z o).tables.core)
  by_result z (done ds q) e a = subst (AllBegin t) (sym (text_stands t z ds q e).core) (rows_begin 0 ds (reading_reads t z ds q e).begins)
  by_result z (refused r) e a = absurd (let f = a.2 in let n : ◌≡◌ {A = ℕ} 0 1 = cc in omega arith)

pub text_rows_begin : TextRows
unfolding read_core
text_rows_begin t before a after e h =
    subst (λ (o : Outcome). Accepts o → AllBegin t (first_rows 8 (row_count o.answer) o.tables.core)) (sym e) (by_result t (lengths before) (reading_text t (lengths before) start) refl) h
