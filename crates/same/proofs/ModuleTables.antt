-- The tables of a module, row by row and record by record, and of its first declarations.
use Prim.Native.Nat.{ℕ, zero, suc, ◌+◌, ◌*◌, ◌≤◌, ◌<◌, max}
use mathlib.Core.Path.{◌≡◌, refl, sym, ap, ap₂, ◌∙◌}
use mathlib.Core.List.{List, [], ◌∷◌, map}
use native.Mathlib.Omega.{arith}
use native.Mathlib.Nat.{suc-mul, zero-mul, zero-add}
use native.Mathlib.Numerals.{add-one}
use lib.ListN.{length, get_or, take, drop, get_or-append, get_or-map, length-map, length-take, length-append}
use lib.Seq.{drop-cons, drop-drop, get_or-take}
use Rattle.rows.specs.DeclarationRows.{row_behind, first_row}
use Rattle.terms.specs.Label.{NamedDeclaration}
use Rattle.terms.specs.Rows.{first_rows}
use Rattle.terms.specs.Content.{RowContent, row_content, RecordContent, record_content}
use Rattle.terms.proofs.Tables.{length_first_rows}
use Rattle.terms.proofs.NamedModule.{ShapedModule, cores, rows_of, records_of}
use Rattle.same.specs.inner.Contents.{words_at, row_at, record_at}
use Rattle.same.proofs.Prefixes.{no_record, length_records, records_take, rows_split, behind_of, behind_rows}

abbrev pub no_row : RowContent
no_row = record { kind = 0; digits = []; fields = [] }

-- Words of a table that has them all.
words_taken : (w : ℕ) (t : List ℕ) (i : ℕ) → i + w ≤ length t → words_at w t i ≡ take w (drop i t)
words_taken zero t i h = refl
words_taken (suc w) t i h =
    ap {B = List ℕ} (λ r. get_or t i 0 ∷ r) (words_taken w t (i + 1) (omega arith) ∙ ap (λ (j : ℕ). take w (drop j t)) (add-one i))
    ∙ ap (take (suc w)) (sym (drop-cons t i 0 (omega arith)))

first_rows_get : (w n : ℕ) (t : List ℕ) (k : ℕ) → k < n → get_or (first_rows w n t) k [] ≡ take w (drop (k * w) t)
first_rows_get w zero t k h = absurd (omega arith)
first_rows_get w (suc n) t zero h = ap (λ (j : ℕ). take w (drop j t)) (sym (zero-mul w))
first_rows_get w (suc n) t (suc k) h =
    first_rows_get w n (drop w t) k (omega arith)
    ∙ ap (take w) (drop-drop (k * w) w t ∙ ap (λ (j : ℕ). drop j t) (let q : w + k * w ≡ suc k * w = omega (arith, suc-mul k w) in q))

-- What counts of row k of a table, from what counts of its first rows.
content_at : {C : Type 0} (f : List ℕ → C) (w n : ℕ) (t : List ℕ) (k : ℕ) → k < n → k * w + w ≤ length t
    → f (words_at w t (k * w)) ≡ get_or (map f (first_rows w n t)) k (f [])
content_at f w n t k h r =
    ap f (words_taken w t (k * w) r ∙ sym (first_rows_get w n t k h)) ∙ sym (get_or-map f (first_rows w n t) k [])

-- A core table and a declaration list hold a module.
pub record Hold (s core declarations : List ℕ) (l : List NamedDeclaration) : Type 0 where
  pub rows : (i : ℕ) → i < length (rows_of 0 (cores [] l)) → row_content s (row_at core i) ≡ get_or (rows_of 0 (cores [] l)) i no_row
  pub records : (k : ℕ) → k < length l → record_content s (record_at declarations k) ≡ get_or (records_of 0 (cores [] l)) k no_record

-- As many declarations as first records.
pub count_is : (s declarations : List ℕ) (l : List NamedDeclaration) (n : ℕ)
    → map (record_content s) (first_rows 5 n declarations) ≡ records_of 0 (cores [] l) → length l ≡ n
count_is s declarations l n f =
    sym (length_records 0 [] l) ∙ ap length (sym f) ∙ length-map (first_rows 5 n declarations) (record_content s) ∙ length_first_rows 5 n declarations

-- They do if their first rows and records have the module's contents.
pub hold : (s core declarations : List ℕ) (l : List NamedDeclaration) (m n : ℕ)
    → map (row_content s) (first_rows 8 m core) ≡ rows_of 0 (cores [] l)
    → map (record_content s) (first_rows 5 n declarations) ≡ records_of 0 (cores [] l)
    → m * 8 ≤ length core → n * 5 ≤ length declarations → Hold s core declarations l
hold s core declarations l m n e f g h = record {
  rows = λ i p.
      let q : length (rows_of 0 (cores [] l)) ≡ m = ap length (sym e) ∙ length-map (first_rows 8 m core) (row_content s) ∙ length_first_rows 8 m core in
      content_at (row_content s) 8 m core i (omega arith) (omega arith) ∙ ap (λ (r : List RowContent). get_or r i no_row) e;
  records = λ k p.
      let q = count_is s declarations l n f in
      content_at (record_content s) 5 n declarations k (omega arith) (omega arith) ∙ ap (λ (r : List RecordContent). get_or r k no_record) f;
}

module _ (s core declarations : List ℕ) (l : List NamedDeclaration) (h : Hold s core declarations l) where
  -- They hold the module's first declarations too.
  pub hold_first : (k : ℕ) → k ≤ length l → Hold s core declarations (take k l)
  hold_first k p = record {
    rows = λ i q.
        let w = rows_split k 0 [] l in
        h.rows i (omega (arith, ap length w.1, length-append (rows_of 0 (cores [] (take k l))) w.0))
        ∙ ap (λ (r : List RowContent). get_or r i no_row) w.1
        ∙ get_or-append (rows_of 0 (cores [] (take k l))) w.0 no_row i q;
    records = λ j q.
        let n : j < k = omega (arith, length-take k l) in
        h.records j (omega arith)
        ∙ sym (get_or-take k (records_of 0 (cores [] l)) j no_record n)
        ∙ ap (λ (r : List RecordContent). get_or r j no_record) (sym (records_take k 0 [] l));
  }

  pub behind_is : (j : ℕ) → row_behind declarations j ≡ behind_of (record_content s (record_at declarations j))
  unfolding row_behind
  behind_is j =
      let a : j * 5 + 3 ≡ j * 5 + 1 + 1 + 1 = omega arith in
      let b : j * 5 + 4 ≡ j * 5 + 1 + 1 + 1 + 1 = omega arith in
      ap₂ (λ (x y : ℕ). max (get_or declarations x 0) (get_or declarations y 0) + 1) a b

  -- The first row of declaration k is behind those of the declarations before it.
  pub first_row_is : ShapedModule l → (k : ℕ) → k ≤ length l → first_row declarations k ≡ length (rows_of 0 (cores [] (take k l)))
  unfolding first_row
  first_row_is w zero p = refl
  first_row_is w (suc j) p =
      behind_is j ∙ ap behind_of (h.records j (omega arith)) ∙ behind_rows j 0 [] l w (omega arith) ∙ zero-add _
