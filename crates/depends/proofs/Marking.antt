-- In the tables of a loaded source the places that show j are marked, and what is found then is the first mention.
use mathlib.Core.Path.{◌≡◌, refl, sym, ap, ◌∙◌}
use mathlib.Core.Bool.{Bool, true, false, ◌&&◌, ◌||◌, cond}
use mathlib.Core.List.{List, [], ◌∷◌}
use mathlib.Core.Option.{Option, none, some}
use Prim.Native.Nat.{ℕ, zero, suc, ◌+◌, ◌-◌, ◌*◌, ◌<◌, ◌≤◌, max}
use native.Mathlib.Omega.{arith}
use native.Mathlib.Nat.{add-zero}
use lib.Dec.{eqb, ltb}
use borrow.Author.Tests.{lt-ltb, le-ltb, ltb-true, ltb-false}
use lib.ListN.{length, get_or}
use Rattle.terms.specs.Label.{Declaration}
use Rattle.terms.specs.Resolution.{CoreDeclaration, resolve_module}
use Rattle.terms.specs.Rows.{pad, joined, core_rows, declaration_records}
use Rattle.terms.proofs.Tables.{getD_pad, Wide, joined_at}
use Rattle.terms.proofs.Widths.{wide_core, wide_records, total_core, total_surface, count_records}
use Rattle.surface.specs.Reader.{Position, start, done}
use Rattle.surface.specs.Loading.{Lengths, loading, outcome}
use Rattle.surface.proofs.Acceptance.{is_read, is_loaded}
use Rattle.rows.specs.DeclarationRows.{row_behind, first_row}
use Rattle.dependence.specs.Depends.{NumberedRow, Among}
use Rattle.dependence.specs.First.{own_rows, counted_rows, row_names, first_naming, is_found, shows, first_mention}
use Rattle.dependence.specs.Asks.{shown}
use Rattle.dependence.proofs.Naming.{first_same}
use Rattle.dependence.proofs.Counted.{counted_own}
use Rattle.dependence.proofs.Ranges.{first_of, behind_of, counted_behind, first_of_zero, first_is_behind, first_counted, counted_inside, behind_inside, range, own_range, own_counted, range_end, range_next}
use Rattle.dependence.proofs.Records.{last_in_record, counted_in_record, count_resolved}
use Rattle.dependence.proofs.Earlier.{Earlier, loaded_earlier}
use Rattle.dependence.proofs.Showing.{shows_rule}
use Rattle.depends.specs.inner.Search as inner
use Rattle.depends.specs.inner.Search.{marked, names_marked, first_marked, shows_place, place_looked_at, places_looked_at, marks_left, row_or_none, shown_row}
use Rattle.depends.proofs.Marks.{marks, marked_is, marks_store, marks_before}

-- Word j of row k in a table that has room for all rows.
pub word_of_row : (w n : ℕ) (l : List (List ℕ)) → Wide w l → length l * w ≤ n → (k j : ℕ) → k < length l → j < w → k * w + j < n → get_or (pad n (joined l)) (k * w + j) 0 ≡ get_or (get_or l k []) j 0
word_of_row w n l h f k j a b c = getD_pad n (joined l) (k * w + j) c ∙ joined_at w l h k j a b

option_found : (to r : ℕ) → is_found (row_or_none to r) ≡ ltb r to
option_found to r = go (ltb r to)
  where
    go : (b : Bool) → is_found (elim b as (λ _. Option ℕ) [ true ↦ some r | false ↦ none ]) ≡ b
    go true = refl
    go false = refl

-- The search in some rows, where a core table has their words.
module _ (core work : List ℕ) (rows : List (List ℕ)) (names : (k : ℕ) → k < length rows → names_marked core work k ≡ row_names (marked work) (get_or rows k [])) where
  found_at : (k to : ℕ) (b : Bool) (r : ℕ) (l : List NumberedRow) → row_names (marked work) (get_or rows k []) ≡ b → k < to → (b ≡ false → first_naming (marked work) l ≡ row_or_none to r)
      → first_naming (marked work) (record { number = k; words = get_or rows k [] } ∷ l) ≡ row_or_none to (elim b as (λ _. ℕ) [ true ↦ k | false ↦ r ])
  unfolding first_naming
  found_at k to b r l e h later =
      ap (λ (b : Bool). elim b as (λ _. Option ℕ) [ true ↦ some k | false ↦ first_naming (marked work) l ]) e ∙ go b later
    where
      go : (b : Bool) → (b ≡ false → first_naming (marked work) l ≡ row_or_none to r)
          → elim b as (λ _. Option ℕ) [ true ↦ some k | false ↦ first_naming (marked work) l ] ≡ row_or_none to (elim b as (λ _. ℕ) [ true ↦ k | false ↦ r ])
      go true later = sym (ap (λ (b : Bool). elim b as (λ _. Option ℕ) [ true ↦ some k | false ↦ none ]) (lt-ltb k to h))
      go false later = later refl

  search_is : (n k to : ℕ) → to ≡ k + n → to ≤ length rows → first_naming (marked work) (range rows to k) ≡ row_or_none to (first_marked core work n k)
  unfolding first_naming first_marked
  search_is zero k to e h =
      ap (first_naming (marked work)) (range_end rows to k (omega arith))
      ∙ sym (ap (λ (b : Bool). elim b as (λ _. Option ℕ) [ true ↦ some k | false ↦ none ]) (le-ltb k to (omega arith)))
  search_is (suc n) k to e h =
      let f : suc k ≡ k + 1 = omega arith in
      let ih = search_is n (k + 1) to (omega arith) h in
      ap (first_naming (marked work)) (range_next rows to k (omega arith) h)
      ∙ found_at k to (names_marked core work k) (first_marked core work n (k + 1)) (range rows to (suc k)) (sym (names k (omega arith))) (omega arith)
      (λ _. ap (λ (x : ℕ). first_naming (marked work) (range rows to x)) f ∙ ih)

-- A source that is loaded, its core table and its declaration list.
module _ (s : List ℕ) (z : Lengths) (ds : List Declaration) (q : Position) (e : loading s z start ≡ done ds q) where
  abbrev m : List CoreDeclaration
  m = resolve_module s [] ds

  abbrev core : List ℕ
  core = (outcome s z (done ds q)).tables.core

  abbrev records : List ℕ
  records = (outcome s z (done ds q)).tables.declarations

  earlier : Earlier m
  earlier = loaded_earlier s z ds q e

  rows_fit : length (core_rows 0 m) * 8 ≤ z.core
  rows_fit = omega (arith, total_core s [] 0 ds, total_surface 0 ds, (is_read s z ds q (is_loaded s z ds q e).read).enough.core)

  records_fit : length ds * 5 ≤ z.declarations
  records_fit = omega (arith, (is_read s z ds q (is_loaded s z ds q e).read).enough.declarations)

  core_word : (k w : ℕ) → k < length (core_rows 0 m) → w < 8 → get_or core (k * 8 + w) 0 ≡ get_or (get_or (core_rows 0 m) k []) w 0
  core_word k w a b = word_of_row 8 z.core (core_rows 0 m) (wide_core 0 m) rows_fit k w a b (omega (arith, rows_fit))

  record_word : (i w : ℕ) → i < length ds → w < 5 → get_or records (i * 5 + w) 0 ≡ get_or (get_or (declaration_records 0 m) i []) w 0
  record_word i w a b =
      let c = count_records s [] 0 ds in
      word_of_row 5 z.declarations (declaration_records 0 m) (wide_records 0 m) (omega (arith, c, records_fit)) i w (omega (arith, c)) b (omega (arith, records_fit))

  behind_is : (i : ℕ) → i < length ds → row_behind records i ≡ behind_of 0 m i
  unfolding row_behind
  behind_is i h =
      (λ x. max (record_word i 3 h (omega arith) x) (record_word i 4 h (omega arith) x) + 1) ∙ last_in_record s [] 0 ds i h

  first_is : (i : ℕ) → i < length ds → first_row records i ≡ first_of 0 m i
  unfolding first_row
  first_is zero h = sym (first_of_zero 0 m)
  first_is (suc i) h = behind_is i (omega arith) ∙ sym (first_is_behind 0 m i (omega (arith, count_resolved s [] ds)))

  counted_is : (i : ℕ) → i < length ds → inner.counted_behind records i ≡ counted_behind 0 m i
  unfolding inner.counted_behind
  counted_is i h =
      let k = ap (λ (n : ℕ). get_or records n 0) (sym (add-zero (i * 5))) ∙ record_word i 0 h (omega arith) in
      (λ x. cond (eqb (k x) 2) (behind_is i h x) (record_word i 3 h (omega arith) x + 1)) ∙ sym (counted_in_record s [] 0 ds i h)

  -- A row of the table, and the rows of a range of it.
  names_is : (work : List ℕ) (k : ℕ) → k < length (core_rows 0 m) → names_marked core work k ≡ row_names (marked work) (get_or (core_rows 0 m) k [])
  unfolding names_marked
  names_is work k h =
      let a = ap (λ (n : ℕ). get_or core n 0) (sym (add-zero (k * 8))) ∙ core_word k 0 h (omega arith) in
      λ x. eqb (a x) 2 && marked work (core_word k 1 h (omega arith) x)

  range_is : (work : List ℕ) (from to : ℕ) → from ≤ to → to ≤ length (core_rows 0 m)
      → first_naming (marked work) (range (core_rows 0 m) to from) ≡ row_or_none to (first_marked core work (to - from) from)
  range_is work from to f h = search_is core work (core_rows 0 m) (names_is work) (to - from) from to (omega arith) h

  own_found : (work : List ℕ) (i : ℕ) → i < length ds
      → first_naming (marked work) (own_rows m i) ≡ row_or_none (row_behind records i) (first_marked core work (row_behind records i - first_row records i) (first_row records i))
  own_found work i h =
      ap (first_naming (marked work)) (own_range m i)
      ∙ range_is work (first_of 0 m i) (behind_of 0 m i) (omega (arith, first_counted 0 m i, counted_inside 0 m i)) (omega (arith, behind_inside 0 m i))
      ∙ sym (λ x. row_or_none (behind_is i h x) (first_marked core work (behind_is i h x - first_is i h x) (first_is i h x)))

  counted_found : (work : List ℕ) (i : ℕ) → i < length ds
      → is_found (first_naming (marked work) (counted_rows m i)) ≡ ltb (first_marked core work (inner.counted_behind records i - first_row records i) (first_row records i)) (inner.counted_behind records i)
  counted_found work i h =
      ap (λ (l : List NumberedRow). is_found (first_naming (marked work) l)) (own_counted m i)
      ∙ ap is_found (range_is work (first_of 0 m i) (counted_behind 0 m i) (first_counted 0 m i) (omega (arith, counted_inside 0 m i, behind_inside 0 m i)))
      ∙ option_found (counted_behind 0 m i) (first_marked core work (counted_behind 0 m i - first_of 0 m i) (first_of 0 m i))
      ∙ sym (λ x. ltb (first_marked core work (counted_is i h x - first_is i h x) (first_is i h x)) (counted_is i h x))

  module _ (j w : ℕ) (room : length ds ≤ w) where
    -- The marks of the first n places in a work area of w words.
    abbrev pub area : ℕ → List ℕ
    area n = pad w (marks m j n)

    -- Rows that name places below n name marked ones exactly where these show j.
    same_found : (n : ℕ) (l : List NumberedRow) → n ≤ w → ((p r : ℕ) → Among p r l → p < n) → first_naming (marked (area n)) l ≡ first_naming (shows m j) l
    same_found n l h below = first_same (marked (area n)) (shows m j) l (λ p r a. marked_is m j w n p (below p r a) h)

    place_is : (n : ℕ) → n < length ds → place_looked_at core records j n (area n) ≡ area (suc n)
    unfolding place_looked_at shows_place
    place_is n h =
        let found = same_found n (counted_rows m n) (omega arith) (λ p r a. earlier n p r (counted_own m n p r a)) in
        marks_store m j w n (omega arith) (shows_place core records (area n) n j)
        (ap (λ (b : Bool). eqb n j || b) (sym (counted_found (area n) n h) ∙ ap is_found found) ∙ sym (shows_rule m j earlier n))

    places_are : (n k : ℕ) → k + n ≤ length ds → places_looked_at core records j n k (area k) ≡ area (k + n)
    unfolding places_looked_at
    places_are zero k h = ap area (sym (add-zero k))
    places_are (suc n) k h =
        let f : suc k ≡ k + 1 = omega arith in
        let g : (k + 1) + n ≡ k + suc n = omega arith in
        ap (places_looked_at core records j n (k + 1)) (place_is k (omega arith) ∙ ap area f) ∙ places_are n (k + 1) (omega arith) ∙ ap area g

    module _ (i : ℕ) (hi : i < length ds) (hj : j < length ds) where
      -- From an empty work area on, the places from j up to i leave the marks of the first i.
      pub looked_at : marks_left core records j i (pad w []) ≡ area i
      unfolding places_looked_at
      looked_at = go (ltb i j) refl
        where
          go : (b : Bool) → ltb i j ≡ b → marks_left core records j i (pad w []) ≡ area i
          go true g =
              let n : i - j ≡ 0 = omega (arith, ltb-true i j g) in
              ap (λ (n : ℕ). places_looked_at core records j n j (pad w [])) n ∙ sym (marks_before m j w earlier i (omega (arith, ltb-true i j g)) (omega arith))
          go false g =
              let n : j + (i - j) ≡ i = omega (arith, ltb-false i j g) in
              ap (places_looked_at core records j (i - j) j) (sym (marks_before m j w earlier j (omega arith) (omega arith)))
              ∙ places_are (i - j) j (omega (arith, ltb-false i j g)) ∙ ap area n

      -- The row that is shown then, or that there is none, is what the definition gives.
      pub answered : shown_row core records (area i) i ≡ shown (first_mention m i j)
      unfolding shown_row first_mention
      answered = ap shown (sym (own_found (area i) i hi) ∙ same_found i (own_rows m i) (omega arith) (earlier i))
