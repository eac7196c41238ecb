-- Declarations held by the tables from a place and a row on, and what each comes to.
use Rattle.token.specs.declared.Class.{Class}
use Prim.Native.Nat.{ℕ, zero, suc, ◌+◌, ◌*◌, ◌≤◌, ◌<◌}
use mathlib.Core.Path.{◌≡◌, refl, sym, ◌∙◌, ap, ap₂, subst}
use mathlib.Core.List.{List, [], ◌∷◌, ◌++◌, map}
use mathlib.Core.Option.{Option, none, some}
use mathlib.Core.Bool.{cond}
use native.Mathlib.Omega.{arith}
use native.Mathlib.Numerals.{add-one}
use native.Mathlib.Nat.{add-zero}
use borrow.Author.Tests.{eq-eqb, ne_eqb}
use lib.Dec.{eqb}
use lib.ListN.{length, get_or, take, length-append, length-map}
use Rattle.terms.specs.Tree.{Forest, nil, Tree, tree, maybe, next, roots, cells}
use Rattle.terms.specs.Label.{Name, part, Label, Declaration, trees, declared_name}
use Rattle.terms.specs.Resolution.{Locals, find, resolve_declaration, first_unknown, refused_name, resolve_module}
use Rattle.terms.specs.Rows.{pad, surface_row, surface_rows, core_row, read_record, read_records}
use Rattle.terms.proofs.Cells.{next_cells}
use Rattle.terms.proofs.Tables.{Wide}
use Rattle.terms.proofs.Widths.{wide_surface, wide_records, count_records}
use Rattle.scope.specs.Scope.{declared_names}
use Rattle.elaborate.specs.RowTerm.{TermOutcome, done, unknown_at, and_then, arguments, row_term}
use Rattle.elaborate.specs.Loadable.{Shaped, Nested, Bodied, WellRead, Loadable}
use Rattle.elaborate.specs.Declarations.{Fitting, ModuleOutcome, refused, module_outcome, parts_outcome, record_word, declaration_outcome}
use Rattle.elaborate.proofs.RowWords.{place, word_of, first_word_of}
use Rattle.elaborate.proofs.TableRows.{HasRows, has_rows, table_length, stored_rows}
use Rattle.elaborate.proofs.TreeRows.{Holds, holds_rows, settled, comes}
use Rattle.elaborate.proofs.ResolvedTrees.{next_grows, records_kept}

names_snoc : (s t : List ℕ) (k d : ℕ) → declared_names s t k (suc d) ≡ declared_names s t k d ++ (part s (get_or t ((k + d) * 5 + 1) 0) (get_or t ((k + d) * 5 + 2) 0) ∷ [])
unfolding declared_names
names_snoc s t k zero = ap (λ (m : ℕ). part s (get_or t (m * 5 + 1) 0) (get_or t (m * 5 + 2) 0) ∷ []) (sym (add-zero k))
names_snoc s t k (suc d) =
    ap (λ (l : List Name). part s (get_or t (k * 5 + 1) 0) (get_or t (k * 5 + 2) 0) ∷ l)
    (names_snoc s t (suc k) d
    ∙ ap (λ (m : ℕ). declared_names s t (suc k) d ++ (part s (get_or t (m * 5 + 1) 0) (get_or t (m * 5 + 2) 0) ∷ [])) (let z : suc k + d ≡ k + suc d = omega arith in z))

-- The tables hold these declarations from place d and row k on.
abbrev pub Held : List ℕ → List ℕ → ℕ → ℕ → ℕ → List Declaration → Type 0
Held surface declarations rows d k [] = Unit {0}
Held surface declarations rows d k (x ∷ l) =
    (place 5 declarations d ≡ read_record k x)
    × Holds surface rows k (trees x)
    × Shaped (trees x)
    × Nested 512 (trees x)
    × Bodied x.kind x.body
    × Held surface declarations rows (suc d) (next k (trees x)) l

held : (surface declarations : List ℕ) (rows d k : ℕ) (ds : List Declaration) → HasRows 8 surface k (surface_rows k ds) → HasRows 5 declarations d (read_records k ds)
    → k + length (surface_rows k ds) ≤ rows → WellRead ds → Held surface declarations rows d k ds
held surface declarations rows d k [] h g b w = tt
held surface declarations rows d k (x ∷ l) h g b w =
    let f = trees x in
    let n = omega_end k f (surface_rows (next k f) l) in
    let e = holds_rows surface rows k f (surface_rows (next k f) l) h (omega arith) in
    (g.0, e.0, w.0, w.1, w.2, held surface declarations rows (suc d) (next k f) l e.1 g.1 (omega arith) w.3)
  where
    omega_end : (k : ℕ) (f : Forest Label) (rest : List (List ℕ)) → k + length (map surface_row (cells k f) ++ rest) ≡ next k f + length rest
    omega_end k f rest = omega (arith, next_cells k f, length-append (map surface_row (cells k f)) rest, length-map (cells k f) surface_row)

wide_read : (ds : List Declaration) → Wide 5 (read_records 0 ds)
wide_read ds = subst (Wide 5) (records_kept [] [] 0 ds) (wide_records 0 (resolve_module [] [] ds))

length_read : (ds : List Declaration) → length (read_records 0 ds) ≡ length ds
length_read ds = ap length (sym (records_kept [] [] 0 ds)) ∙ count_records [] [] 0 ds

-- The trees behind a declaration's type.
abbrev behind : Declaration → Forest Label
behind x = maybe x.body nil (λ b. tree b nil)

-- Each declaration has a row of its own, so that its place is at most its type's row, which is a word.
places_fit : (surface declarations : List ℕ) (rows d k : ℕ) (ds : List Declaration) → Held surface declarations rows d k ds → d ≤ k → d ≤ 4294967296
    → ((i : ℕ) → get_or declarations i 0 < 4294967296) → d + length ds ≤ 4294967296
places_fit surface declarations rows d k [] h b c w = omega arith
places_fit surface declarations rows d k (x ∷ l) h b c w =
    let root = next k x.type.args in
    let e : get_or declarations (d * 5 + 3) 0 ≡ root = word_of 5 declarations d (read_record k x) h.0 3 (omega arith) in
    let up = next_grows k x.type.args in
    let more : suc root ≤ next k (trees x) = next_grows (suc root) (behind x) in
    let ih = places_fit surface declarations rows (suc d) (next k (trees x)) l h.5 (omega arith) (omega (arith, w (d * 5 + 3))) w in
    omega arith

module _ {surface declarations core work : List ℕ} {rows count : ℕ} {ds : List Declaration} (h : Loadable surface declarations core work rows count ds) where
  pub loaded : Held surface declarations rows 0 0 ds
  loaded =
      let n = h.all_rows in
      let m : count ≡ length (read_records 0 ds) = h.all_records ∙ sym (length_read ds) in
      held surface declarations rows 0 0 ds
      (has_rows 8 surface 0 (surface_rows 0 ds) (wide_surface 0 ds) (ap (λ (i : ℕ). take (i * 8) surface) (sym n) ∙ h.surface_read))
      (has_rows 5 declarations 0 (read_records 0 ds) (wide_read ds) (ap (λ (i : ℕ). take (i * 5) declarations) (sym m) ∙ h.records_read))
      (omega arith) h.well_read

  -- Words are below 2 ^ 32.
  pub loaded_fitting : ((i : ℕ) → get_or declarations i 0 < 4294967296) → Fitting surface declarations work rows count
  loaded_fitting w = record {
    area = h.area;
    read = table_length 8 surface (surface_rows 0 ds) rows h.all_rows (wide_surface 0 ds) h.surface_read;
    listed = table_length 5 declarations (read_records 0 ds) count (h.all_records ∙ sym (length_read ds)) (wide_read ds) h.records_read;
    few = omega (arith, h.all_records, places_fit surface declarations rows 0 0 ds loaded (omega arith) (omega arith) w);
  }

module _ (s surface declarations : List ℕ) (rows d : ℕ) where
  abbrev globals : List Name
  globals = declared_names s declarations 0 d

  abbrev R : ℕ → Locals → List ℕ → TermOutcome
  R = row_term s surface declarations rows d 512

  and_done : (o : TermOutcome) → and_then o (λ c. done c) ≡ o
  unfolding and_then
  and_done (done c) = refl
  and_done (unknown_at a n) = refl

  -- The type and the body are the rows of the declaration's trees.
  parts_come : (k : ℕ) (x : Declaration) (kind type body : ℕ) (core : List ℕ) → kind ≡ x.kind → Bodied x.kind x.body
      → type ≡ get_or (pad 2 (roots k (trees x))) 0 0 → body ≡ get_or (pad 2 (roots k (trees x))) 1 0
      → parts_outcome s surface declarations rows d kind type body core ≡ arguments R (λ i. []) (roots k (trees x)) core
  unfolding parts_outcome arguments
  parts_come k x kind type body core e h p q = go x.body h q
    where
      rest : Option (Tree Label) → Forest Label
      rest o = maybe o nil (λ b. tree b nil)

      one : List ℕ → TermOutcome
      one y = R type [] y

      go : (o : Option (Tree Label)) → Bodied x.kind o → body ≡ get_or (pad 1 (roots (suc (next k x.type.args)) (rest o))) 0 0
          → and_then (R type [] core) (λ c. cond (eqb kind 1) (done c) (R body [] c))
          ≡ and_then (R (next k x.type.args) [] core) (λ c. arguments R (λ i. []) (roots (suc (next k x.type.args)) (rest o)) c)
      go none h q =
          (λ i. and_then (R (p i) [] core) (λ c. cond (eq-eqb kind 1 (e ∙ h) i) (done c) (R body [] c)))
      go (some b) h q =
          (λ i. and_then (R (p i) [] core) (λ c. cond (ne_eqb kind 1 (λ z. h (sym e ∙ z)) i) (done c) (R (q i) [] c)))
          ∙ (λ i. and_then (R (next k x.type.args) [] core) (λ c. sym (and_done (R (next (suc (next k x.type.args)) b.args) [] c)) i))

  abbrev core_table : ℕ → Declaration → List ℕ → List ℕ
  core_table k x core = stored_rows core k (map core_row (cells k (resolve_declaration s globals x)))

  pub declaration_comes : (k : ℕ) (x : Declaration) (l : List Declaration) (core : List ℕ) → Held surface declarations rows d k (x ∷ l)
      → declaration_outcome s surface declarations rows d core
      ≡ elim (find (declared_name s x) globals) [
        | some i ↦ refused (refused_name Class.DuplicateName x.start x.length)
        | none ↦ module_outcome (settled (first_unknown (resolve_declaration s globals x)) (core_table k x core))
      ]
  unfolding declaration_outcome
  declaration_comes k x l core h =
      let word = word_of 5 declarations d (read_record k x) h.0 in
      let a : record_word s surface declarations rows d 1 ≡ x.start = word 1 (omega arith) in
      let n : record_word s surface declarations rows d 2 ≡ x.length = word 2 (omega arith) in
      let parts = parts_come k x _ _ _ core (first_word_of 5 declarations d (read_record k x) h.0 (omega arith)) h.4 (word 3 (omega arith)) (word 4 (omega arith))
      ∙ comes s surface declarations rows d (trees x) 512 k (λ i. []) core h.1 h.2 h.3 in
      λ i. elim (find (part s (a i) (n i)) globals) as (λ _. ModuleOutcome) [
        | some j ↦ refused (refused_name Class.DuplicateName (a i) (n i))
        | none ↦ module_outcome (parts i)
      ]

  -- One more declaration has a name.
  pub one_more_name : (k : ℕ) (x : Declaration) (l : List Declaration) → Held surface declarations rows d k (x ∷ l)
      → declared_names s declarations 0 d ++ (declared_name s x ∷ []) ≡ declared_names s declarations 0 (d + 1)
  one_more_name k x l h =
      let word = word_of 5 declarations d (read_record k x) h.0 in
      ap (λ (y : Name). globals ++ (y ∷ [])) (sym (ap₂ (part s) (word 1 (omega arith)) (word 2 (omega arith))))
      ∙ ap (λ (m : ℕ). globals ++ (part s (get_or declarations (m * 5 + 1) 0) (get_or declarations (m * 5 + 2) 0) ∷ [])) (let z : d ≡ 0 + d = omega arith in z)
      ∙ sym (names_snoc s declarations 0 d) ∙ ap (declared_names s declarations 0) (sym (add-one d))
