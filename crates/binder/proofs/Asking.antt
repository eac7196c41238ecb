-- What the question answers and leaves, from what loading leaves.
use Rattle.token.specs.declared.Class.{Class}
use Rattle.std.specs.Prelude.{Err}
use mathlib.Core.Path.{◌≡◌, refl, sym, ap, ap₂, ◌∙◌, subst}
use mathlib.Core.Bool.{true, false, ◌&&◌, and-eq-true_iff, false≢true}
use mathlib.Core.List.{List, []}
use Prim.Native.Nat.{ℕ, ◌+◌, ◌-◌, ◌*◌, ◌<◌, ◌≤◌}
use native.Mathlib.Omega.{arith}
use lib.Dec.{ltb, eqb}
use borrow.Author.Tests.{ltb-true, eqb-true, lt-ltb, eq-eqb}
use lib.ListN.{length, get_or, take, replicate}
use lib.Seq.{take_at}
use Rattle.std.specs.Prelude.{Ok, Err}
use Rattle.token.specs.declared.Refusal.{Refusal}
use Rattle.terms.specs.Forms.{ref}
use Rattle.terms.specs.Label as Label
use Rattle.terms.specs.Label.{Name, Declaration}
use Rattle.terms.specs.Resolution.{find, resolve_module}
use Rattle.terms.specs.Rows.{pad, joined, surface_rows, core_rows, declaration_records}
use Rattle.terms.specs.Lookup.{lookup, Referent, local, global, unknown, refers}
use Rattle.terms.proofs.Entries.{entry_below}
use Rattle.terms.proofs.Tables.{length_pad, Wide, length_joined}
use Rattle.terms.proofs.Widths.{wide_surface, wide_records, count_records, total_surface}
use Rattle.tables.specs.Tables.{cleared}
use Rattle.surface.specs.Answer.{Answer, loaded}
use Rattle.surface.specs.Reader.{Position, start, Result, done, refused, nowhere}
use Rattle.surface.specs.Tables.{Lengths, Tables, tables}
use Rattle.surface.specs.SameCore.{row_count, declaration_count}
use Rattle.surface.specs.Loading.{loading, Outcome, outcome, load}
use Rattle.surface.proofs.Acceptance.{IsRead, is_read, is_loaded}
use Rattle.binding.specs.declared.Binder.{Binder}
use Rattle.binding.specs.Answer.{Binding}
use Rattle.binding.specs.Binds.{Standing, IsRef, name_of, Answers, left}
use Rattle.binding.proofs.EveryRow.{every_row}
use Rattle.binding.proofs.ByScope.{locals_there, globals_there, Meant, meant, not_ref, ref_row, unknown_never}
use Rattle.scope.specs.Scope.{declared_names}
use Rattle.elaborate.specs.RowTerm.{row_word}
use Rattle.elaborate.specs.Loadable.{Loadable}
use Rattle.elaborate.proofs.ModuleRows.{loaded as module_loaded, loaded_fitting}
use Rattle.elaborate.proofs.ResolvedTrees.{records_kept}
use Rattle.loader.specs.Leaving.{leaving}
use Rattle.loader.proofs.Cleared.{pad_is, cleared_whole, cleared_pad}
use Rattle.loader.proofs.WellRead.{well_read}
use Rattle.binder.specs.inner.Walk.{declaration_with, root_with, walk, refers_at, Placed, binding_of}
use Rattle.binder.proofs.Scopes.{There, there}

-- What stands at the front of a table with 0 behind it.
front_of : (w n m : ℕ) (l : List (List ℕ)) → Wide w l → m ≡ length l → m * w ≤ n → take (m * w) (pad n (joined l)) ≡ joined l
front_of w n m l h e b =
    let k : length (joined l) ≡ m * w = length_joined w l h ∙ ap (λ (x : ℕ). x * w) (sym e) in
    ap (take (m * w)) (pad_is n (joined l) (omega arith)) ∙ take_at (joined l) (replicate (n - length (joined l)) 0) (m * w) k

-- A source that is loaded, with the tables that it leaves.
module _ (s : List ℕ) (z : Lengths) (ds : List Declaration) (q : Position) (e : loading s z start ≡ done ds q) where
  abbrev o : Outcome
  o = outcome s z (done ds q)

  abbrev surface : List ℕ
  surface = o.tables.surface

  abbrev declarations : List ℕ
  declarations = o.tables.declarations

  read : IsRead s z ds q
  read = is_read s z ds q (is_loaded s z ds q e).read

  rows_are : q.rows ≡ length (surface_rows 0 ds)
  rows_are = omega (arith, read.rows, total_surface 0 ds)

  loadable : Loadable surface declarations o.tables.core o.tables.work q.rows (length ds) ds
  loadable = record {
    area = omega (arith, length_pad z.work [], read.enough.work);
    room = omega (arith, length_pad z.core (joined (core_rows 0 (resolve_module s [] ds))), rows_are, read.enough.core);
    all_rows = rows_are;
    surface_read = front_of 8 z.surface q.rows (surface_rows 0 ds) (wide_surface 0 ds) rows_are (omega (arith, rows_are, read.enough.surface));
    all_records = refl;
    records_read =
        front_of 5 z.declarations (length ds) (declaration_records 0 (resolve_module s [] ds)) (wide_records 0 (resolve_module s [] ds)) (sym (count_records s [] 0 ds)) (omega (arith, read.enough.declarations))
        ∙ ap joined (records_kept s [] 0 ds);
    well_read = well_read s ds read.readable.derives read.readable.shallow;
  }

  module _ (k : ℕ) where
    stands : k < q.rows → There s surface declarations q.rows k ds
    stands h = there s surface declarations q.rows k ds (module_loaded loadable) (omega (arith, read.rows))

    -- The declaration that has the row is one of them.
    pub place_fits : k < q.rows → declaration_with declarations (length ds) k < length ds
    place_fits h =
        let t = stands h in
        omega (arith, t.its_number, entry_below ds t.term.number _ t.term.declared)

    -- The term with the row.
    pub ref_there : k < q.rows → get_or surface (k * 8) 0 ≡ ref → (w : Standing s ds k) × IsRef w
    ref_there h f = let t = stands h in (t.term, sym t.its_kind ∙ f)

    -- What the row refers to, by scope.
    pub answers_ref : k < q.rows → get_or surface (k * 8) 0 ≡ ref → Answers s k (done ds q) (binding_of (refers_at s surface declarations (length ds) k))
    answers_ref h f =
        let t = stands h in
        let w = t.term in
        let r : IsRef w = sym t.its_kind ∙ f in
        let x = t.its_name r in
        let same : refers_at s surface declarations (length ds) k ≡ refers (lookup (name_of w) (locals_there s ds k w)) (find (name_of w) (globals_there s ds k w)) =
        ap (λ (j : ℕ). refers (lookup (part s k) (walk surface k s 512 (root_with declarations j k) [])) (find (part s k) (declared_names s declarations 0 j))) t.its_number
        ∙ (λ i. refers (lookup (x i) (t.its_locals i)) (find (x i) (t.its_globals i))) in
        subst (λ (y : Referent). Answers s k (done ds q) (binding_of y)) (sym same) (go w r (refers (lookup (name_of w) (locals_there s ds k w)) (find (name_of w) (globals_there s ds k w))) (meant s ds k w r))
      where
        part : List ℕ → ℕ → Name
        part s k = Label.part s (row_word surface k 1) (row_word surface k 2)

        go : (w : Standing s ds k) (r : IsRef w) (y : Referent) → Meant s ds k w r y → Answers s k (done ds q) (binding_of y)
        go w r (local y) m = m
        go w r (global j) m = m
        go w r unknown m = absurd (unknown_never s ds k (is_loaded s z ds q e).names m)

    -- 12: no term with this row is a reference.
    pub answers_other : ltb k q.rows && eqb (get_or surface (k * 8) 0) 24 ≡ false → Answers s k (done ds q) (Err (nowhere Class.NoDeclaration))
    answers_other f = (refl, λ w r. go w r ((every_row s z ds q e k).1 w))
      where
        go : (w : Standing s ds k) → IsRef w → k < q.rows → ⊥
        go w r h =
            let t = stands h in
            let v = t.term in
            let x : ¬ (IsRef v) = λ y. false≢true (sym f ∙ (and-eq-true_iff (ltb k q.rows) _).1 (lt-ltb k q.rows h, eq-eqb _ 24 (t.its_kind ∙ y))) in
            let y = sym (ref_row s ds k w r) ∙ not_ref s ds k v x in
            let n : ◌≡◌ {A = ℕ} 0 1 = cc in
            omega arith

module _ (s : List ℕ) (z : Lengths) (k : ℕ) (r : Answer) (surface core declarations work : List ℕ) (l : leaving r surface core declarations work ≡ load s z) where
  -- What is promised of the answer a and the tables t.
  abbrev pub Promised : Binding → Tables → Type 0
  Promised a t = Answers s k (loading s z start) a × (t ≡ left s z a)

  -- Loading refuses.
  pub ask_refused : (x : Refusal) → r ≡ Err x → Promised (Err x) (tables surface core declarations work)
  unfolding load
  ask_refused x e = by (loading s z start) refl l
    where
      by : (o : Result (List Declaration)) → loading s z start ≡ o → leaving r surface core declarations work ≡ outcome s z o → Promised (Err x) (tables surface core declarations work)
      by (refused y) f h =
          let a : r ≡ Err y = ap (λ (o : Outcome). o.answer) h in
          let g : x ≡ y = cc in
          (subst (λ (o : Result (List Declaration)). Answers s k o (Err x)) (sym f) (ap Err g), ap (λ (o : Outcome). o.tables) h)
      by (done ds q) f h = absurd (let a : r ≡ loaded q.rows (length ds) = ap (λ (o : Outcome). o.answer) h in let n : ◌≡◌ {A = ℕ} 0 1 = cc in omega arith)

  module _ (rows count : ℕ) (e : r ≡ loaded rows count) where
    -- A source that is loaded: what was read, and the tables.
    record Left : Type 0 where
      ds : List Declaration
      q : Position
      loads : loading s z start ≡ done ds q
      rows_are : rows ≡ q.rows
      count_is : count ≡ length ds
      same : tables surface core declarations work ≡ (outcome s z (done ds q)).tables

    left_so : Left
    unfolding load
    left_so = by (loading s z start) refl l
      where
        by : (o : Result (List Declaration)) → loading s z start ≡ o → leaving r surface core declarations work ≡ outcome s z o → Left
        by (refused y) f h = absurd (let a : r ≡ Err y = ap (λ (o : Outcome). o.answer) h in let n : ◌≡◌ {A = ℕ} 0 1 = cc in omega arith)
        by (done ds q) f h =
            let a : r ≡ loaded q.rows (length ds) = ap (λ (o : Outcome). o.answer) h in
            record { ds = ds; q = q; loads = f; rows_are = ap row_count (sym e ∙ a); count_is = ap declaration_count (sym e ∙ a); same = ap (λ (o : Outcome). o.tables) h }

    -- The row is a reference.
    module _ (f : ltb k rows && eqb (get_or surface (k * 8) 0) 24 ≡ true) where
      inside : (ltb k rows ≡ true) × (eqb (get_or surface (k * 8) 0) 24 ≡ true)
      inside = (and-eq-true_iff (ltb k rows) _).0 f

      -- What is asked for by the way down to it.
      pub record Ready : Type 0 where
        pub row_there : k * 8 + 8 ≤ length surface
        pub area : 16384 ≤ length work
        pub placed : Placed declarations (declaration_with declarations count k)

      pub ready : Ready
      ready =
          let w = left_so in
          let h = ltb-true k rows inside.0 in
          let a = ap (λ (t : Tables). t.surface) w.same in
          let b = ap (λ (t : Tables). t.declarations) w.same in
          let c = ap (λ (t : Tables). t.work) w.same in
          let fit = loadable s z w.ds w.q w.loads in
          let p = place_fits s z w.ds w.q w.loads k (omega (arith, w.rows_are)) in
          let same : declaration_with declarations count k ≡ declaration_with (outcome s z (done w.ds w.q)).tables.declarations (length w.ds) k =
          ap₂ (λ (t : List ℕ) (n : ℕ). declaration_with t n k) b w.count_is in
          let long = (is_read s z w.ds w.q (is_loaded s z w.ds w.q w.loads).read).enough in
          record {
            row_there = omega (arith, ap length a, length_pad z.surface (joined (surface_rows 0 w.ds)), long.surface, rows_are s z w.ds w.q w.loads, w.rows_are);
            area = omega (arith, ap length c, length_pad z.work [], long.work);
            placed = record {
              fits = λ x. omega (arith, same, (loaded_fitting fit (λ i. subst (λ (t : List ℕ). get_or t i 0 < 4294967296) b (x i))).few);
              listed = omega (arith, same, ap length b, length_pad z.declarations (joined (declaration_records 0 (resolve_module s [] w.ds))), long.declarations);
            };
          }

      -- An answer leaves the tables as loading does: the work area is cleared again.
      pub ask_ref : (work₁ : List ℕ) → length work₁ ≡ length work → Promised (binding_of (refers_at s surface declarations count k)) (tables surface core declarations (cleared work₁ 0))
      unfolding load
      ask_ref work₁ kept =
          let w = left_so in
          let a = ap (λ (t : Tables). t.surface) w.same in
          let b = ap (λ (t : Tables). t.declarations) w.same in
          let c = ap (λ (t : Tables). t.work) w.same in
          let g : cleared work₁ 0 ≡ work = cleared_whole work₁ ∙ ap (λ (m : ℕ). pad m []) (kept ∙ ap length c ∙ length_pad z.work []) ∙ sym c in
          let less : k < w.q.rows = omega (arith, ltb-true k rows inside.0, w.rows_are) in
          let kind = ap (λ (t : List ℕ). get_or t (k * 8) 0) (sym a) ∙ eqb-true _ 24 inside.1 in
          let d = answers_ref s z w.ds w.q w.loads k less kind in
          let x : refers_at s surface declarations count k ≡ refers_at s (outcome s z (done w.ds w.q)).tables.surface (outcome s z (done w.ds w.q)).tables.declarations (length w.ds) k =
          λ i. refers_at s (a i) (b i) (w.count_is i) k in
          let y = subst (λ (m : Referent). Answers s k (done w.ds w.q) (binding_of m)) (sym x) d in (
            subst (λ (o : Result (List Declaration)). Answers s k o (binding_of (refers_at s surface declarations count k))) (sym w.loads) y,
            ap (tables surface core declarations) g ∙ w.same ∙ leaves w.ds w.q w.loads (ref_there s z w.ds w.q w.loads k less kind) (binding_of (refers_at s surface declarations count k)) y,
          )
        where
          -- An answer is no refusal: a reference is known.
          leaves : (ds : List Declaration) (q : Position) → loading s z start ≡ done ds q → (w : Standing s ds k) × IsRef w → (a : Binding) → Answers s k (done ds q) a
              → (outcome s z (done ds q)).tables ≡ left s z a
          leaves ds q h w (Ok (Binder.Local c n)) y = ap (λ (o : Result (List Declaration)). (outcome s z o).tables) (sym h)
          leaves ds q h w (Ok (Binder.Global j)) y = ap (λ (o : Result (List Declaration)). (outcome s z o).tables) (sym h)
          leaves ds q h w (Err j) y = absurd (y.1 w.0 w.1)

    -- It is none: "12 is also given, after loading, when the row is no reference", and every table is cleared.
    pub ask_other : ltb k rows && eqb (get_or surface (k * 8) 0) 24 ≡ false → Promised (Err (nowhere Class.NoDeclaration)) (tables (cleared surface 0) (cleared core 0) (cleared declarations 0) (cleared work 0))
    ask_other f =
        let w = left_so in
        let a = ap (λ (t : Tables). t.surface) w.same in
        let g = subst (λ (n : ℕ). ltb k n && eqb (get_or surface (k * 8) 0) 24 ≡ false) w.rows_are f in (
          subst (λ (o : Result (List Declaration)). Answers s k o (Err (nowhere Class.NoDeclaration))) (sym w.loads)
              (answers_other s z w.ds w.q w.loads k (subst (λ (t : List ℕ). ltb k w.q.rows && eqb (get_or t (k * 8) 0) 24 ≡ false) a g)),
          (λ i. tables
              (cleared_pad surface z.surface _ a i)
              (cleared_pad core z.core _ (ap (λ (t : Tables). t.core) w.same) i)
              (cleared_pad declarations z.declarations _ (ap (λ (t : Tables). t.declarations) w.same) i)
              (cleared_pad work z.work _ (ap (λ (t : Tables). t.work) w.same) i)),
        )
