-- Demand 3: what two loads leave is the same core exactly if the two sources agree.
use Rattle.surface.specs.Answer.{loaded}
use mathlib.Core.Path.{◌≡◌, refl, sym, ap, ◌∙◌, subst, subst₂}
use mathlib.Core.Logic.{◌↔◌}
use mathlib.Core.List.{List, [], map}
use mathlib.Core.Bool.{true}
use Prim.Native.Nat.{ℕ, ◌*◌, ◌/◌, ◌≤◌}
use native.Mathlib.Omega.{arith}
use lib.ListN.{length, length-map}
use Rattle.terms.specs.Label.{Declaration, named_declaration}
use Rattle.terms.specs.Resolution.{resolve_module}
use Rattle.terms.specs.Rows.{pad, surface_rows, core_rows, declaration_records, joined, first_rows}
use Rattle.terms.specs.Content.{row_content, record_content}
use Rattle.terms.specs.Agreement.{AgreeModule}
use Rattle.terms.proofs.Tables.{Wide, first_rows_pad, length_first_rows}
use Rattle.terms.proofs.NamedModule.{cores, resolves, rows_of, records_of}
use Rattle.terms.proofs.Widths.{wide_surface, wide_core, wide_records, total_surface, total_core, count_records}
use Rattle.terms.proofs.Spans.{row_contents, record_contents}
use Rattle.terms.proofs.FirstRefused.{none_refused}
use Rattle.terms.proofs.SameContents.{same_contents}
use Rattle.surface.specs.Grammar.{Derives}
use Rattle.surface.specs.Reader.{Position, start, Result, done, refused}
use Rattle.surface.specs.Loading.{Lengths, lengths, loading, Outcome, outcome, load}
use Rattle.surface.specs.SameCore.{row_count, declaration_count, SameCore, Accepts}
use Rattle.surface.specs.Agreement.{Agreement}
use Rattle.surface.specs.Statements.{Demand3}
use Rattle.surface.proofs.Shaped.{shaped}
use Rattle.surface.proofs.CompleteModule.{unique}
use Rattle.surface.proofs.Acceptance.{is_read, is_loaded}

eighth : (n k : ℕ) → n ≤ k / 8 → n * 8 ≤ k
eighth n k h = omega arith

fifth : (n k : ℕ) → n ≤ k / 5 → n * 5 ≤ k
fifth n k h = omega arith

-- What stands in the tables of a source that is loaded, up to the counts of the answer.
pub record Stands (s : List ℕ) (ds : List Declaration) (o : Outcome) : Type 0 where
  pub surface : first_rows 8 (row_count o.answer) o.tables.surface ≡ surface_rows 0 ds
  pub core : first_rows 8 (row_count o.answer) o.tables.core ≡ core_rows 0 (resolve_module s [] ds)
  pub declarations : first_rows 5 (declaration_count o.answer) o.tables.declarations ≡ declaration_records 0 (resolve_module s [] ds)

pub stands : (s : List ℕ) (z : Lengths) (ds : List Declaration) (q : Position) → loading s z start ≡ done ds q → Stands s ds (outcome s z (done ds q))
stands s z ds q e =
    let r = is_read s z ds q (is_loaded s z ds q e).read in
    let m = resolve_module s [] ds in
    record {
      surface = in_table 8 q.rows z.surface (surface_rows 0 ds) (wide_surface 0 ds) (omega (arith, r.rows, total_surface 0 ds)) (eighth (length (surface_rows 0 ds)) z.surface r.enough.surface);
      core = in_table 8 q.rows z.core (core_rows 0 m) (wide_core 0 m) (omega (arith, r.rows, total_core s [] 0 ds)) (eighth (length (core_rows 0 m)) z.core (omega (arith, total_core s [] 0 ds, total_surface 0 ds, r.enough.core)));
      declarations = in_table 5 (length ds) z.declarations (declaration_records 0 m) (wide_records 0 m) (sym (count_records s [] 0 ds)) (fifth (length (declaration_records 0 m)) z.declarations (omega (arith, count_records s [] 0 ds, r.enough.declarations)));
    }
  where
    in_table : (w n k : ℕ) (l : List (List ℕ)) → Wide w l → n ≡ length l → length l * w ≤ k → first_rows w n (pad k (joined l)) ≡ l
    in_table w n k l h i j = ap (λ (x : ℕ). first_rows w x (pad k (joined l))) i ∙ first_rows_pad w l k h j

-- The same by what counts, with the module that the source is.
pub record Contents (s : List ℕ) (o : Outcome) : Type 0 where
  pub module_read : List Declaration
  pub derives : Derives s module_read
  pub resolves : resolves [] (map (named_declaration s) module_read) ≡ true
  pub rows : map (row_content s) (first_rows 8 (row_count o.answer) o.tables.core) ≡ rows_of 0 (cores [] (map (named_declaration s) module_read))
  pub records : map (record_content s) (first_rows 5 (declaration_count o.answer) o.tables.declarations) ≡ records_of 0 (cores [] (map (named_declaration s) module_read))

pub contents : (s : List ℕ) (z : Lengths) → Accepts (load s z) → Contents s (load s z)
unfolding load
contents s z a = go (loading s z start) refl a.2
  where
    go : (o : Result (List Declaration)) → loading s z start ≡ o → (outcome s z o).answer ≡ loaded a.0 a.1 → Contents s (outcome s z o)
    go (refused r) e f = absurd (let z : ◌≡◌ {A = ℕ} 0 1 = cc in omega arith)
    go (done ds q) e f =
        let l = is_loaded s z ds q e in
        let d = (is_read s z ds q l.read).readable.derives in
        let n = none_refused s [] ds l.names in
        let t = stands s z ds q e in
        record {
          module_read = ds;
          derives = d;
          resolves = n;
          rows = ap (map (row_content s)) t.core ∙ row_contents s [] 0 ds (shaped s ds d) n;
          records = ap (map (record_content s)) t.declarations ∙ record_contents s [] 0 ds;
        }

-- Equal contents of first rows: as many of them.
same_count : {C : Type 0} (f g : List ℕ → C) (w m n : ℕ) (x y : List ℕ) → map f (first_rows w m x) ≡ map g (first_rows w n y) → m ≡ n
same_count f g w m n x y e =
    sym (length_first_rows w m x) ∙ sym (length-map (first_rows w m x) f) ∙ ap length e ∙ length-map (first_rows w n y) g ∙ length_first_rows w n y

same_core : (s t : List ℕ) (o p : Outcome) (a : Contents s o) (b : Contents t p)
    → SameCore s o t p ↔ AgreeModule (map (named_declaration s) a.module_read) (map (named_declaration t) b.module_read)
same_core s t o p a b =
    let i = same_contents (map (named_declaration s) a.module_read) (map (named_declaration t) b.module_read) (shaped s a.module_read a.derives) (shaped t b.module_read b.derives) a.resolves b.resolves in (
      λ h. i.0 (record { same_rows = sym a.rows ∙ h.same_rows ∙ b.rows; same_records = sym a.records ∙ h.same_declarations ∙ b.records }),
      λ h. let c = i.1 h in
          let u = a.rows ∙ c.same_rows ∙ sym b.rows in
          let v = a.records ∙ c.same_records ∙ sym b.records in
          record {
            row_counts = same_count (row_content s) (row_content t) 8 (row_count o.answer) (row_count p.answer) o.tables.core p.tables.core u;
            declaration_counts = same_count (record_content s) (record_content t) 5 (declaration_count o.answer) (declaration_count p.answer) o.tables.declarations p.tables.declarations v;
            same_rows = u;
            same_declarations = v;
          },
    )

-- By the definition of loading: of any two sources that are loaded, with tables of any lengths.
pub by_definition : (s t : List ℕ) (y z : Lengths) → Accepts (load s y) → Accepts (load t z) → SameCore s (load s y) t (load t z) ↔ Agreement s t
by_definition s t y z c d =
    let a = contents s y c in
    let b = contents t z d in
    let k = same_core s t (load s y) (load t z) a b in (
      λ h. record { one = a.module_read; other = b.module_read; one_derives = a.derives; other_derives = b.derives; agree = k.0 h },
      λ g. k.1
          (subst (λ (x : List Declaration). AgreeModule (map (named_declaration s) x) (map (named_declaration t) b.module_read)) (unique s g.one a.module_read g.one_derives a.derives)
          (subst (λ (x : List Declaration). AgreeModule (map (named_declaration s) g.one) (map (named_declaration t) x)) (unique t g.other b.module_read g.other_derives b.derives) g.agree)),
    )

-- By the promise of `load`.
pub demand_3 : Demand3
demand_3 s t before₁ before₂ a b after₁ after₂ e f p q =
    subst₂ (λ (o x : Outcome). Accepts o → Accepts x → SameCore s o t x ↔ Agreement s t) (sym e) (sym f) (by_definition s t (lengths before₁) (lengths before₂)) p q
