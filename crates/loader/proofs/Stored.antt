-- From what parsing and resolution store to what loading stores.
use Rattle.surface.specs.SameCore.{row_count, declaration_count}
use Rattle.token.specs.declared.Class.{Class}
use Rattle.std.specs.Prelude.{Err}
use mathlib.Core.Path.{◌≡◌, refl, sym, ap, subst, ◌∙◌}
use mathlib.Core.List.{List, []}
use mathlib.Core.Option.{Option, none, some}
use Prim.Native.Nat.{ℕ, ◌*◌, ◌/◌, ◌≤◌, ◌<◌}
use native.Mathlib.Omega.{arith}
use native.Mathlib.Decide.{dec_le}
use lib.ListN.{length, take}
use Rattle.token.specs.declared.Refusal.{Refusal}
use Rattle.terms.specs.Label.{Declaration}
use Rattle.terms.specs.Resolution.{RefusedName, first_refused}
use Rattle.terms.specs.Rows.{joined, surface_rows}
use Rattle.surface.specs.Answer.{Answer, loaded}
use Rattle.surface.specs.Reader.{Position, start, Result, done, refused, nowhere}
use Rattle.surface.specs.Loading.{Lengths, parsing, loading}
use Rattle.surface.proofs.Acceptance.{IsParsed, is_parsed}
use Rattle.reader.specs.Answers.{ModuleRead}
use Rattle.reader.specs.Reads.{ReadsModule}
use Rattle.elaborate.specs.Loadable.{Loadable}
use Rattle.loader.specs.Leaving.{lengths_of}
use Rattle.loader.specs.inner.Stored.{Stores, ResolvesTo, Resolves, Counts}
use Rattle.loader.proofs.Parsing.{load_refused, load_short, load_names}
use Rattle.loader.proofs.WellRead.{well_read}
use Rattle.elaborate.proofs.ResolvedTrees.{records_kept}
use Rattle.loader.proofs.Fronts.{Fronts, fronts}

module _ (s surface core declarations work : List ℕ) where
  abbrev z : Lengths
  z = lengths_of surface core declarations work

  -- Parsing does not ask for the core table's length.
  any_core : parsing s (lengths_of surface [] declarations work) start ≡ parsing s z start
  unfolding parsing
  any_core = refl

  none_counted : (x : Refusal) → Counts (Err x) surface core declarations
  none_counted x = record { rows_read = omega arith; rows_resolved = omega arith; records = omega arith }

  module _ (surface₁ declarations₁ : List ℕ) (r : ModuleRead)
      (h : ReadsModule (parsing s (lengths_of surface [] declarations work) start) surface declarations r surface₁ declarations₁) where
    abbrev Read : Result (List Declaration) → Type 0
    Read o = ReadsModule o surface declarations r surface₁ declarations₁

    read_so : (o : Result (List Declaration)) → parsing s z start ≡ o → Read o
    read_so o e = subst Read (any_core ∙ e) h

    pub refused_stores : (x : Refusal) (core₁ : List ℕ) → r ≡ Err x
        → Stores s (loading s z start) (Err x) surface₁ core₁ declarations₁ × Counts (Err x) surface core declarations
    refused_stores x core₁ e = (by (parsing s z start) refl, none_counted x)
      where
        by : (o : Result (List Declaration)) → parsing s z start ≡ o → Stores s (loading s z start) (Err x) surface₁ core₁ declarations₁
        by (done ds q) f = absurd (let y : ◌≡◌ {A = ℕ} 0 1 = cc (read_so (done ds q) f).0 in omega arith)
        by (refused y) f =
            let g : x ≡ y = cc (read_so (refused y) f) in
            subst (λ (o : Result (List Declaration)). Stores s o (Err x) surface₁ core₁ declarations₁) (sym (load_refused s z y f)) (ap Err g)

    -- What was read is what resolution is given.
    module _ (work₁ : List ℕ) (kept : length work₁ ≡ length work) (rows count : ℕ) (e : r ≡ loaded rows count) where
      module _ (ds : List Declaration) (q : Position) (f : parsing s z start ≡ done ds q) where
        p : IsParsed s z ds q
        p = is_parsed s z ds q f

        w : Read (done ds q)
        w = read_so (done ds q) f

        g : Fronts surface declarations surface₁ declarations₁ ds q
        g = fronts s surface declarations work surface₁ declarations₁ r ds q (any_core ∙ f) w

        rows_are : rows ≡ q.rows
        rows_are = ap row_count (sym e ∙ w.0)

        count_is : count ≡ length ds
        count_is = ap declaration_count (sym e ∙ w.0)

        surface_front : take (rows * 8) surface₁ ≡ joined (surface_rows 0 ds)
        surface_front = ap (λ (n : ℕ). take (n * 8) surface₁) rows_are ∙ g.surface_front

        loadable : rows * 8 ≤ length core → Loadable surface₁ declarations₁ core work₁ rows count ds
        loadable room = record {
          area = omega (arith, p.work, kept);
          room = room;
          all_rows = rows_are ∙ g.all_rows;
          surface_read = surface_front;
          all_records = count_is;
          records_read = ap (λ (n : ℕ). take (n * 5) declarations₁) count_is ∙ g.list_front;
          well_read = well_read s ds p.readable.derives p.readable.shallow;
        }

        module _ (a : Answer) (core₁ : List ℕ) (v : Resolves s ds rows core a core₁) where
          abbrev Stored : Type 0
          Stored = Stores s (loading s z start) a surface₁ core₁ declarations₁ × Counts a surface core declarations

          as_refused : (x : Refusal) → loading s z start ≡ refused x → a ≡ Err x → Stored
          as_refused x g b = (
            subst (λ (o : Result (List Declaration)). Stores s o a surface₁ core₁ declarations₁) (sym g) b,
            subst (λ (y : Answer). Counts y surface core declarations) (sym b) (none_counted x),
          )

          core_room : rows ≤ length core / 8 → q.rows ≤ length core / 8
          core_room h = omega (arith, rows_are)

          core_full : length core / 8 < rows → length core / 8 < q.rows
          core_full h = omega (arith, rows_are)

          as_names : rows ≤ length core / 8 → (o : Option RefusedName) → first_refused s [] ds ≡ o → ResolvesTo o s ds rows a core₁ → Stored
          as_names room (some x) m b = as_refused (nowhere x.class) (load_names s z ds q f (core_room room) (some x) m) b
          as_names room none m b =
              let c : a ≡ loaded q.rows (length ds) = b.0 ∙ ap (λ (n : ℕ). loaded n (length ds)) rows_are in (
                subst (λ (o : Result (List Declaration)). Stores s o a surface₁ core₁ declarations₁) (sym (load_names s z ds q f (core_room room) none m)) (
                  c,
                  g.surface_front,
                  ap (λ (n : ℕ). take (n * 8) core₁) (sym rows_are) ∙ b.1,
                  g.list_front ∙ ap joined (sym (records_kept s [] 0 ds)),
                ),
                subst (λ (y : Answer). Counts y surface core declarations) (sym c)
                    (record { rows_read = g.rows; rows_resolved = omega (arith, rows_are); records = g.count }),
              )

          stored : Stored
          stored = elim (dec_le rows (length core / 8)) [
            | yes room ↦ as_names room (first_refused s [] ds) refl (v.long room)
            | no full ↦ as_refused (nowhere Class.CoreShort) (load_short s z ds q f (core_full (omega arith))) (v.short (omega arith))
          ]

      pub resolved_stores : (a : Answer) (core₁ : List ℕ)
          → ((ds : List Declaration) → (rows * 8 ≤ length core → Loadable surface₁ declarations₁ core work₁ rows count ds) → Resolves s ds rows core a core₁)
          → Stores s (loading s z start) a surface₁ core₁ declarations₁ × Counts a surface core declarations
      resolved_stores a core₁ v = by (parsing s z start) refl
        where
          by : (o : Result (List Declaration)) → parsing s z start ≡ o → Stores s (loading s z start) a surface₁ core₁ declarations₁ × Counts a surface core declarations
          by (done ds q) f = stored ds q f a core₁ (v ds (loadable ds q f))
          by (refused y) f = absurd (let n : ◌≡◌ {A = ℕ} 0 1 = cc (read_so (refused y) f) in omega arith)
