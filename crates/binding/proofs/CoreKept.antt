-- The core row of a reference has the count or the place that is answered.
use mathlib.Core.Path.{◌≡◌, refl, sym, ap, ◌∙◌, subst}
use mathlib.Core.List.{List, [], map}
use mathlib.Core.Option.{some}
use Prim.Native.Nat.{ℕ, ◌+◌, ◌*◌, ◌<◌, ◌≤◌}
use native.Mathlib.Omega.{arith}
use native.Mathlib.Nat.{add-zero}
use lib.ListN.{length, get_or}
use Rattle.std.specs.Prelude.{Ok, Err}
use Rattle.terms.specs.Forms.{var_kind, global_kind}
use Rattle.terms.specs.Tree.{Cell}
use Rattle.terms.specs.Label.{Declaration}
use Rattle.terms.specs.Resolution.{Core, Resolved, resolve_module}
use Rattle.terms.specs.Rows.{pad, joined, core_kind, core_words, core_row, core_rows}
use Rattle.terms.specs.RowAt.{entry}
use Rattle.terms.specs.Lookup.{found, Referent, local, global as declared}
use Rattle.terms.proofs.Tables.{getD_pad, joined_at}
use Rattle.terms.proofs.Widths.{wide_core, total_core, total_surface}
use Rattle.terms.proofs.Entries.{entry_map, entry_from, entry_getD, entry_below}
use Rattle.terms.proofs.Lookup.{as_core}
use Rattle.surface.specs.Reader.{Position, start, Result, done, refused}
use Rattle.surface.specs.Tables.{Lengths, Tables, lengths}
use Rattle.surface.specs.Loading.{loading, Outcome, outcome, load}
use Rattle.surface.proofs.Acceptance.{is_read, is_loaded}
use Rattle.binding.specs.declared.Binder.{Binder}
use Rattle.binding.specs.Answer.{Binding}
use Rattle.binding.specs.Binds.{Answers, left}
use Rattle.binding.specs.Statements.{CoreRow, CoreKept}
use Rattle.binding.proofs.Modules.{module_referents}
use Rattle.binding.proofs.SameCounts.{core_for, module_cells, same_module, core_rows_are}
use Rattle.binding.proofs.ByScope.{bound_row, unbound_row}

module _ (s : List ℕ) (z : Lengths) (ds : List Declaration) (q : Position) (e : loading s z start ≡ done ds q) (k : ℕ) where
  abbrev rows : List (List ℕ)
  rows = core_rows 0 (resolve_module s [] ds)

  fits : length rows * 8 ≤ z.core
  fits = omega (arith, total_core s [] 0 ds, total_surface 0 ds, (is_read s z ds q (is_loaded s z ds q e).read).enough.core)

  -- A cell of the core module with what its term becomes.
  core_cell : (r : Referent) → entry (module_referents s 0 [] ds) k ≡ some (some r)
      → (c : Cell Resolved) × (entry rows k ≡ some (core_row c)) × (c.label.core ≡ as_core r)
  core_cell r f =
      let m = module_cells s 0 (resolve_module s [] ds) in
      let g : entry (map (λ c. c.label.core) m) k ≡ some (as_core r) = ap (λ (l : List Core). entry l k) (sym (same_module s ds 0 [])) ∙ entry_map core_for (module_referents s 0 [] ds) k (some r) f in
      let w = entry_from (λ c. c.label.core) m k (as_core r) g in
      (w.0, ap (λ (l : List (List ℕ)). entry l k) (core_rows_are s 0 (resolve_module s [] ds)) ∙ entry_map core_row m k w.0 w.1, w.2)

  word : (r : Referent) (f : entry (module_referents s 0 [] ds) k ≡ some (some r)) (j : ℕ) → j < 8
      → (c : Cell Resolved) × (c.label.core ≡ as_core r) × (get_or (pad z.core (joined rows)) (k * 8 + j) 0 ≡ get_or (core_row c) j 0)
  word r f j h =
      let w = core_cell r f in
      let b = entry_below rows k (core_row w.0) w.1 in (
        w.0,
        w.2,
        getD_pad z.core (joined rows) (k * 8 + j) (omega (arith, fits))
            ∙ joined_at 8 rows (wide_core 0 (resolve_module s [] ds)) k j b h
            ∙ ap (λ (x : List ℕ). get_or x j 0) (entry_getD rows k (core_row w.0) [] w.1),
      )

  first_word : (r : Referent) (kind : ℕ) → ((c : Cell Resolved) → c.label.core ≡ as_core r → get_or (core_row c) 0 0 ≡ kind) → entry (module_referents s 0 [] ds) k ≡ some (some r)
      → get_or (pad z.core (joined rows)) (k * 8) 0 ≡ kind
  first_word r kind h f =
      let w = word r f 0 (omega arith) in
      ap (λ (n : ℕ). get_or (pad z.core (joined rows)) n 0) (sym (add-zero (k * 8))) ∙ w.2 ∙ h w.0 w.1

  second_word : (r : Referent) (n : ℕ) → ((c : Cell Resolved) → c.label.core ≡ as_core r → get_or (core_row c) 1 0 ≡ n) → entry (module_referents s 0 [] ds) k ≡ some (some r)
      → get_or (pad z.core (joined rows)) (k * 8 + 1) 0 ≡ n
  second_word r n h f = let w = word r f 1 (omega arith) in w.2 ∙ h w.0 w.1

  kept : (a : Binding) → Answers s k (done ds q) a → CoreRow k (pad z.core (joined rows)) a
  kept (Ok (Binder.Local count row)) f =
      let r = local (found count row) in
      let g = bound_row s ds k count row f in (
        first_word r var_kind (λ c h. ap (core_kind c.label.label) h) g,
        second_word r count (λ c h. ap (λ (x : Core). get_or (core_words c.label.label x c.children) 1 0) h) g,
      )
  kept (Ok (Binder.Global place)) f =
      let r = declared place in
      let g = unbound_row s ds k place f in (
        first_word r global_kind (λ c h. ap (core_kind c.label.label) h) g,
        second_word r place (λ c h. ap (λ (x : Core). get_or (core_words c.label.label x c.children) 1 0) h) g,
      )
  kept (Err x) f = tt

-- What is left of the core table, whatever was answered.
by : (s : List ℕ) (z : Lengths) (k : ℕ) (o : Result (List Declaration)) → loading s z start ≡ o → (a : Binding) → Answers s k o a → CoreRow k (left s z a).core a
unfolding load
by s z k (refused r) e a f = subst (λ (x : Binding). CoreRow k (left s z x).core x) (sym f) tt
by s z k (done ds q) e (Ok (Binder.Local count row)) f =
    subst (λ (o : Outcome). CoreRow k o.tables.core (Ok (Binder.Local count row))) (sym (ap (outcome s z) e)) (kept s z ds q e k (Ok (Binder.Local count row)) f)
by s z k (done ds q) e (Ok (Binder.Global place)) f =
    subst (λ (o : Outcome). CoreRow k o.tables.core (Ok (Binder.Global place))) (sym (ap (outcome s z) e)) (kept s z ds q e k (Ok (Binder.Global place)) f)
by s z k (done ds q) e (Err x) f = tt

pub core_kept : CoreKept
core_kept s k before a after f =
    subst (λ (t : Tables). CoreRow k t.core a) (sym f.1) (by s (lengths before) k (loading s (lengths before) start) refl a f.0)
