-- In an accepted module a declaration's rows name earlier places only.
use mathlib.Core.Path.{◌≡◌, refl, sym, subst}
use mathlib.Core.Logic.{◌⊎◌, inl, inr, by_cases}
use mathlib.Core.List.{List, [], ◌∷◌, ◌++◌, map}
use mathlib.Core.Option.{Option, none, some}
use Prim.Native.Nat.{ℕ, zero, suc, ◌+◌, ◌<◌, ◌≤◌}
use native.Mathlib.Decide.{ℕ_discrete}
use native.Mathlib.Omega.{arith}
use lib.ListN.{length, length-append}
use Rattle.terms.specs.Forms.{ref}
use Rattle.terms.specs.Tree.{Forest, nil, node, next, roots, relabel}
use Rattle.terms.specs.Label.{Name, part, Label, Declaration, trees, named, declared_name, named_declaration}
use Rattle.terms.specs.Resolution.{find, Locals, find_local, Core, referent, core_of, locals_in, Resolved, resolve, resolve_declaration, CoreDeclaration, resolve_module}
use Rattle.terms.specs.Rows.{core_words}
use Rattle.terms.proofs.Arrow.{low_counts}
use Rattle.terms.proofs.Names.{find_below}
use Rattle.terms.proofs.NamedModule.{Shaped, ShapedModule}
use Rattle.terms.proofs.Spans.{core_of_ref, core_of_kept, named_trees}
use Rattle.surface.specs.Reader.{Position, start, done}
use Rattle.surface.specs.Loading.{Lengths, loading}
use Rattle.surface.proofs.Shaped.{shaped}
use Rattle.surface.proofs.Acceptance.{is_read, is_loaded}
use Rattle.dependence.specs.Depends.{numbered_rows, GlobalRow, Among}
use Rattle.dependence.specs.First.{own_rows}
use Rattle.dependence.proofs.Numbered.{tree_rows, own_trees}
use Rattle.dependence.proofs.Counted.{among_either}

-- A row of a term that was read names a place below b.
abbrev NamesBelow : ℕ → Label → Core → Type 0
NamesBelow b l c = (j : ℕ) (w : List ℕ) → GlobalRow j (core_words l c w) → j < b

referent_below : (l : Label) (a g : Option ℕ) (b : ℕ) → ((i : ℕ) → g ≡ some i → i < b) → NamesBelow b l (referent a g)
referent_below l (some i) g b h j w e = absurd (omega (arith, e.0))
referent_below l none (some i) b h j w e = omega (arith, e.1, h i refl)
referent_below l none none b h j w e = absurd (omega (arith, e.0))

core_below : (s : List ℕ) (locals : Locals) (globals : List Name) (l : Label) → 3 ≤ l.kind → NamesBelow (length globals) l (core_of s locals globals l)
core_below s locals globals l h = by_cases (ℕ_discrete l.kind ref)
    (λ e. subst (NamesBelow (length globals) l) (sym (core_of_ref s locals globals l e))
    (referent_below l (find_local (part s l.start l.length) locals) (find (part s l.start l.length) globals) (length globals) (find_below (part s l.start l.length) globals)))
    (λ e. subst (NamesBelow (length globals) l) (sym (core_of_kept s locals globals l e)) (λ j w g. absurd (omega (arith, low_counts l.kind h, g.0))))

abbrev AllBelow : ℕ → Forest Resolved → Type 0
AllBelow b nil = Unit {0}
AllBelow b (node t a r) = NamesBelow b t.label t.core × AllBelow b a × AllBelow b r

resolve_below : (s : List ℕ) (locals : ℕ → Locals) (globals : List Name) (f : Forest Label) → Shaped (relabel (named s) f) → AllBelow (length globals) (resolve s locals globals f)
resolve_below s locals globals nil h = tt
resolve_below s locals globals (node l a r) h = (
  core_below s (locals zero) globals l h.0,
  resolve_below s (locals_in s l (locals zero)) globals a h.2,
  resolve_below s (λ i. locals (suc i)) globals r h.3,
)

rows_below : (b n : ℕ) (f : Forest Resolved) → AllBelow b f → (j r : ℕ) → Among j r (numbered_rows n f) → j < b
rows_below b n nil h j r e = absurd e
rows_below b n (node t a k) h j r e = go (rows_below b n a h.1 j r) (rows_below b (suc (next n a)) k h.2 j r) (among_either j r (numbered_rows n a) _ e)
  where
    go : (Among j r (numbered_rows n a) → j < b) → (Among j r (numbered_rows (suc (next n a)) k) → j < b)
        → Among j r (numbered_rows n a) ⊎ (((next n a ≡ r) × GlobalRow j (core_words t.label t.core (roots n a))) ⊎ Among j r (numbered_rows (suc (next n a)) k)) → j < b
    go x y (inl e) = x e
    go x y (inr (inl e)) = h.0 j (roots n a) e.1
    go x y (inr (inr e)) = y e

-- "a declaration is unseen in its own type and body", and sees those before it.
module_below : (s : List ℕ) (g : List Name) (n : ℕ) (ds : List Declaration) → ShapedModule (map (named_declaration s) ds)
    → (i j : ℕ) → ((r : ℕ) × Among j r (tree_rows n (resolve_module s g ds) i)) → j < length g + i
module_below s g n [] h i j e = absurd e.1
module_below s g n (d ∷ l) h zero j e =
    let w = rows_below (length g) n (resolve_declaration s g d) (resolve_below s (λ i. []) g (trees d) (subst Shaped (named_trees s d) h.1)) j e.0 e.1 in
    omega (arith, w)
module_below s g n (d ∷ l) h (suc i) j e =
    let w = module_below s (g ++ (declared_name s d ∷ [])) (next n (resolve_declaration s g d)) l h.2 i j e in
    omega (arith, w, length-append g (declared_name s d ∷ []))

-- A global row of a declaration names an earlier place.
abbrev pub Earlier : List CoreDeclaration → Type 0
Earlier m = (i p r : ℕ) → Among p r (own_rows m i) → p < i

pub loaded_earlier : (s : List ℕ) (z : Lengths) (ds : List Declaration) (q : Position) → loading s z start ≡ done ds q → Earlier (resolve_module s [] ds)
loaded_earlier s z ds q e i p r h =
    let m = resolve_module s [] ds in
    omega (arith, module_below s [] 0 ds (shaped s ds (is_read s z ds q (is_loaded s z ds q e).read).readable.derives) i p (r, subst (Among p r) (own_trees 0 m i) h))
