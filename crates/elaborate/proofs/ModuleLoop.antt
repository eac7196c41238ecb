-- The loop of `elaborate_surface`: what all declarations come to is what the rest comes to.
use Rattle.token.specs.declared.Class.{Class}
use Rattle.std.specs.Prelude.{Ok, Err}
use Prim.Native.Nat.{ℕ, ◌+◌, ◌*◌, ◌≤◌, ◌<◌}
use mathlib.Core.Path.{◌≡◌, refl, sym, ◌∙◌, ap, ap₂, subst}
use mathlib.Core.List.{List, [], ◌∷◌, ◌++◌, map}
use mathlib.Core.Option.{Option, none, some}
use native.Mathlib.Omega.{arith}
use native.Mathlib.Numerals.{add-one}
use lib.ListN.{length, take, drop, length-map}
use Rattle.terms.specs.Tree.{Forest, next, cells}
use Rattle.terms.specs.Label.{Name, Label, Declaration, trees, declared_name}
use Rattle.terms.specs.Resolution.{find, Resolved, resolve_declaration, resolve_module, first_unknown, RefusedName, refused_name, first_refused}
use Rattle.terms.specs.Rows.{core_row, core_rows}
use Rattle.terms.proofs.Cells.{next_cells}
use Rattle.terms.proofs.Spans.{resolve_next}
use Rattle.terms.proofs.Widths.{wide_core, total_surface, total_core}
use Rattle.scope.specs.Scope.{declared_names}
use Rattle.elaborate.specs.Loadable.{Loadable, ElaboratesTo, Elaborates}
use Rattle.elaborate.specs.Declarations.{name_refused, ModuleOutcome, resolved, refused, module_outcome, declaration_outcome, Declared}
use Rattle.elaborate.specs.declared.RefusedName as declared
use Rattle.elaborate.proofs.TableRows.{stored_rows, stored_append, stored_words}
use Rattle.elaborate.proofs.TreeRows.{settled}
use Rattle.elaborate.proofs.ModuleRows.{Held, loaded, declaration_comes, one_more_name}

-- What declarations come to whose first row is k, with the names of those before them.
unfoldable pub all_come : List ℕ → List Name → ℕ → List Declaration → List ℕ → ModuleOutcome
all_come s globals k [] core = resolved core
all_come s globals k (d ∷ l) core =
    elim (find (declared_name s d) globals) [
      | some i ↦ refused (refused_name Class.DuplicateName d.start d.length)
      | none ↦ elim (first_unknown (resolve_declaration s globals d)) [
        | some u ↦ refused (refused_name Class.UnknownName u.start u.length)
        | none ↦ all_come s (globals ++ (declared_name s d ∷ [])) (next k (trees d)) l (stored_rows core k (map core_row (cells k (resolve_declaration s globals d))))
      ]
    ]

abbrev concluded : Option RefusedName → List ℕ → ModuleOutcome
concluded none core = resolved core
concluded (some r) core = refused r

-- All core rows, or the first refused name.
all_concluded : (s : List ℕ) (globals : List Name) (k : ℕ) (ds : List Declaration) (core : List ℕ)
    → all_come s globals k ds core ≡ concluded (first_refused s globals ds) (stored_rows core k (core_rows k (resolve_module s globals ds)))
unfolding all_come first_refused
all_concluded s globals k [] core = refl
all_concluded s globals k (d ∷ l) core = go (find (declared_name s d) globals) (first_unknown f)
    (all_concluded s more (next k (trees d)) l (stored_rows core k first)
    ∙ ap (λ (c : List ℕ). concluded (first_refused s more l) c) (ap (λ (m : ℕ). stored_rows (stored_rows core k first) m (core_rows m (resolve_module s more l))) (sym n)
    ∙ ap (λ (m : ℕ). stored_rows (stored_rows core k first) m (core_rows (next k f) (resolve_module s more l))) (sym count)
    ∙ sym (stored_append core k first (core_rows (next k f) (resolve_module s more l)))))
  where
    f : Forest Resolved
    f = resolve_declaration s globals d

    more : List Name
    more = globals ++ (declared_name s d ∷ [])

    first : List (List ℕ)
    first = map core_row (cells k f)

    n : next k f ≡ next k (trees d)
    n = resolve_next s (λ i. []) globals k (trees d)

    count : k + length first ≡ next k f
    count = omega (arith, next_cells k f, length-map (cells k f) core_row)

    rest : ModuleOutcome
    rest = all_come s more (next k (trees d)) l (stored_rows core k first)

    table : List ℕ
    table = stored_rows core k (core_rows k (resolve_module s globals (d ∷ l)))

    go : (a : Option ℕ) (b : Option Label) → rest ≡ concluded (first_refused s more l) table
        → ◌≡◌ {A = ModuleOutcome} (elim a as (λ _. ModuleOutcome) [
          | some i ↦ refused (refused_name Class.DuplicateName d.start d.length)
          | none ↦ elim b as (λ _. ModuleOutcome) [ some u ↦ refused (refused_name Class.UnknownName u.start u.length) | none ↦ rest ]
        ])
        (concluded (elim a as (λ _. Option RefusedName) [
          | some i ↦ some (refused_name Class.DuplicateName d.start d.length)
          | none ↦ elim b as (λ _. Option RefusedName) [ some u ↦ some (refused_name Class.UnknownName u.start u.length) | none ↦ first_refused s more l ]
        ]) table)
    go (some i) b e = refl
    go none (some u) e = refl
    go none none e = e

-- Inversions of a declaration's answer.
when_done : (o : ModuleOutcome) (core : List ℕ) → Declared o (Ok tt) core → o ≡ resolved core
when_done (resolved c) core h = ap resolved (sym h.1)
when_done (refused x) core h = absurd (cc)

when_refused : (o : ModuleOutcome) (x : declared.RefusedName) (core : List ℕ) → Declared o (Err x) core → o ≡ refused (refused_name x.class x.start x.length)
when_refused (resolved c) x core h = absurd (cc)
when_refused (refused y) x core h = ap (λ (z : declared.RefusedName). refused (refused_name z.class z.start z.length)) (let e : name_refused y ≡ x = cc in e)

abbrev then_rest : ModuleOutcome → (List ℕ → ModuleOutcome) → ModuleOutcome
then_rest (resolved c) f = f c
then_rest (refused r) f = refused r

module _ (s surface declarations : List ℕ) (rows count : ℕ) (core₀ : List ℕ) (ds : List Declaration) where
  -- After d declarations the table is `core`, and the rest comes to the same.
  pub record Remaining (d : ℕ) (core : List ℕ) : Type 0 where
    pub rest : List Declaration
    pub row : ℕ
    pub there : Held surface declarations rows d row rest
    pub many : d + length rest ≡ count
    pub same : all_come s [] 0 ds core₀ ≡ all_come s (declared_names s declarations 0 d) row rest core

  pub none_done : {work : List ℕ} → Loadable surface declarations core₀ work rows count ds → Remaining 0 core₀
  unfolding declared_names
  none_done h = record { rest = ds; row = 0; there = loaded h; many = omega (arith, h.all_records); same = refl }

  module _ (d : ℕ) (core core₁ : List ℕ) where
    abbrev outcome : ModuleOutcome
    outcome = declaration_outcome s surface declarations rows d core

    abbrev later : ℕ → Declaration → List Declaration → List ℕ → ModuleOutcome
    later k x l c = all_come s (declared_names s declarations 0 d ++ (declared_name s x ∷ [])) (next k (trees x)) l c

    one_step : (k : ℕ) (x : Declaration) (l : List Declaration) → Held surface declarations rows d k (x ∷ l)
        → all_come s (declared_names s declarations 0 d) k (x ∷ l) core ≡ then_rest outcome (later k x l)
    unfolding all_come
    one_step k x l h =
        go (find (declared_name s x) globals) (first_unknown (resolve_declaration s globals x))
        ∙ ap (λ (o : ModuleOutcome). then_rest o (later k x l)) (sym (declaration_comes s surface declarations rows d k x l core h))
      where
        globals : List Name
        globals = declared_names s declarations 0 d

        table : List ℕ
        table = stored_rows core k (map core_row (cells k (resolve_declaration s globals x)))

        go : (a : Option ℕ) (b : Option Label)
            → ◌≡◌ {A = ModuleOutcome} (elim a as (λ _. ModuleOutcome) [
              | some i ↦ refused (refused_name Class.DuplicateName x.start x.length)
              | none ↦ elim b as (λ _. ModuleOutcome) [ some u ↦ refused (refused_name Class.UnknownName u.start u.length) | none ↦ later k x l table ]
            ])
            (then_rest (elim a as (λ _. ModuleOutcome) [ some i ↦ refused (refused_name Class.DuplicateName x.start x.length) | none ↦ module_outcome (settled b table) ]) (later k x l))
        go (some i) b = refl
        go none (some u) = refl
        go none none = refl

    pub one_done : Remaining d core → d < count → Declared outcome (Ok tt) core₁ → Remaining (d + 1) core₁
    one_done m b h = go m.rest m.there m.many m.same
      where
        go : (l : List Declaration) → Held surface declarations rows d m.row l → d + length l ≡ count
            → all_come s [] 0 ds core₀ ≡ all_come s (declared_names s declarations 0 d) m.row l core → Remaining (d + 1) core₁
        go [] t n q = absurd (omega arith)
        go (x ∷ l) t n q = record {
          rest = l;
          row = next m.row (trees x);
          there = subst (λ (i : ℕ). Held surface declarations rows i (next m.row (trees x)) l) (sym (add-one d)) t.5;
          many = omega arith;
          same =
              q ∙ one_step m.row x l t ∙ ap (λ (o : ModuleOutcome). then_rest o (later m.row x l)) (when_done outcome core₁ h)
              ∙ ap (λ (g : List Name). all_come s g (next m.row (trees x)) l core₁) (one_more_name s surface declarations rows d m.row x l t);
        }

    pub one_refused : (y : declared.RefusedName) → Remaining d core → d < count → Declared outcome (Err y) core₁
        → all_come s [] 0 ds core₀ ≡ refused (refused_name y.class y.start y.length)
    one_refused y m b h = go m.rest m.there m.many m.same
      where
        go : (l : List Declaration) → Held surface declarations rows d m.row l → d + length l ≡ count
            → all_come s [] 0 ds core₀ ≡ all_come s (declared_names s declarations 0 d) m.row l core → all_come s [] 0 ds core₀ ≡ refused (refused_name y.class y.start y.length)
        go [] t c q = absurd (omega arith)
        go (x ∷ l) t c q = q ∙ one_step m.row x l t ∙ ap (λ (o : ModuleOutcome). then_rest o (later m.row x l)) (when_refused outcome y core₁ h)

  pub all_done : (d : ℕ) (core : List ℕ) → Remaining d core → count ≤ d → all_come s [] 0 ds core₀ ≡ resolved core
  unfolding all_come
  all_done d core m b = go m.rest m.many m.same
    where
      go : (l : List Declaration) → d + length l ≡ count → all_come s [] 0 ds core₀ ≡ all_come s (declared_names s declarations 0 d) m.row l core → all_come s [] 0 ds core₀ ≡ resolved core
      go [] n q = q
      go (x ∷ l) n q = absurd (omega arith)

  -- The answer.
  abbrev table : List ℕ
  table = stored_rows core₀ 0 (core_rows 0 (resolve_module s [] ds))

  pub elaborates_done : {work : List ℕ} (core : List ℕ) → Loadable surface declarations core₀ work rows count ds → all_come s [] 0 ds core₀ ≡ resolved core → Elaborates s ds rows core₀ (Ok tt) core
  elaborates_done core h e = go (first_refused s [] ds) (sym (all_concluded s [] 0 ds core₀) ∙ e)
    where
      many : 0 + length (core_rows 0 (resolve_module s [] ds)) ≡ rows
      many = omega (arith, total_surface 0 ds, total_core s [] 0 ds, h.all_rows)

      go : (o : Option RefusedName) → concluded o table ≡ resolved core → ElaboratesTo o s ds rows core₀ (Ok tt) core
      go none q =
          let c : table ≡ core = cc in
          let w = stored_words core₀ 0 (core_rows 0 (resolve_module s [] ds)) (wide_core 0 (resolve_module s [] ds)) (omega (arith, many, h.room)) in (
            refl,
            ap₂ (λ (n : ℕ) (l : List ℕ). take (n * 8) l) (sym many) (sym c) ∙ w.0,
            ap₂ (λ (n : ℕ) (l : List ℕ). drop (n * 8) l) (sym many) (sym c) ∙ w.1 ∙ ap (λ (n : ℕ). drop (n * 8) core₀) many,
          )
      go (some x) q = absurd (let z : ◌≡◌ {A = ℕ} 0 1 = cc in omega arith)

  pub elaborates_refused : (core : List ℕ) (y : declared.RefusedName) → all_come s [] 0 ds core₀ ≡ refused (refused_name y.class y.start y.length) → Elaborates s ds rows core₀ (Err y) core
  elaborates_refused core y e = go (first_refused s [] ds) (sym (all_concluded s [] 0 ds core₀) ∙ e)
    where
      go : (o : Option RefusedName) → concluded o table ≡ refused (refused_name y.class y.start y.length) → ElaboratesTo o s ds rows core₀ (Err y) core
      go none q = absurd (cc)
      go (some x) q =
          let f : refused_name y.class y.start y.length ≡ x = cc in
          ap (λ (z : RefusedName). Err (name_refused z)) f
