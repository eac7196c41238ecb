-- Where a row of a loaded source stands: its declaration, its type or body, and its place there, with the local binders.
use Prim.Native.Nat.{ℕ, zero, suc, ◌+◌, ◌*◌, ◌≤◌, ◌<◌, max}
use mathlib.Core.Path.{◌≡◌, refl, sym, ◌∙◌, ap, ap₂}
use mathlib.Core.List.{List, [], ◌∷◌, map, append-nil}
use mathlib.Core.Option.{Option, none, some}
use mathlib.Core.Bool.{Bool, true, false, cond}
use native.Mathlib.Omega.{arith}
use native.Mathlib.Decide.{dec_lt}
use borrow.Author.Tests.{lt-ltb, le-ltb, le-leb, lt-leb}
use lib.Dec.{ltb}
use lib.ListN.{length, get_or, take}
use Rattle.terms.specs.Forms.{holds_span}
use Rattle.terms.specs.Tree.{nil, Tree, tree, maybe, count, next, roots, relabel_tree}
use Rattle.terms.specs.Label.{Name, Label, part, named, Declaration, trees, declared_name}
use Rattle.terms.specs.Rows.{pad, read_record}
use Rattle.terms.specs.RowAt.{entry, tree_row, declaration_row}
use Rattle.terms.proofs.Relabelled.{pick_relabel, tree_row_relabel}
use Rattle.terms.proofs.Widths.{total}
use Rattle.binding.specs.Binds.{Standing, IsRef, name_of}
use Rattle.binding.proofs.Located.{located}
use Rattle.rows.specs.DeclarationRows.{row_behind}
use Rattle.scope.specs.Scope.{declared_names}
use Rattle.elaborate.specs.RowTerm.{row_word, label_at}
use Rattle.elaborate.specs.Loadable.{Shaped, Nested}
use Rattle.elaborate.proofs.Alike.{spans}
use Rattle.elaborate.proofs.RowWords.{place, word_of}
use Rattle.elaborate.proofs.TreeRows.{Holds}
use Rattle.elaborate.proofs.ModuleRows.{Held}
use Rattle.elaborate.proofs.ResolvedTrees.{next_grows}
use Rattle.binder.specs.inner.Walk.{first_from, declaration_with, root_with, walk}
use Rattle.binder.proofs.Walking.{Chosen, chosen, stored, walks}

-- The last row of a declaration is its body's, or its type's.
last_row : (n : ℕ) (x : Declaration) → max (get_or (pad 2 (roots n (trees x))) 0 0) (get_or (pad 2 (roots n (trees x))) 1 0) + 1 ≡ next n (trees x)
last_row n x = go x.body
  where
    go : (b : Option (Tree Label)) → max (next n x.type.args) (get_or (pad 1 (roots (suc (next n x.type.args)) (maybe b nil (λ y. tree y nil)))) 0 0) + 1 ≡ next (suc (next n x.type.args)) (maybe b nil (λ y. tree y nil))
    go none = omega arith
    go (some y) = omega (arith, next_grows (suc (next n x.type.args)) y.args)

at_most_two : (x : Declaration) → count (trees x) ≤ 2
at_most_two x = go x.body
  where
    go : (b : Option (Tree Label)) → suc (count (maybe b nil (λ y. tree y nil))) ≤ 2
    go none = omega arith
    go (some y) = omega arith

module _ (s surface declarations : List ℕ) (rows k : ℕ) where
  -- A declaration of the list from place d and row n on that has row k among its rows.
  record Having (d n : ℕ) (ds : List Declaration) : Type 0 where
    number : ℕ
    declaration : Declaration
    declared : entry ds number ≡ some declaration
    found : first_from (λ j. ltb k (row_behind declarations j)) (length ds) d ≡ d + number
    its_record : place 5 declarations (d + number) ≡ read_record (declaration_row n ds number) declaration
    holds : Holds surface rows (declaration_row n ds number) (trees declaration)
    shaped : Shaped (trees declaration)
    nested : Nested 512 (trees declaration)
    low : declaration_row n ds number ≤ k
    high : k < next (declaration_row n ds number) (trees declaration)
    earlier : declared_names s declarations d number ≡ map (declared_name s) (take number ds)

  behind_record : (d n : ℕ) (x : Declaration) → place 5 declarations d ≡ read_record n x → row_behind declarations d ≡ next n (trees x)
  unfolding row_behind
  behind_record d n x e =
      let word = word_of 5 declarations d (read_record n x) e in
      ap₂ (λ (a b : ℕ). max a b + 1) (word 3 (omega arith)) (word 4 (omega arith)) ∙ last_row n x

  having : (d n : ℕ) (ds : List Declaration) → Held surface declarations rows d n ds → n ≤ k → k < total n ds → Having d n ds
  unfolding first_from declared_names
  having d n [] h low high = absurd (omega arith)
  having d n (x ∷ l) h low high = elim (dec_lt k (next n (trees x))) [
    | yes q ↦ record {
      number = zero;
      declaration = x;
      declared = refl;
      found = ap (λ (b : Bool). elim b as (λ _. ℕ) [ true ↦ d | false ↦ first_from (λ j. ltb k (row_behind declarations j)) (length l) (d + 1) ]) (lt-ltb k _ (omega (arith, behind_record d n x h.0))) ∙ (let z : d ≡ d + 0 = omega arith in z);
      its_record = ap (place 5 declarations) (let z : d + 0 ≡ d = omega arith in z) ∙ h.0;
      holds = h.1;
      shaped = h.2;
      nested = h.3;
      low = low;
      high = q;
      earlier = refl;
    }
    | no q ↦ behind (having (suc d) (next n (trees x)) l h.5 (omega arith) high) (omega arith)
  ]
    where
      behind : Having (suc d) (next n (trees x)) l → next n (trees x) ≤ k → Having d n (x ∷ l)
      behind w q =
          let word = word_of 5 declarations d (read_record n x) h.0 in
          let z : suc d + w.number ≡ d + suc w.number = omega arith in
          record {
            number = suc w.number;
            declaration = w.declaration;
            declared = w.declared;
            found =
                ap (λ (b : Bool). elim b as (λ _. ℕ) [ true ↦ d | false ↦ first_from (λ j. ltb k (row_behind declarations j)) (length l) (d + 1) ]) (le-ltb k _ (omega (arith, behind_record d n x h.0)))
                ∙ ap (first_from (λ j. ltb k (row_behind declarations j)) (length l)) (let y : d + 1 ≡ suc d = omega arith in y)
                ∙ w.found ∙ z;
            its_record = ap (place 5 declarations) (sym z) ∙ w.its_record;
            holds = w.holds;
            shaped = w.shaped;
            nested = w.nested;
            low = w.low;
            high = w.high;
            earlier = ap₂ (λ (y : Name) (m : List Name). y ∷ m) (ap₂ (part s) (word 1 (omega arith)) (word 2 (omega arith))) w.earlier;
          }

  -- The type or the body has row k among its rows.
  root_is : (d n : ℕ) (x : Declaration) (e : place 5 declarations d ≡ read_record n x) (c : Chosen n (trees x) k)
      → root_with declarations d k ≡ next (tree_row n (trees x) c.number) c.tree.args
  root_is d n x e c = go c.number (omega (arith, c.inside, at_most_two x)) c refl ∙ c.root
    where
      word : (j : ℕ) → j < 5 → get_or declarations (d * 5 + j) 0 ≡ get_or (read_record n x) j 0
      word = word_of 5 declarations d (read_record n x) e

      second : (c : Chosen n (trees x) k) → c.number ≡ 1 → get_or (pad 2 (roots n (trees x))) 1 0 ≡ get_or (roots n (trees x)) 1 0
      second c f = bodied x.body (omega (arith, c.inside))
        where
          bodied : (b : Option (Tree Label)) → 1 < suc (count (maybe b nil (λ y. tree y nil)))
              → get_or (pad 1 (roots (suc (next n x.type.args)) (maybe b nil (λ y. tree y nil)))) 0 0 ≡ get_or (roots (suc (next n x.type.args)) (maybe b nil (λ y. tree y nil))) 0 0
          bodied none h = absurd (omega arith)
          bodied (some y) h = refl

      go : (m : ℕ) → m < 2 → (c : Chosen n (trees x) k) → c.number ≡ m → root_with declarations d k ≡ get_or (roots n (trees x)) c.number 0
      go zero h c f =
          ap (λ (b : Bool). cond b (get_or declarations (d * 5 + 3) 0) (get_or declarations (d * 5 + 4) 0))
          (le-leb k _ (omega (arith, word 3 (omega arith), c.high, c.root, ap (λ (i : ℕ). get_or (roots n (trees x)) i 0) f)))
          ∙ word 3 (omega arith) ∙ ap (λ (i : ℕ). get_or (roots n (trees x)) i 0) (sym f)
      go (suc zero) h c f =
          ap (λ (b : Bool). cond b (get_or declarations (d * 5 + 3) 0) (get_or declarations (d * 5 + 4) 0))
          (lt-leb k _ (omega (arith, word 3 (omega arith), c.before 0 (omega (arith, f)))))
          ∙ word 4 (omega arith) ∙ second c f ∙ ap (λ (i : ℕ). get_or (roots n (trees x)) i 0) (sym f)
      go (suc (suc m)) h c f = absurd (omega arith)

  -- The term that has row k, and the local binders there.
  pub record There (ds : List Declaration) : Type 0 where
    pub term : Standing s ds k
    pub its_number : declaration_with declarations (length ds) k ≡ term.number
    pub its_locals : walk surface k s 512 (root_with declarations term.number k) [] ≡ located term.first term.place term.whole
    pub its_kind : (label_at surface k).kind ≡ term.here.label.kind
    pub its_name : IsRef term → part s (row_word surface k 1) (row_word surface k 2) ≡ name_of term
    pub its_globals : declared_names s declarations 0 term.number ≡ map (declared_name s) (take term.number ds)

  pub there : (ds : List Declaration) → Held surface declarations rows 0 0 ds → k < total 0 ds → There ds
  there ds h high =
      let w = having 0 0 ds h (omega arith) high in
      let x = w.declaration in
      let n = declaration_row 0 ds w.number in
      let c = chosen (trees x) n k w.low w.high in
      let m = tree_row n (trees x) c.number in
      let e : 0 + w.number ≡ w.number = omega arith in
      let t = walks s surface rows k 512 m c.tree [] (stored surface rows 512 (trees x) n c.number c.tree c.picked w.holds w.shaped w.nested) c.low c.high in
      record {
        term = record {
          number = w.number;
          declaration = x;
          declared = w.declared;
          part = c.number;
          whole = relabel_tree (named s) c.tree;
          is_part = pick_relabel (named s) (trees x) c.number c.tree c.picked;
          first = m;
          starts = tree_row_relabel (named s) n (trees x) c.number;
          place = t.place;
          here = relabel_tree (named s) t.here;
          stands = t.stands;
          row = t.row;
        };
        its_number = w.found ∙ e;
        its_locals =
            ap (λ (r : ℕ). walk surface k s 512 r []) (root_is w.number n x (ap (place 5 declarations) (sym e) ∙ w.its_record) c)
            ∙ t.locals ∙ append-nil (located m t.place (relabel_tree (named s) c.tree));
        its_kind = t.read.kind;
        its_name = λ r. let p = t.read.span (ap holds_span r ∙ spans.0) in ap₂ (part s) p.0 p.1;
        its_globals = w.earlier;
      }
