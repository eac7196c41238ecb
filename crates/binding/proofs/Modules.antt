-- What each row of a module refers to, and that a term with its row stands at such a row.
use mathlib.Core.Path.{◌≡◌, sym, ap, ap₂, ◌∙◌, subst}
use mathlib.Core.List.{List, [], ◌∷◌, ◌++◌, map, append-nil, append_assoc}
use mathlib.Core.Option.{Option, some}
use Prim.Native.Nat.{ℕ, zero, suc, ◌+◌}
use native.Mathlib.Omega.{arith}
use lib.ListN.{length, length-append, take}
use Rattle.terms.specs.Tree.{Place, pick, at, next}
use Rattle.terms.specs.Label.{Name, Term, Declaration, trees, named, declared_name}
use Rattle.terms.specs.RowAt.{entry, tree_row, row_at, declaration_row}
use Rattle.terms.specs.Lookup.{Local, Referent}
use Rattle.terms.proofs.Names.{none_some, some_inj}
use Rattle.terms.proofs.Cells.{next_cells, next_relabel}
use Rattle.terms.proofs.Entries.{entry_front, entry_behind}
use Rattle.terms.proofs.Widths.{total}
use Rattle.binding.specs.Binds.{parts, Standing}
use Rattle.binding.proofs.Located.{located}
use Rattle.binding.proofs.Referents.{referent_of, referents, length_referents, place_refers}

-- Declaration by declaration; n is the first row, and g are the earlier names.
abbrev pub module_referents : List ℕ → ℕ → List Name → List Declaration → List (Option Referent)
module_referents s n g [] = []
module_referents s n g (d ∷ l) = referents n (λ i. []) g (parts s d) ++ module_referents s (next n (trees d)) (g ++ (declared_name s d ∷ [])) l

abbrev pub earlier : List ℕ → List Name → List Declaration → ℕ → List Name
earlier s g ds j = g ++ map (declared_name s) (take j ds)

pub record InModule (s : List ℕ) (n : ℕ) (g : List Name) (ds : List Declaration) (k : ℕ) (r : Option Referent) : Type 0 where
  pub index : ℕ
  pub number : k ≡ n + index
  pub answer : entry (module_referents s n g ds) index ≡ some r

module _ (s : List ℕ) (i : ℕ) (p : Place) (t u : Term) (k : ℕ) (d : Declaration) (a : pick (parts s d) i ≡ some t) (b : at p t ≡ some u) where
  in_module : (ds : List Declaration) (n : ℕ) (g : List Name) (j : ℕ) → entry ds j ≡ some d → row_at (tree_row (declaration_row n ds j) (parts s d) i) p t ≡ some k
      → InModule s n g ds k (referent_of (located (tree_row (declaration_row n ds j) (parts s d) i) p t) (earlier s g ds j) u.label)
  in_module [] n g j e h = none_some e
  in_module (c ∷ l) n g zero e h =
      let w = place_refers (parts s d) n (λ i. []) g i p t u k a b h in
      let x = located (tree_row n (parts s d) i) p t in
      let v : entry (referents n (λ i. []) g (parts s d)) w.index ≡ some (referent_of x (g ++ []) u.label) =
      w.answer ∙ ap₂ (λ (y : List Local) (z : List Name). some (referent_of y z u.label)) (append-nil x) (sym (append-nil g)) in
      record {
        index = w.index;
        number = w.number;
        answer = entry_front (referents n (λ i. []) g (parts s c)) _ w.index _
            (subst (λ (y : Declaration). entry (referents n (λ i. []) g (parts s y)) w.index ≡ some (referent_of x (g ++ []) u.label)) (sym (some_inj e)) v);
      }
  in_module (c ∷ l) n g (suc j) e h =
      let w = in_module l (next n (trees c)) (g ++ (declared_name s c ∷ [])) j e h in
      record {
        index = length (referents n (λ i. []) g (parts s c)) + w.index;
        number = omega (arith, w.number, next_relabel (named s) n (trees c), next_cells n (parts s c), length_referents (parts s c) n (λ i. []) g);
        answer =
            entry_behind (referents n (λ i. []) g (parts s c)) _ w.index ∙ w.answer
            ∙ ap (λ (z : List Name). some (referent_of (located (tree_row (declaration_row (next n (trees c)) l j) (parts s d) i) p t) z u.label))
            (append_assoc g (declared_name s c ∷ []) (map (declared_name s) (take j l)));
      }

-- What a term refers to, by where it stands.
abbrev pub refers_there : (s : List ℕ) (ds : List Declaration) (k : ℕ) → Standing s ds k → Option Referent
refers_there s ds k w = referent_of (located w.first w.place w.whole) (map (declared_name s) (take w.number ds)) w.here.label

pub standing_row : (s : List ℕ) (ds : List Declaration) (k : ℕ) (w : Standing s ds k) → entry (module_referents s 0 [] ds) k ≡ some (refers_there s ds k w)
standing_row s ds k w =
    let m = in_module s w.part w.place w.whole w.here k w.declaration w.is_part w.stands ds 0 [] w.number w.declared
    (ap (λ (n : ℕ). row_at n w.place w.whole) w.starts ∙ w.row) in
    ap (entry (module_referents s 0 [] ds)) (let q : k ≡ m.index = omega (arith, m.number) in q) ∙ m.answer
    ∙ ap (λ (n : ℕ). some (referent_of (located n w.place w.whole) (map (declared_name s) (take w.number ds)) w.here.label)) w.starts

-- As many as there are rows.
pub length_module : (s : List ℕ) (ds : List Declaration) (n : ℕ) (g : List Name) → n + length (module_referents s n g ds) ≡ total n ds
length_module s [] n g = omega arith
length_module s (d ∷ m) n g =
    let f = parts s d in
    let r = length_module s m (next n (trees d)) (g ++ (declared_name s d ∷ [])) in
    omega (
      arith,
      r,
      length-append (referents n (λ i. []) g f) (module_referents s (next n (trees d)) (g ++ (declared_name s d ∷ [])) m),
      length_referents f n (λ i. []) g,
      next_cells n f,
      next_relabel (named s) n (trees d),
    )
