-- Where the rows of a declaration end, from its record.
use mathlib.Core.Path.{◌≡◌, refl, ap}
use mathlib.Core.Bool.{Bool, true, false, cond}
use mathlib.Core.List.{List, [], ◌∷◌, ◌++◌}
use mathlib.Core.Option.{Option, none, some}
use Prim.Native.Nat.{ℕ, zero, suc, ◌+◌, ◌<◌, max}
use native.Mathlib.Omega.{arith}
use lib.Dec.{eqb}
use lib.ListN.{length, get_or}
use Rattle.terms.specs.Tree.{Forest, nil, node, next, roots, Tree}
use Rattle.terms.specs.Label.{Name, Label, Declaration, declared_name}
use Rattle.terms.specs.Resolution.{Resolved, resolve_declaration, resolve_module}
use Rattle.terms.specs.Rows.{pad, declaration_records}
use Rattle.terms.proofs.Cells.{next_cells}
use Rattle.dependence.specs.Depends.{type_of, transparent}
use Rattle.dependence.proofs.Ranges.{behind_of, counted_behind}

-- A declaration has one tree or two, and the last of their rows is the greater of the two rows in its record, where a missing one is 0.
last_root : (n : ℕ) (f : Forest Resolved) → ℕ
last_root n f = max (get_or (pad 2 (roots n f)) 0 0) (get_or (pad 2 (roots n f)) 1 0) + 1

last_of_two : (n : ℕ) (h k : Resolved) (a b : Forest Resolved) → last_root n (node h a (node k b nil)) ≡ next n (node h a (node k b nil))
unfolding last_root
last_of_two n h k a b = omega (arith, next_cells (suc (next n a)) b)

last_of_one : (n : ℕ) (h : Resolved) (a : Forest Resolved) → last_root n (node h a nil) ≡ next n (node h a nil)
unfolding last_root
last_of_one n h a = omega arith

last_is : (s : List ℕ) (g : List Name) (n : ℕ) (k start len : ℕ) (t : Tree Label) (b : Option (Tree Label))
    → let f = resolve_declaration s g (record { kind = k; start = start; length = len; type = t; body = b }) in last_root n f ≡ next n f
last_is s g n k start len t none = last_of_one n _ _
last_is s g n k start len t (some b) = last_of_two n _ _ _ _

abbrev last_in : List ℕ → ℕ
last_in w = max (get_or w 3 0) (get_or w 4 0) + 1

pub last_in_record : (s : List ℕ) (g : List Name) (n : ℕ) (ds : List Declaration) (i : ℕ) → i < length ds
    → last_in (get_or (declaration_records n (resolve_module s g ds)) i []) ≡ behind_of n (resolve_module s g ds) i
unfolding last_root
last_in_record s g n [] i h = absurd (omega arith)
last_in_record s g n (d ∷ l) zero h = last_is s g n d.kind d.start d.length d.type d.body
last_in_record s g n (d ∷ l) (suc i) h = last_in_record s (g ++ (declared_name s d ∷ [])) (next n (resolve_declaration s g d)) l i (omega arith)

-- The rows that count end with the declaration's last where it is transparent, else with its type's.
pub counted_in_record : (s : List ℕ) (g : List Name) (n : ℕ) (ds : List Declaration) (i : ℕ) → i < length ds
    → let m = resolve_module s g ds in
    let w = get_or (declaration_records n m) i [] in
    counted_behind n m i ≡ cond (eqb (get_or w 0 0) transparent) (behind_of n m i) (get_or w 3 0 + 1)
counted_in_record s g n [] i h = absurd (omega arith)
counted_in_record s g n (d ∷ l) zero h = go (eqb d.kind transparent)
  where
    go : (b : Bool) → next n (cond b (resolve_declaration s g d) (type_of (resolve_declaration s g d))) ≡ cond b (next n (resolve_declaration s g d)) (get_or (pad 2 (roots n (resolve_declaration s g d))) 0 0 + 1)
    go true = refl
    go false = omega arith
counted_in_record s g n (d ∷ l) (suc i) h = counted_in_record s (g ++ (declared_name s d ∷ [])) (next n (resolve_declaration s g d)) l i (omega arith)

pub count_resolved : (s : List ℕ) (g : List Name) (ds : List Declaration) → length (resolve_module s g ds) ≡ length ds
count_resolved s g [] = refl
count_resolved s g (d ∷ l) = ap suc (count_resolved s (g ++ (declared_name s d ∷ [])) l)
