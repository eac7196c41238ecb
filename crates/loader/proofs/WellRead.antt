-- What is read is shaped, nested and bodied as resolution wants it.
use mathlib.Core.Path.{◌≡◌, sym, ◌∙◌, subst}
use mathlib.Core.List.{List, [], ◌∷◌, map}
use mathlib.Core.Logic.{if_pos, if_neg, by_cases}
use mathlib.Core.Option.{Option, none, some}
use Prim.Native.Nat.{ℕ, zero, suc, ◌≤◌}
use native.Mathlib.Omega.{arith}
use native.Mathlib.Decide.{ℕ_discrete}
use Rattle.terms.specs.Tree.{Forest, nil, node, Tree, count, relabel}
use Rattle.terms.specs.Label.{Label, Declaration, Terms, trees, named, named_declaration}
use Rattle.terms.proofs.Cells.{count_relabel}
use Rattle.terms.proofs.NamedModule.{has, parts, ShapedModule}
use Rattle.terms.proofs.NamedModule as by_name
use Rattle.terms.proofs.Spans.{named_trees}
use Rattle.surface.specs.Grammar.{Derives}
use Rattle.surface.proofs.Shaped.{shaped}
use Rattle.surface.proofs.Frames.{frames_of, deepest}
use Rattle.elaborate.specs.Loadable.{Shaped, Nested, Bodied, WellRead}

-- By the bytes of its names or by their spans, a forest has the same shape.
unnamed : (s : List ℕ) (f : Forest Label) → by_name.Shaped (relabel (named s) f) → Shaped f
unnamed s nil h = tt
unnamed s (node l a r) h = (sym (count_relabel (named s) a) ∙ h.1, unnamed s a h.2, unnamed s r h.3)

nested : (n : ℕ) (f : Forest Label) → frames_of f ≤ n → Nested n f
nested n nil h = tt
nested n (node l nil r) h = nested n r (omega arith)
nested zero (node l (node m b c) r) h = absurd (omega arith)
nested (suc n) (node l (node m b c) r) h = (nested n (node m b c) (omega arith), nested (suc n) r (omega arith))

bodied : (s : List ℕ) (k : ℕ) (t : Tree Label) (b : Option (Tree Label)) → count (relabel (named s) (trees (record { kind = k; start = 0; length = 0; type = t; body = b }))) ≡ has k → Bodied k b
bodied s k t none e = by_cases (ℕ_discrete k 1) (λ y. y) (λ n. absurd (omega (arith, if_neg {C = ℕ} (ℕ_discrete k 1) n 1 2)))
bodied s k t (some b) e = λ y. omega (arith, if_pos {C = ℕ} (ℕ_discrete k 1) y 1 2)

all_well : (s : List ℕ) (ds : List Declaration) → ShapedModule (map (named_declaration s) ds) → deepest ds ≤ 512 → WellRead ds
all_well s [] h d = tt
all_well s (x ∷ l) h d = (
  unnamed s (trees x) (subst by_name.Shaped (named_trees s x) h.1),
  nested 512 (trees x) (omega arith),
  bodied s x.kind x.type x.body (subst (λ (f : Terms). count f ≡ has x.kind) (named_trees s x) h.0),
  all_well s l h.2 (omega arith),
)

pub well_read : (s : List ℕ) (ds : List Declaration) → Derives s ds → deepest ds ≤ 512 → WellRead ds
well_read s ds e d = all_well s ds (shaped s ds e) d
