-- A resolved tree has the rows of the tree it comes from, and a module's core records are those that were read.
use Prim.Native.Nat.{ℕ, ◌≤◌}
use mathlib.Core.Path.{◌≡◌, refl, sym, ◌∙◌, ap}
use mathlib.Core.List.{List, [], ◌∷◌, ◌++◌}
use native.Mathlib.Omega.{arith}
use Rattle.terms.specs.Tree.{Forest, next, roots}
use Rattle.terms.specs.Label.{Name, Label, Declaration, trees, declared_name}
use Rattle.terms.specs.Resolution.{Locals, resolve, resolve_module}
use Rattle.terms.specs.Rows.{pad, declaration_records, read_records}
use Rattle.terms.proofs.Cells.{next_cells, roots_relabel}
use Rattle.terms.proofs.Spans.{resolve_labels, resolve_next}

pub resolve_roots : (s : List ℕ) (locals : ℕ → Locals) (globals : List Name) (n : ℕ) (f : Forest Label) → roots n (resolve s locals globals f) ≡ roots n f
resolve_roots s locals globals n f = sym (roots_relabel (λ r. r.label) n (resolve s locals globals f)) ∙ ap (roots n) (resolve_labels s locals globals f)

pub next_grows : {A : Type 0} (n : ℕ) (f : Forest A) → n ≤ next n f
next_grows n f = omega (arith, next_cells n f)

-- The declaration records of the core module are those that were read.
pub records_kept : (s : List ℕ) (globals : List Name) (n : ℕ) (ds : List Declaration) → declaration_records n (resolve_module s globals ds) ≡ read_records n ds
records_kept s globals n [] = refl
records_kept s globals n (d ∷ l) =
    let r = resolve_roots s (λ i. []) globals n (trees d) in
    let t = ap (λ (m : ℕ). declaration_records m (resolve_module s (globals ++ (declared_name s d ∷ [])) l)) (resolve_next s (λ i. []) globals n (trees d))
    ∙ records_kept s (globals ++ (declared_name s d ∷ [])) (next n (trees d)) l in
    λ i. (d.kind ∷ d.start ∷ d.length ∷ pad 2 (r i)) ∷ t i
