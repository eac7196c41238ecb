-- The core of terms with names: resolution with bytes in place of spans, so that two sources can be compared.
use mathlib.Core.Path.{◌≡◌, refl, ap}
use mathlib.Core.Logic.{ite, if_pos, if_neg}
use mathlib.Core.List.{List, [], ◌∷◌}
use mathlib.Core.Option.{Option, none, some}
use mathlib.Core.Bool.{Bool, true, false, ◌&&◌, cond, and-eq-true_iff}
use Prim.Native.Nat.{ℕ, zero, suc}
use native.Mathlib.Decide.{ℕ_discrete}
use lib.Dec.{eqb}
use Rattle.terms.specs.Forms.{universe, ref, counts_as}
use Rattle.terms.specs.Tree.{Forest, nil, node, count}
use Rattle.terms.specs.Label.{Name, Named, Terms}
use Rattle.terms.specs.Resolution.{Locals, find, find_local, covers, bound_name}

pub data NamedCore : Type 0 where
  form : (kind : ℕ) (digits : Name) → NamedCore
  local : (index : ℕ) → NamedCore
  earlier : (place : ℕ) → NamedCore
  unresolved : NamedCore

abbrev pub found : Option ℕ → Option ℕ → NamedCore
found (some i) g = local i
found none (some j) = earlier j
found none none = unresolved

-- The bytes that count of a term that is no reference.
abbrev pub digits_of : Named → Name
digits_of t = cond (eqb t.kind universe) t.name []

-- With l the local binders, and g the names of the earlier declarations.
abbrev pub core_at : Locals → List Name → Named → NamedCore
core_at l g t = ite (ℕ_discrete t.kind ref) (found (find_local t.name l) (find t.name g)) (form (counts_as t.kind) (digits_of t))

pub core_at_ref : (l : Locals) (g : List Name) (t : Named) → t.kind ≡ ref → core_at l g t ≡ found (find_local t.name l) (find t.name g)
core_at_ref l g t e = if_pos (ℕ_discrete t.kind ref) e _ _

pub core_at_form : (l : Locals) (g : List Name) (t : Named) → ¬ (t.kind ≡ ref) → core_at l g t ≡ form (counts_as t.kind) (digits_of t)
core_at_form l g t e = if_neg (ℕ_discrete t.kind ref) e _ _

-- The local binders in the argument i of a term.
abbrev pub inner : Named → Locals → ℕ → Locals
inner t l i = cond (covers t.kind i) (bound_name t.kind t.name ∷ l) l

-- e i is the list of the local binders at the term i of the list.
abbrev pub core : (ℕ → Locals) → List Name → Terms → Forest NamedCore
core e g nil = nil
core e g (node t a r) = node (core_at (e zero) g t) (core (inner t (e zero)) g a) (core (λ i. e (suc i)) g r)

abbrev pub is_known : NamedCore → Bool
is_known (form k d) = true
is_known (local i) = true
is_known (earlier i) = true
is_known unresolved = false

-- Each reference is known.
abbrev pub all_known : Forest NamedCore → Bool
all_known nil = true
all_known (node c a r) = is_known c && (all_known a && all_known r)

abbrev pub known : (ℕ → Locals) → List Name → Terms → Bool
known e g t = all_known (core e g t)

-- What `known` says of a term and what follows it.
pub known_node : (e : ℕ → Locals) (g : List Name) (l : Named) (a r : Terms) → known e g (node l a r) ≡ true
    → (is_known (core_at (e zero) g l) ≡ true) × (known (inner l (e zero)) g a ≡ true) × (known (λ i. e (suc i)) g r ≡ true)
known_node e g l a r h =
    let q = (and-eq-true_iff (is_known (core_at (e zero) g l)) (known (inner l (e zero)) g a && known (λ i. e (suc i)) g r)).0 h in
    let p = (and-eq-true_iff (known (inner l (e zero)) g a) (known (λ i. e (suc i)) g r)).0 q.1 in
    (q.0, p.0, p.1)

pub count_core : (e : ℕ → Locals) (g : List Name) (s : Terms) → count (core e g s) ≡ count s
count_core e g nil = refl
count_core e g (node l a r) = ap suc (count_core (λ i. e (suc i)) g r)
