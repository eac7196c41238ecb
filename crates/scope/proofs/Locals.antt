-- A walk over the locals from the innermost outwards, and what the lookup of a name says of a reference.
use Prim.Native.Nat.{ℕ, suc, ◌+◌, ◌-◌, ◌*◌, ◌<◌}
use mathlib.Core.Path.{◌≡◌, refl, sym, ◌∙◌, ap}
use mathlib.Core.List.{List, [], ◌∷◌, map}
use mathlib.Core.Option.{Option, none, some}
use mathlib.Core.Bool.{Bool, true, false, cond}
use native.Mathlib.Omega.{arith}
use borrow.Author.Tests.{eq-eqb, ne_eqb}
use lib.Dec.{eqb}
use lib.ListN.{get_or}
use Rattle.words.specs.Words.{same_bytes}
use Rattle.terms.specs.Forms.{ref, arrow}
use Rattle.terms.specs.Label.{Name, part, Label}
use Rattle.terms.specs.Resolution.{find, called, bound_name, referent, core_of}
use Rattle.terms.specs.Lookup.{Local, local_of, Found, found, next_found, lookup, Referent, refers}
use Rattle.terms.proofs.Spans.{core_of_ref}
use Rattle.terms.proofs.Lookup.{behind, lookup_count, as_core, refers_core}
use Rattle.scope.specs.Scope.{in_scope}

behind_next : (k : ℕ) (o : Option Found) → behind k (next_found o) ≡ behind (k + 1) o
behind_next k none = refl
behind_next k (some f) = ap (λ (c : ℕ). some (found c f.row)) (let q : k + suc f.count ≡ k + 1 + f.count = omega arith in q)

module _ (x : Name) where
  -- Of the locals `all`, k were passed and `rest` are left.
  abbrev pub Passed : List Local → ℕ → List Local → Type 0
  Passed all k rest = lookup x all ≡ behind k (lookup x rest)

  module _ (all : List Local) (k : ℕ) (left : List Local) (p : Passed all k left) where
    pub hit : (y : Local) (rest : List Local) → left ≡ y ∷ rest → called x y.name ≡ true → (m : ℕ) → m ≡ k → some (found m y.row) ≡ lookup x all
    unfolding lookup
    hit y rest q e m f = sym (p ∙ rw (q, lookup, e) (ap (λ (c : ℕ). some (found c y.row)) (let z : k + 0 ≡ m = omega arith in z)))

    pub miss : (y : Local) (rest : List Local) → left ≡ y ∷ rest → called x y.name ≡ false → (m : ℕ) → m ≡ k + 1 → Passed all m rest
    unfolding lookup
    miss y rest q e m f = p ∙ rw (q, lookup, e) (behind_next k (lookup x rest)) ∙ ap (λ (n : ℕ). behind n (lookup x rest)) (sym f)

    pub passed_all : left ≡ [] → none ≡ lookup x all
    unfolding lookup
    passed_all q = sym (p ∙ rw q)

-- A binder has the name that stands for it, but an arrow has none.
module _ (k : ℕ) (x y : Name) where
  abbrev called_by : Bool → Bool
  called_by b = called x (cond b none (some y))

  pub bound_other : same_bytes x y ≡ false → called x (bound_name k y) ≡ false
  bound_other e = go (eqb k arrow)
    where
      go : (b : Bool) → called_by b ≡ false
      go true = refl
      go false = e

  pub bound_arrow : k ≡ arrow → called x (bound_name k y) ≡ false
  bound_arrow e = ap called_by (eq-eqb k arrow e)

  pub bound_so : ¬ (k ≡ arrow) → same_bytes x y ≡ true → called x (bound_name k y) ≡ true
  bound_so n e = ap called_by (ne_eqb k arrow n) ∙ e

-- The innermost local.
pub innermost : (s w : List ℕ) (d : ℕ) → 0 < d
    → in_scope s w d
    ≡ local_of (bound_name (get_or w (1536 + (d - 1)) 0) (part s (get_or w ((d - 1) * 2) 0) (get_or w ((d - 1) * 2 + 1) 0))) (get_or w (1024 + (d - 1)) 0)
    ∷ in_scope s w (d - 1)
unfolding in_scope
innermost s w d h = ap (in_scope s w) (let q : d ≡ suc (d - 1) = omega arith in q)

pub no_local : (s w : List ℕ) (d : ℕ) → d ≡ 0 → in_scope s w d ≡ []
unfolding in_scope
no_local s w d e = rw e

-- What a reference refers to, as resolution says it.
pub referred : (s : List ℕ) (locals : List Local) (globals : List Name) (l : Label) (r : Referent) → l.kind ≡ ref
    → r ≡ refers (lookup (part s l.start l.length) locals) (find (part s l.start l.length) globals)
    → as_core r ≡ core_of s (map (λ y. y.name) locals) globals l
referred s locals globals l r k e =
    let x = part s l.start l.length in
    ap as_core e ∙ refers_core (lookup x locals) (find x globals)
    ∙ ap (λ (o : Option ℕ). referent o (find x globals)) (lookup_count x locals)
    ∙ sym (core_of_ref s (map (λ y. y.name) locals) globals l k)
