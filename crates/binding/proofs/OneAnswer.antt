-- The answer is determined: by scope, one thing stands at each row.
use mathlib.Core.Path.{◌≡◌, sym, ap, ◌∙◌, subst}
use mathlib.Core.List.{List, []}
use mathlib.Core.Option.{Option, some}
use Prim.Native.Nat.{ℕ}
use native.Mathlib.Omega.{arith}
use Rattle.std.specs.Prelude.{Ok, Err}
use Rattle.terms.specs.Label.{Declaration}
use Rattle.terms.specs.RowAt.{entry}
use Rattle.terms.specs.Lookup.{found, Referent, local, global}
use Rattle.terms.proofs.Names.{some_inj}
use Rattle.surface.specs.Reader.{Position, start, Result, done, refused}
use Rattle.surface.specs.Tables.{Lengths, lengths}
use Rattle.surface.specs.Loading.{loading}
use Rattle.binding.specs.declared.Binder.{Binder}
use Rattle.binding.specs.Answer.{Binding}
use Rattle.binding.specs.Binds.{Answers, left}
use Rattle.binding.specs.Statements.{OneAnswer}
use Rattle.binding.proofs.Modules.{module_referents}
use Rattle.binding.proofs.ByScope.{bound_row, unbound_row}

module _ (s : List ℕ) (k : ℕ) (ds : List Declaration) (p : Position) where
  abbrev Holds : Option Referent → Type 0
  Holds r = entry (module_referents s 0 [] ds) k ≡ some r

  same_row : (x y : Referent) → Holds (some x) → Holds (some y) → x ≡ y
  same_row x y f g = some_inj (some_inj (sym f ∙ g))

  apart : (c r j : ℕ) → local (found c r) ≡ global j → ⊥
  apart c r j e = let z : ◌≡◌ {A = ℕ} 0 1 = cc in omega arith

  one : (a b : Binding) → Answers s k (done ds p) a → Answers s k (done ds p) b → a ≡ b
  one (Ok (Binder.Local c r)) (Ok (Binder.Local d t)) f g =
      let e = same_row (local (found c r)) (local (found d t)) (bound_row s ds k c r f) (bound_row s ds k d t g) in
      let h : found c r ≡ found d t = cc in
      λ i. Ok (Binder.Local (h i).count (h i).row)
  one (Ok (Binder.Local c r)) (Ok (Binder.Global j)) f g = absurd (apart c r j (same_row _ _ (bound_row s ds k c r f) (unbound_row s ds k j g)))
  one (Ok (Binder.Local c r)) (Err x) f g = absurd (g.1 f.term f.is_ref)
  one (Ok (Binder.Global j)) (Ok (Binder.Local c r)) f g = absurd (apart c r j (same_row _ _ (bound_row s ds k c r g) (unbound_row s ds k j f)))
  one (Ok (Binder.Global j)) (Ok (Binder.Global i)) f g =
      let e = same_row (global j) (global i) (unbound_row s ds k j f) (unbound_row s ds k i g) in
      ap (λ (n : ℕ). Ok (Binder.Global n)) (let m : j ≡ i = cc in m)
  one (Ok (Binder.Global j)) (Err x) f g = absurd (g.1 f.term f.is_ref)
  one (Err x) (Ok (Binder.Local c r)) f g = absurd (f.1 g.term g.is_ref)
  one (Err x) (Ok (Binder.Global j)) f g = absurd (f.1 g.term g.is_ref)
  one (Err x) (Err y) f g = ap Err (f.0 ∙ sym g.0)

pub one_binding : (s : List ℕ) (k : ℕ) (o : Result (List Declaration)) (a b : Binding) → Answers s k o a → Answers s k o b → a ≡ b
one_binding s k (refused r) a b f g = f ∙ sym g
one_binding s k (done ds p) a b f g = one s k ds p a b f g

pub one_answer : OneAnswer
one_answer s k before₁ before₂ a b after₁ after₂ e f g =
    let h = subst (λ (z : Lengths). Answers s k (loading s z start) b × (after₂ ≡ left s z b)) (sym e) g in
    let q = one_binding s k (loading s (lengths before₁) start) a b f.0 h.0 in
    (q, f.1 ∙ ap (left s (lengths before₁)) q ∙ sym h.1)
