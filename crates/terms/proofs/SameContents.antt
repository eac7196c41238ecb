-- Two modules with names have the same contents of rows and records exactly if they agree.
use mathlib.Core.Path.{◌≡◌, refl, sym, ap, ◌∙◌}
use mathlib.Core.Logic.{◌↔◌}
use mathlib.Core.List.{List, [], ◌∷◌, ◌++◌, head-eq_of_cons-eq, tail-eq_of_cons-eq}
use mathlib.Core.Option.{Option, none, some}
use mathlib.Core.Bool.{true}
use Prim.Native.Nat.{ℕ, zero, suc}
use native.Mathlib.Omega.{arith}
use native.Mathlib.Nat.{suc_inj}
use Rattle.terms.specs.Tree.{nil, tree, maybe, count}
use Rattle.terms.specs.Label.{Name, Term, NamedDeclaration}
use Rattle.terms.specs.Agreement.{Agree, AgreeDeclaration, AgreeModule}
use Rattle.terms.proofs.Names.{none_some, some_inj}
use Rattle.terms.proofs.Indices.{AllIdx, core_from, core_to}
use Rattle.terms.proofs.Bound.{agree_to, agree_from}
use Rattle.terms.proofs.NamedModule.{parts, has, ShapedModule, NamedCoreDeclaration, cores, resolves, resolves_cons, rows_of, records_of, cores_fit, cores_inj}

bodies_to : (x y : Option Term) → AllIdx (λ i. []) (λ i. []) (maybe x nil (λ b. tree b nil)) (maybe y nil (λ b. tree b nil)) → (b c : Term) → x ≡ some b → y ≡ some c → Agree b c
bodies_to none y h b c p q = none_some p
bodies_to (some a) none h b c p q = none_some q
bodies_to (some a) (some d) h b c p q = rw (← some_inj p, ← some_inj q) (agree_from a d (h 0))

bodies_from : (x y : Option Term) → count (maybe x nil (λ b. tree b nil)) ≡ count (maybe y nil (λ b. tree b nil)) → ((b c : Term) → x ≡ some b → y ≡ some c → Agree b c)
    → AllIdx (λ i. []) (λ i. []) (maybe x nil (λ b. tree b nil)) (maybe y nil (λ b. tree b nil))
bodies_from none none e h i = tt
bodies_from none (some c) e h i = absurd (omega arith)
bodies_from (some b) none e h i = absurd (omega arith)
bodies_from (some b) (some c) e h zero = agree_to b c (h b c refl refl)
bodies_from (some b) (some c) e h (suc i) = tt

modules_to : (g : List Name) (l m : List NamedDeclaration) → resolves g l ≡ true → cores g l ≡ cores g m → AgreeModule l m
modules_to g [] [] k h = tt
modules_to g [] (e ∷ m) k h = absurd (let z : ◌≡◌ {A = ℕ} 0 1 = cc in omega arith)
modules_to g (d ∷ l) [] k h = absurd (let z : ◌≡◌ {A = ℕ} 0 1 = cc in omega arith)
modules_to g (d ∷ l) (e ∷ m) k h =
    let c = resolves_cons g d l k in
    let w = core_to g (λ i. []) (λ i. []) (parts d) (parts e) c.1 (ap (λ (x : NamedCoreDeclaration). x.parts) (head-eq_of_cons-eq h)) in
    let o : d.name ≡ e.name = ap (λ (x : NamedCoreDeclaration). x.name) (head-eq_of_cons-eq h) in (
      record {
        kinds = ap (λ (x : NamedCoreDeclaration). x.kind) (head-eq_of_cons-eq h);
        names = o;
        types = agree_from d.type e.type (w 0);
        bodies = bodies_to d.body e.body (λ i. w (suc i));
      },
      modules_to (g ++ (d.name ∷ [])) l m c.2 (tail-eq_of_cons-eq h ∙ ap (λ (x : Name). cores (g ++ (x ∷ [])) m) (sym o)),
    )

parts_from : (d e : NamedDeclaration) → count (parts d) ≡ count (parts e) → AgreeDeclaration d e → AllIdx (λ i. []) (λ i. []) (parts d) (parts e)
parts_from d e c h zero = agree_to d.type e.type h.types
parts_from d e c h (suc i) = bodies_from d.body e.body (suc_inj c) h.bodies i

modules_from : (g : List Name) (l m : List NamedDeclaration) → ShapedModule l → ShapedModule m → AgreeModule l m → cores g l ≡ cores g m
modules_from g [] [] v w h = refl
modules_from g [] (e ∷ m) v w h = absurd h
modules_from g (d ∷ l) [] v w h = absurd h
modules_from g (d ∷ l) (e ∷ m) v w h =
    let k = h.0.kinds in
    let o = h.0.names in
    let p = core_from g (λ i. []) (λ i. []) (parts d) (parts e) (parts_from d e (v.0 ∙ ap has k ∙ sym w.0) h.0) in
    let z = modules_from (g ++ (d.name ∷ [])) l m v.2 w.2 h.1 ∙ ap (λ (x : Name). cores (g ++ (x ∷ [])) m) o in
    λ i. record { kind = k i; name = o i; parts = p i } ∷ z i

-- What counts of the tables of a module.
pub record SameContents (l m : List NamedDeclaration) : Type 0 where
  pub same_rows : rows_of 0 (cores [] l) ≡ rows_of 0 (cores [] m)
  pub same_records : records_of 0 (cores [] l) ≡ records_of 0 (cores [] m)

pub same_contents : (l m : List NamedDeclaration) → ShapedModule l → ShapedModule m → resolves [] l ≡ true → resolves [] m ≡ true → SameContents l m ↔ AgreeModule l m
same_contents l m v w a b = (
  λ h. modules_to [] l m a (cores_inj 0 (cores [] l) (cores [] m) (cores_fit [] l v a) (cores_fit [] m w b) h.same_rows h.same_records),
  λ h. let c = modules_from [] l m v w h in record { same_rows = ap (rows_of 0) c; same_records = ap (records_of 0) c },
)
