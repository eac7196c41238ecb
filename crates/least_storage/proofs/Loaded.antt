-- What loading does with what is parsed.
use Rattle.token.specs.declared.Class.{Class}
use Rattle.std.specs.Prelude.{Err}
use mathlib.Core.Path.{◌≡◌, refl, sym, ap, ◌∙◌, subst}
use mathlib.Core.List.{List, [], ◌∷◌, ◌++◌}
use mathlib.Core.Option.{Option, none, some}
use mathlib.Core.Bool.{Bool, false}
use Prim.Native.Nat.{ℕ, ◌/◌, ◌≤◌, ◌<◌}
use lib.Dec.{leb}
use borrow.Author.Tests.{le-leb, lt-leb}
use Rattle.token.specs.declared.Refusal.{Refusal}
use Rattle.terms.specs.Label.{Name, Label, Declaration, declared_name}
use Rattle.terms.specs.Resolution.{find, resolve_declaration, first_unknown, RefusedName, refused_name, first_refused}
use Rattle.surface.specs.Reader.{Position, start, Result, done, refused, after, require, nowhere}
use Rattle.surface.specs.Tables.{Lengths}
use Rattle.surface.specs.Loading.{parsing, reading, accept, loading, outcome, load}
use Rattle.surface.proofs.Demand.{stands}
use Rattle.least_storage.specs.Statements.{Alike, storage_refusal, is_full}

-- The test of the core table's rows, then the names.
abbrev pub names : List ℕ → List Declaration → Position → Result (List Declaration)
names s ds p = after (accept (first_refused s [] ds) p) (λ _ r. done ds r)

abbrev pub tested : List ℕ → List Declaration → Position → Bool → Result (List Declaration)
tested s ds p b = after (after (require b (nowhere Class.CoreShort) p) (λ _ r. done ds r)) (names s)

abbrev pub rest : List ℕ → ℕ → Result (List Declaration) → Result (List Declaration)
rest s core x = after (after x (λ ds p. after (require (leb p.rows core) (nowhere Class.CoreShort) p) (λ _ r. done ds r))) (names s)

pub loads_by : (s : List ℕ) (z : Lengths) → loading s z start ≡ rest s (z.core / 8) (parsing s z start)
unfolding loading reading
loads_by s z = refl

pub answers_by : (s : List ℕ) (z : Lengths) → (load s z).answer ≡ (outcome s z (rest s (z.core / 8) (parsing s z start))).answer
unfolding load
answers_by s z = ap (λ (x : Result (List Declaration)). (outcome s z x).answer) (loads_by s z)

-- A refusal of parsing is the answer of loading.
pub refused_load : (s : List ℕ) (z : Lengths) (c : Refusal) → parsing s z start ≡ refused c → (load s z).answer ≡ Err c
refused_load s z c e = answers_by s z ∙ ap (λ (x : Result (List Declaration)). (outcome s z (rest s (z.core / 8) x)).answer) e

-- Enough core rows, and too few.
pub core_holds : (s : List ℕ) (z : Lengths) (ds : List Declaration) (q : Position) → parsing s z start ≡ done ds q → q.rows ≤ z.core / 8
    → loading s z start ≡ names s ds q
core_holds s z ds q e h = loads_by s z ∙ ap (rest s (z.core / 8)) e ∙ ap (tested s ds q) (le-leb q.rows (z.core / 8) h)

pub core_full : (s : List ℕ) (z : Lengths) (ds : List Declaration) (q : Position) → parsing s z start ≡ done ds q → z.core / 8 < q.rows
    → (load s z).answer ≡ Err (nowhere Class.CoreShort)
core_full s z ds q e h =
    answers_by s z ∙ ap (λ (x : Result (List Declaration)). (outcome s z (rest s (z.core / 8) x)).answer) e
    ∙ ap (λ (b : Bool). (outcome s z (tested s ds q b)).answer) (lt-leb q.rows (z.core / 8) h)

-- What is loaded with two lots of tables is alike, if loading gives the same.
alike_outcomes : (s : List ℕ) (y z : Lengths) (x : Result (List Declaration)) → loading s y start ≡ x → loading s z start ≡ x
    → Alike (outcome s y x) (outcome s z x)
alike_outcomes s y z (done ds q) e f =
    let a = stands s y ds q e in
    let b = stands s z ds q f in
    record { answers = refl; surfaces = a.surface ∙ sym b.surface; cores = a.core ∙ sym b.core; records = a.declarations ∙ sym b.declarations }
alike_outcomes s y z (refused c) e f = record { answers = refl; surfaces = refl; cores = refl; records = refl }

pub alike_by : (s : List ℕ) (y z : Lengths) → loading s y start ≡ loading s z start → Alike (load s y) (load s z)
unfolding load
alike_by s y z e =
    subst (λ (x : Result (List Declaration)). Alike (outcome s y x) (outcome s z (loading s z start))) (sym e) (alike_outcomes s y z (loading s z start) e refl)

-- A name is refused for 4 or 5.
abbrev pub Late : Option RefusedName → Type 0
Late none = Unit {0}
Late (some n) = (storage_refusal n.class ≡ false) × (is_full n.class ≡ false)

pub late : (s : List ℕ) (g : List Name) (ds : List Declaration) → Late (first_refused s g ds)
unfolding first_refused
late s g [] = tt
late s g (d ∷ l) =
    let h = g ++ (declared_name s d ∷ []) in
    go (find (declared_name s d) g) (first_unknown (resolve_declaration s g d)) (first_refused s h l) (late s h l)
  where
    go : (a : Option ℕ) (b : Option Label) (o : Option RefusedName) → Late o → Late (elim a as (λ _. Option RefusedName) [
      | some i ↦ some (refused_name Class.DuplicateName d.start d.length)
      | none ↦ elim b as (λ _. Option RefusedName) [ some u ↦ some (refused_name Class.UnknownName u.start u.length) | none ↦ o ]
    ])
    go (some i) b o h = (refl, refl)
    go none (some u) o h = (refl, refl)
    go none none o h = h
