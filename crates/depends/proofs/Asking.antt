-- What the question answers and leaves, from what loading leaves.
use Rattle.token.specs.declared.Class.{Class}
use Rattle.std.specs.Prelude.{Err}
use mathlib.Core.Path.{◌≡◌, refl, sym, ap, ◌∙◌, subst}
use mathlib.Core.Bool.{Bool, true, false, ◌&&◌, and-eq-true_iff}
use mathlib.Core.List.{List, []}
use Prim.Native.Nat.{ℕ, ◌<◌}
use native.Mathlib.Omega.{arith}
use lib.Dec.{ltb}
use borrow.Author.Tests.{ltb-true}
use lib.ListN.{length}
use Rattle.std.specs.Prelude.{Err}
use Rattle.token.specs.declared.Refusal.{Refusal}
use Rattle.terms.specs.Label.{Declaration}
use Rattle.terms.specs.Rows.{pad}
use Rattle.tables.specs.Tables.{cleared}
use Rattle.surface.specs.Answer.{Answer, loaded}
use Rattle.surface.specs.Reader.{Position, start, Result, done, refused, after, require, nowhere}
use Rattle.surface.specs.Tables.{Lengths, Tables, tables, leaves}
use Rattle.surface.specs.SameCore.{declaration_count}
use Rattle.surface.specs.Loading.{loading, Outcome, outcome, load}
use Rattle.dependence.specs.Answer.{Dependence}
use Rattle.dependence.specs.Asks.{asking, answer_of, ask_outcome, ask}
use Rattle.dependence.proofs.Few.{places_fit}
use Rattle.loader.specs.Leaving.{leaving}
use Rattle.loader.proofs.Cleared.{cleared_pad}
use Rattle.depends.specs.inner.Search.{marks_left, shown_row}
use Rattle.depends.proofs.Marking.{area, looked_at, answered}

module _ (s : List ℕ) (z : Lengths) (i j : ℕ) where
  asked_refused : (r : Refusal) → loading s z start ≡ refused r → asking s z i j start ≡ refused r
  unfolding asking
  asked_refused r e = ap (λ (x : Result (List Declaration)). after x (λ ds. λ p. after (require (ltb i (length ds) && ltb j (length ds)) (nowhere Class.NoDeclaration) p) (λ _. λ p. done ds p))) e

  module _ (ds : List Declaration) (q : Position) (e : loading s z start ≡ done ds q) where
    asked : asking s z i j start ≡ after (require (ltb i (length ds) && ltb j (length ds)) (nowhere Class.NoDeclaration) q) (λ _. λ p. done ds p)
    unfolding asking
    asked = ap (λ (x : Result (List Declaration)). after x (λ ds. λ p. after (require (ltb i (length ds) && ltb j (length ds)) (nowhere Class.NoDeclaration) p) (λ _. λ p. done ds p))) e

    asked_inside : ltb i (length ds) && ltb j (length ds) ≡ true → asking s z i j start ≡ done ds q
    asked_inside h = asked ∙ ap (λ (b : Bool). after (require b (nowhere Class.NoDeclaration) q) (λ _. λ p. done ds p)) h

    asked_outside : ltb i (length ds) && ltb j (length ds) ≡ false → asking s z i j start ≡ refused (nowhere Class.NoDeclaration)
    asked_outside h = asked ∙ ap (λ (b : Bool). after (require b (nowhere Class.NoDeclaration) q) (λ _. λ p. done ds p)) h

  -- What is promised of a call that answers a and leaves some tables.
  abbrev pub Asked : Dependence → List ℕ → List ℕ → List ℕ → List ℕ → Type 0
  Asked a surface core declarations work = leaves a (tables surface core declarations work) ≡ ask s z i j

  promised : (o : Result (List Declaration)) (a : Dependence) (t : Tables) → asking s z i j start ≡ o → a ≡ answer_of s i j o → t ≡ (outcome s z o).tables → leaves a t ≡ ask s z i j
  unfolding ask
  promised o a t e h f = (λ k. leaves (h k) (f k)) ∙ ap (ask_outcome s i j z) (sym e)

  module _ (r : Answer) (surface core declarations work : List ℕ) (l : leaving r surface core declarations work ≡ load s z) where
    -- Loading refuses.
    pub ask_refused : (x : Refusal) → r ≡ Err x → Asked (Err x) surface core declarations work
    unfolding load
    ask_refused x e = by (loading s z start) refl l
      where
        by : (o : Result (List Declaration)) → loading s z start ≡ o → leaving r surface core declarations work ≡ outcome s z o → Asked (Err x) surface core declarations work
        by (refused y) f h =
            let a : r ≡ Err y = ap (λ (o : Outcome). o.answer) h in
            let g : x ≡ y = cc in
            promised (refused y) (Err x) (tables surface core declarations work) (asked_refused y f) (ap Err g) (ap (λ (o : Outcome). o.tables) h)
        by (done ds q) f h = absurd (let a : r ≡ loaded q.rows (length ds) = ap (λ (o : Outcome). o.answer) h in let z : ◌≡◌ {A = ℕ} 0 1 = cc in omega arith)

    module _ (rows count : ℕ) (e : r ≡ loaded rows count) where
      -- Both places are declarations: the work area is cleared again.
      pub ask_inside : ltb i count && ltb j count ≡ true
          → Asked (shown_row core declarations (marks_left core declarations j i work) i) surface core declarations (cleared (marks_left core declarations j i work) 0)
      unfolding load
      ask_inside t = by (loading s z start) refl l
        where
          by : (o : Result (List Declaration)) → loading s z start ≡ o → leaving r surface core declarations work ≡ outcome s z o
              → Asked (shown_row core declarations (marks_left core declarations j i work) i) surface core declarations (cleared (marks_left core declarations j i work) 0)
          by (refused y) f h = absurd (let a : r ≡ Err y = ap (λ (o : Outcome). o.answer) h in let z : ◌≡◌ {A = ℕ} 0 1 = cc in omega arith)
          by (done ds q) f h =
              let a : r ≡ loaded q.rows (length ds) = ap (λ (o : Outcome). o.answer) h in
              let n : count ≡ length ds = ap declaration_count (sym e ∙ a) in
              let u = subst (λ (n : ℕ). ltb i n && ltb j n ≡ true) n t in
              let both = (and-eq-true_iff (ltb i (length ds)) _).0 u in
              let hi : i < length ds = ltb-true i (length ds) both.0 in
              let hj : j < length ds = ltb-true j (length ds) both.1 in
              let room = places_fit s z ds q f in
              let g : marks_left core declarations j i work ≡ area s z ds q f j z.work room i =
              (λ k. marks_left (h k).tables.core (h k).tables.declarations j i (h k).tables.work) ∙ looked_at s z ds q f j z.work room i hi hj in
              let c : cleared (marks_left core declarations j i work) 0 ≡ pad z.work [] =
              cleared_pad (marks_left core declarations j i work) z.work _ g in
              promised (done ds q) _ _ (asked_inside ds q f u)
              ((λ k. shown_row (h k).tables.core (h k).tables.declarations (g k) i) ∙ answered s z ds q f j z.work room i hi hj)
              (λ k. tables (h k).tables.surface (h k).tables.core (h k).tables.declarations (c k))

      -- One of them is none: "12 dependence asked of a place that is no declaration, nowhere, after loading", and every table is cleared.
      pub ask_outside : ltb i count && ltb j count ≡ false → Asked (Err (nowhere Class.NoDeclaration)) (cleared surface 0) (cleared core 0) (cleared declarations 0) (cleared work 0)
      unfolding load
      ask_outside t = by (loading s z start) refl l
        where
          by : (o : Result (List Declaration)) → loading s z start ≡ o → leaving r surface core declarations work ≡ outcome s z o → Asked (Err (nowhere Class.NoDeclaration)) (cleared surface 0) (cleared core 0) (cleared declarations 0) (cleared work 0)
          by (refused y) f h = absurd (let a : r ≡ Err y = ap (λ (o : Outcome). o.answer) h in let z : ◌≡◌ {A = ℕ} 0 1 = cc in omega arith)
          by (done ds q) f h =
              let a : r ≡ loaded q.rows (length ds) = ap (λ (o : Outcome). o.answer) h in
              let n : count ≡ length ds = ap declaration_count (sym e ∙ a) in
              let u = subst (λ (n : ℕ). ltb i n && ltb j n ≡ false) n t in
              let b = cleared_pad surface z.surface _ (ap (λ (o : Outcome). o.tables.surface) h) in
              let c = cleared_pad core z.core _ (ap (λ (o : Outcome). o.tables.core) h) in
              let d = cleared_pad declarations z.declarations _ (ap (λ (o : Outcome). o.tables.declarations) h) in
              let g = cleared_pad work z.work _ (ap (λ (o : Outcome). o.tables.work) h) in
              promised (refused (nowhere Class.NoDeclaration)) (Err (nowhere Class.NoDeclaration)) _ (asked_outside ds q f u) refl (λ k. tables (b k) (c k) (d k) (g k))
