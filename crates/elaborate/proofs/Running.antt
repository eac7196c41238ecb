-- What work items come to: an argument's, a form's, and one that ends in a row.
use Prim.Native.Nat.{ℕ, zero, suc, ◌+◌, ◌-◌, ◌*◌}
use mathlib.Core.Path.{◌≡◌, refl, sym, ◌∙◌, ap, ap₂}
use mathlib.Core.List.{List, [], ◌∷◌, ◌++◌, append_assoc, append-nil}
use mathlib.Core.Bool.{Bool, true, false, cond}
use native.Mathlib.Omega.{arith}
use borrow.Author.Tests.{ne_eqb}
use lib.Dec.{ltb, eqb}
use lib.ListN.{length, take, drop, get_or, length-append}
use lib.Seq.{take_at, drop_at, length-take-le}
use Rattle.terms.specs.Forms.{universe, counts_as, arity_of, holds_span}
use Rattle.terms.specs.Resolution.{Locals, Core, kept, covers, locals_in, is_unknown}
use Rattle.terms.specs.Rows.{row, span, core_words}
use Rattle.terms.proofs.Arrow.{arity_counts}
use Rattle.terms.proofs.Spans.{core_of_kept}
use Rattle.terms.proofs.FormTable.{arity_universe, arity_ref}
use Rattle.rows.specs.Places.{stored_at}
use Rattle.rows.proofs.Arities.{arity_at_most_six}
use Rattle.stacks.specs.declared.Work.{Work}
use Rattle.elaborate.specs.RowTerm.{label_at, bound_at, six_at, children_at, TermOutcome, done, unknown_at, and_then, arguments, core_at, row_term}
use Rattle.elaborate.specs.Machine.{form_words, scheduled_one, scheduled, run}
use Rattle.elaborate.proofs.Finishing.{length_six}
use Rattle.elaborate.proofs.Visiting.{row_visit, visit_known}

seq : (o : TermOutcome) (f g h : List ℕ → TermOutcome) → ((c : List ℕ) → f c ≡ and_then (g c) h) → and_then o f ≡ and_then (and_then o g) h
unfolding and_then
seq (done c) f g h e = e c
seq (unknown_at a n) f g h e = refl

seq_done : (o : TermOutcome) (f h : List ℕ → TermOutcome) (g : List ℕ → List ℕ) → ((c : List ℕ) → h (g c) ≡ f c) → and_then (and_then o (λ c. done (g c))) h ≡ and_then o f
unfolding and_then
seq_done (done c) f h g e = e c
seq_done (unknown_at a n) f h g e = refl

-- A form's row has no span.
kept_words : (surface : List ℕ) (id : ℕ) (ids : List ℕ) → (arity_of (get_or surface (id * 8) 0) ≡ 0 → ⊥)
    → core_words (label_at surface id) kept ids ≡ form_words surface (counts_as (get_or surface (id * 8) 0)) id ids
kept_words surface id ids h =
    let l = label_at surface id in
    let e : eqb l.kind universe ≡ false = ne_eqb l.kind universe (λ q. h (ap arity_of q ∙ arity_universe)) in
    ap (λ (b : Bool). row (counts_as l.kind) (cond b (span l) [] ++ ids) l.offset) e

pub length_children : (surface : List ℕ) (id : ℕ) → length (children_at surface id) ≡ arity_of (get_or surface (id * 8) 0)
length_children surface id =
    let k = get_or surface (id * 8) 0 in
    length-take-le (arity_of k) (six_at surface id (holds_span k)) (omega (arith, length_six surface id (holds_span k), arity_at_most_six k))

module _ (s surface declarations : List ℕ) (rows d : ℕ) where
  abbrev R : ℕ → ℕ → Locals → List ℕ → TermOutcome
  R = row_term s surface declarations rows d

  abbrev runs : List Work → Locals → List ℕ → List ℕ → TermOutcome
  runs = run s surface declarations rows d

  run_one : (b : Bool) (form left id : ℕ) (works : List Work) (locals : Locals) (values core : List ℕ)
      → runs (scheduled_one b form left id works) locals values core
      ≡ and_then (R left id (cond b (bound_at s surface form ∷ locals) locals) core) (λ c. runs works locals (values ++ (id ∷ [])) c)
  unfolding run
  run_one true form left id works locals values core = refl
  run_one false form left id works locals values core = refl

  -- The arguments' work items come to the arguments in order.
  run_scheduled : (form left i : ℕ) (ids : List ℕ) (works : List Work) (locals : Locals) (values core : List ℕ) (ls : ℕ → Locals)
      → ((j : ℕ) → locals_in s (label_at surface form) locals (i + j) ≡ ls j)
      → runs (scheduled (get_or surface (form * 8) 0) form left i ids works) locals values core
      ≡ and_then (arguments (R left) ls ids core) (λ c. runs works locals (values ++ ids) c)
  unfolding scheduled arguments and_then
  run_scheduled form left i [] works locals values core ls e = ap (λ (v : List ℕ). runs works locals v core) (sym (append-nil values))
  run_scheduled form left i (id ∷ ids) works locals values core ls e =
      let l = label_at surface form in
      let x : locals_in s l locals i ≡ ls zero = ap (locals_in s l locals) (let q : i ≡ i + 0 = omega arith in q) ∙ e zero in
      let shift : (j : ℕ) → locals_in s l locals (suc i + j) ≡ ls (suc j) = λ j. ap (locals_in s l locals) (let q : suc i + j ≡ i + suc j = omega arith in q) ∙ e (suc j) in
      run_one (covers l.kind i) form left id _ locals values core
      ∙ ap (λ (y : Locals). and_then (R left id y core) (λ c. runs (scheduled l.kind form left (suc i) ids works) locals (values ++ (id ∷ [])) c)) x
      ∙ seq (R left id (ls zero) core) _ _ _
      (λ c. run_scheduled form left (suc i) ids works locals (values ++ (id ∷ [])) c (λ j. ls (suc j)) shift
      ∙ ap (λ (v : List ℕ). and_then (arguments (R left) (λ j. ls (suc j)) ids c) (λ x. runs works locals v x)) (append_assoc values (id ∷ []) ids))

  module _ (id : ℕ) (locals : Locals) (core : List ℕ) (works : List Work) (values : List ℕ) where
    pub run_row : (left : ℕ) (c : List ℕ) → R left id locals core ≡ done c → runs (Work.Eval id left ∷ works) locals values core ≡ runs works locals (values ++ (id ∷ [])) c
    unfolding run and_then
    run_row left c e = ap (λ (o : TermOutcome). and_then o (λ x. runs works locals (values ++ (id ∷ [])) x)) e

    pub run_unknown : (left a n : ℕ) → R left id locals core ≡ unknown_at a n → runs (Work.Eval id left ∷ works) locals values core ≡ unknown_at a n
    unfolding run and_then
    run_unknown left a n e = ap (λ (o : TermOutcome). and_then o (λ x. runs works locals (values ++ (id ∷ [])) x)) e

    -- A form comes to its arguments and then its row.
    pub run_form : (left : ℕ) → ltb id rows ≡ true → (arity_of (get_or surface (id * 8) 0) ≡ 0 → ⊥)
        → runs (Work.Eval id (suc left) ∷ works) locals values core
        ≡ runs (scheduled (get_or surface (id * 8) 0) id left 0 (children_at surface id) (Work.Build (counts_as (get_or surface (id * 8) 0)) id ∷ works)) locals values core
    unfolding run
    run_form left h z =
        let l = label_at surface id in
        let k = l.kind in
        let j = counts_as k in
        let ids = children_at surface id in
        let at = core_at s surface declarations rows d id locals in
        let kept_at : at ≡ kept = core_of_kept s locals _ l (λ e. z (ap arity_of e ∙ arity_ref)) in
        let n : length (values ++ ids) - arity_of j ≡ length values = omega (arith, length-append values ids, length_children surface id, arity_counts k) in
        let words : core_words l at ids ≡ form_words surface j id ids = ap (λ (x : Core). core_words l x ids) kept_at ∙ kept_words surface id ids z in
        ap (λ (o : TermOutcome). and_then o (λ x. runs works locals (values ++ (id ∷ [])) x))
        (row_visit s surface declarations rows d (suc left) id locals core ∙ visit_known s surface declarations rows d (R left) id locals core h (ap is_unknown kept_at))
        ∙ seq_done (arguments (R left) (locals_in s l locals) ids core) (λ c. runs (Work.Build j id ∷ works) locals (values ++ ids) c) _ _
        (λ c. ap₂ (λ (v w : List ℕ). runs works locals (v ++ (id ∷ [])) (stored_at 8 c id w))
        (sym (ap (λ (x : ℕ). take x (values ++ ids)) n ∙ take_at values ids (length values) refl))
        (words ∙ ap (form_words surface j id) (sym (ap (λ (x : ℕ). drop x (values ++ ids)) n ∙ drop_at values ids (length values) refl))))
        ∙ sym (run_scheduled id left 0 ids (Work.Build j id ∷ works) locals values core (locals_in s l locals) (λ j. ap (locals_in s l locals) (let q : 0 + j ≡ j = omega arith in q)))
