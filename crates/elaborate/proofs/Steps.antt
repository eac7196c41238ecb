-- Each work item's step: it comes to the same, there is less to do, and room for it.
use Rattle.std.specs.Prelude.{Result, Ok, Err}
use Prim.Native.Nat.{ℕ, zero, suc, ◌+◌, ◌-◌, ◌*◌, ◌≤◌, ◌<◌}
use mathlib.Core.Path.{◌≡◌, refl, sym, ◌∙◌, ap, ap₂, subst}
use mathlib.Core.List.{List, [], ◌∷◌, ◌++◌, map}
use native.Mathlib.Omega.{arith}
use borrow.Author.Tests.{lt-ltb, le-ltb}
use lib.ListN.{length, get_or, take, drop}
use Rattle.terms.specs.Forms.{ref, counts_as, arity_of}
use Rattle.terms.specs.Lookup.{Local}
use Rattle.terms.specs.Resolution.{Locals, Core, kept, locals_in, is_unknown}
use Rattle.terms.specs.Rows.{core_words}
use Rattle.terms.proofs.Arrow.{arity_counts}
use Rattle.terms.proofs.Spans.{core_of_kept}
use Rattle.terms.proofs.FormTable.{arity_ref}
use Rattle.rows.specs.Places.{stored_at}
use Rattle.rows.proofs.Arities.{arity_at_most_six}
use Rattle.scope.specs.Scope.{in_scope, local_names, declared_names}
use Rattle.stacks.specs.Stacks.{works_in, values_in, WorkPushed, LocalPushed}
use Rattle.stacks.specs.declared.Work.{Work}
use Rattle.stacks.proofs.Decoding.{length_works, length_values, values_below}
use Rattle.elaborate.specs.RowTerm.{row_word, label_at, children_at, TermOutcome, done, unknown_at, and_then, arguments, core_at, visit, row_term}
use Rattle.elaborate.specs.Machine.{form_words, outer, scheduled, run, Room, weight, RowDone, ReferenceDone, without_arguments, form_row, outcome, Went, WorkStepped}
use Rattle.elaborate.specs.declared.State.{State}
use Rattle.elaborate.specs.declared.UnknownName.{UnknownName}
use Rattle.elaborate.proofs.Visiting.{row_visit, visit_out, visit_unknown, visit_known, visit_leaf, inner}
use Rattle.elaborate.proofs.Running.{run_row, run_unknown, run_form, length_children}
use Rattle.elaborate.proofs.Rooms.{items, items_few, length_scheduled, room_scheduled, weight_positive, form_less}

-- The bounds that an Eval has room for.
pub eval_bounds : (work : List ℕ) (st : State) (id left : ℕ) → Room (Work.Eval id left ∷ works_in work st.works) st.values st.locals
    → (st.works + 7 * left ≤ 3584) × (st.values + 5 * left ≤ 2560) × (st.locals + left ≤ 512)
unfolding Room
eval_bounds work st id left h = (omega (arith, length_works work st.works, h.0), h.1, h.2)

pub build_bounds : (works : List Work) (v l k id : ℕ) → Room (Work.Build k id ∷ works) v l → (arity_of k ≤ v) × (v ≤ arity_of k + 2560) × (l ≤ 512)
unfolding Room
build_bounds works v l k id r = (r.0, r.1, r.2)

pub push_bound : (works : List Work) (v l form : ℕ) → Room (Work.PushLocal form ∷ works) v l → l < 512
unfolding Room
push_bound works v l form r = r.0

pub pop_bound : (works : List Work) (v l : ℕ) → Room (Work.PopLocal ∷ works) v l → 0 < l
unfolding Room
pop_bound works v l r = r.0

arguments_stop : (ids : List ℕ) (ls : ℕ → Locals) (core : List ℕ) → (ids ≡ [] → ⊥) → arguments (λ j l c. unknown_at 0 0) ls ids core ≡ unknown_at 0 0
unfolding arguments and_then
arguments_stop [] ls core h = absurd (h refl)
arguments_stop (id ∷ ids) ls core h = refl

abbrev names : List Local → Locals
names = map (λ y. y.name)

module _ (s surface declarations : List ℕ) (rows d : ℕ) (core work : List ℕ) (st : State) where
  abbrev locals : Locals
  locals = local_names s work st.locals

  abbrev values : List ℕ
  values = values_in work st.values

  abbrev works : List Work
  works = works_in work st.works

  abbrev W : List Work → State → List ℕ → List ℕ → Type 0
  W items st₁ core₁ work₁ = Went s surface declarations rows d items work st core st₁ core₁ work₁

  -- The state under another name.
  pub as_state : {items : List Work} {st₁ st₂ : State} {core₁ work₁ : List ℕ} → st₁ ≡ st₂ → W items st₂ core₁ work₁ → W items st₁ core₁ work₁
  as_state {items} {st₁} {st₂} {core₁} {work₁} e h = subst (λ (x : State). W items x core₁ work₁) (sym e) h

  module _ (id left : ℕ) (room : Room (Work.Eval id left ∷ works) st.values st.locals) where
    abbrev R : TermOutcome
    R = row_term s surface declarations rows d left id locals core

    -- The row is stored.
    finished : (words : List ℕ) (st₁ : State) (core₁ work₁ : List ℕ) → R ≡ done (stored_at 8 core id words) → RowDone id words st core work st₁ core₁ work₁
        → W (Work.Eval id left ∷ works) st₁ core₁ work₁
    unfolding weight Room
    finished words st₁ core₁ work₁ e r =
        let b = eval_bounds work st id left room in
        let p = r.value in
        let x = p.works st.works in
        let y = ap names (p.locals s st.locals (omega arith)) in
        subst (λ (z : State). W (Work.Eval id left ∷ works) z core₁ work₁) (sym r.state) (record {
          same =
              run_row s surface declarations rows d id locals core works values left _ e
              ∙ (λ i. run s surface declarations rows d (sym x i) (sym y i) (sym p.values i) (sym r.row i));
          less = omega (arith, ap weight x, weight_positive left);
          room = subst (λ (z : List Work). Room z (st.values + 1) st.locals) (sym x) room.3;
          fits = omega arith;
        })

    stops : (a n : ℕ) → R ≡ unknown_at a n → outcome s surface declarations rows d (Work.Eval id left ∷ works) work st core ≡ unknown_at a n
    stops a n e = run_unknown s surface declarations rows d id locals core works values left a n e

    abbrev Q : ℕ → Locals → List ℕ → TermOutcome
    Q = inner s surface declarations rows d left

    visits : R ≡ visit s surface declarations rows d Q id locals core
    visits = row_visit s surface declarations rows d left id locals core

    pub out_of_range : rows ≤ id → outcome s surface declarations rows d (Work.Eval id left ∷ works) work st core ≡ unknown_at 0 0
    out_of_range h = stops 0 0 (visits ∙ visit_out s surface declarations rows d Q id locals core (le-ltb id rows h))

    module _ (there : id < rows) where
      abbrev k : ℕ
      k = get_or surface (id * 8) 0

      pub reference_stepped : (step : Result State UnknownName) (core₁ work₁ : List ℕ) → k ≡ ref
          → ReferenceDone (core_at s surface declarations rows d id locals) (label_at surface id) id st core work step core₁ work₁
          → WorkStepped s surface declarations rows d (Work.Eval id left ∷ works) work st core step core₁ work₁
      reference_stepped (Ok st₁) core₁ work₁ e h =
          finished _ st₁ core₁ work₁
          (visits ∙ visit_leaf s surface declarations rows d Q id locals core (lt-ltb id rows there) h.0 (ap arity_of e ∙ arity_ref))
          h.1
      reference_stepped (Err u) core₁ work₁ e h =
          stops u.start u.length
          (visits ∙ visit_unknown s surface declarations rows d Q id locals core (lt-ltb id rows there) h.0
          ∙ ap₂ unknown_at (sym h.1) (sym h.2))

      -- A term that is kept.
      module _ (other : k ≡ ref → ⊥) where
        is_kept : core_at s surface declarations rows d id locals ≡ kept
        is_kept = core_of_kept s locals (declared_names s declarations 0 d) (label_at surface id) other

        pub leaf_stepped : (st₁ : State) (core₁ work₁ : List ℕ) → arity_of k ≡ 0 → RowDone id (core_words (label_at surface id) kept []) st core work st₁ core₁ work₁
            → W (Work.Eval id left ∷ works) st₁ core₁ work₁
        leaf_stepped st₁ core₁ work₁ z r =
            finished _ st₁ core₁ work₁
            (visits ∙ visit_leaf s surface declarations rows d Q id locals core (lt-ltb id rows there) (ap is_unknown is_kept) z
            ∙ ap (λ (c : Core). done (stored_at 8 core id (core_words (label_at surface id) c []))) is_kept)
            r

        pub too_deep : (arity_of k ≡ 0 → ⊥) → left ≡ 0 → outcome s surface declarations rows d (Work.Eval id left ∷ works) work st core ≡ unknown_at 0 0
        unfolding and_then
        too_deep z e =
            let f : List ℕ → TermOutcome = λ c. done (stored_at 8 c id (core_words (label_at surface id) (core_at s surface declarations rows d id locals) (children_at surface id))) in
            stops 0 0
            (visits ∙ visit_known s surface declarations rows d Q id locals core (lt-ltb id rows there) (ap is_unknown is_kept)
            ∙ ap (λ (o : TermOutcome). and_then o f)
            (ap (λ (n : ℕ). arguments (inner s surface declarations rows d n) (locals_in s (label_at surface id) locals) (children_at surface id) core) e
            ∙ arguments_stop (children_at surface id) _ core (λ q. z (sym (length_children surface id) ∙ ap length q))))

        pub form_stepped : (g t : ℕ) (work₁ : List ℕ) → (arity_of k ≡ 0 → ⊥) → left ≡ suc g
            → WorkPushed work work₁ t (scheduled k id g 0 (children_at surface id) (Work.Build (counts_as k) id ∷ works))
            → W (Work.Eval id left ∷ works) (record { works = t; values = st.values; locals = st.locals }) core work₁
        unfolding Room
        form_stepped g t work₁ z e p =
            let b = eval_bounds work st id left room in
            let ids = children_at surface id in
            let n = length_children surface id in
            let few = items_few k ids n in
            let small = arity_at_most_six k in
            let len = length_works work st.works in
            let x = p.works in
            let y = ap names (p.locals s st.locals (omega arith)) in
            let u = p.values st.values (omega arith) in
            let built = Work.Build (counts_as k) id ∷ works in
            let same = arity_counts k in
            record {
              same =
                  ap (λ (m : ℕ). run s surface declarations rows d (Work.Eval id m ∷ works) locals values core) e
                  ∙ run_form s surface declarations rows d id locals core works values g (lt-ltb id rows there) z
                  ∙ (λ i. run s surface declarations rows d (sym x i) (sym y i) (sym u i) core);
              less = subst (λ (l : List Work). weight l < weight (Work.Eval id left ∷ works)) (sym x)
                  (subst (λ (m : ℕ). weight (scheduled k id g 0 ids built) < weight (Work.Eval id m ∷ works)) (sym e)
                  (form_less k (counts_as k) g ids id works (omega arith)));
              room = subst (λ (l : List Work). Room l st.values st.locals) (sym x)
                  (room_scheduled k id g 0 ids built st.values st.locals (omega arith) (omega arith) (omega arith)
                  (omega arith, omega arith, omega arith, subst (λ (m : ℕ). Room works m st.locals) (omega arith) room.3));
              fits = omega (arith, length_works work₁ t, ap length x, length_scheduled k id g 0 ids built);
            }

  -- The other items.
  pub build_stepped : (k id : ℕ) (st₁ : State) (core₁ work₁ : List ℕ) → st.works ≤ 3754 → Room (Work.Build k id ∷ works) st.values st.locals
      → RowDone id (form_row surface k id st work) (without_arguments k st) core work st₁ core₁ work₁ → W (Work.Build k id ∷ works) st₁ core₁ work₁
  unfolding run Room weight
  build_stepped k id st₁ core₁ work₁ fits r h =
      let p = h.value in
      let b = st.values - arity_of k in
      let n : length values - arity_of k ≡ b = omega (arith, length_values work st.values) in
      let x = p.works st.works in
      let y = ap names (p.locals s st.locals r.2) in
      let back : st.values ≡ b + arity_of k = omega (arith, r.0) in
      let u : take (length values - arity_of k) values ++ (id ∷ []) ≡ values_in work₁ (b + 1) =
      ap (λ (m : ℕ). take m values ++ (id ∷ [])) n
      ∙ ap (λ (l : List ℕ). l ++ (id ∷ [])) (ap (λ (m : ℕ). take b (values_in work m)) back ∙ values_below work b (arity_of k)) ∙ sym p.values in
      let c : stored_at 8 core id (form_words surface k id (drop (length values - arity_of k) values)) ≡ core₁ =
      ap (λ (m : ℕ). stored_at 8 core id (form_words surface k id (drop m values))) n ∙ sym h.row in
      subst (λ (z : State). W (Work.Build k id ∷ works) z core₁ work₁) (sym h.state) (record {
        same = λ i. run s surface declarations rows d (sym x i) (sym y i) (u i) (c i);
        less = omega (arith, ap weight x);
        room = subst (λ (z : List Work). Room z (b + 1) st.locals) (sym x) r.3;
        fits = fits;
      })

  pub push_stepped : (form : ℕ) (work₁ : List ℕ) → st.works ≤ 3754 → Room (Work.PushLocal form ∷ works) st.values st.locals
      → LocalPushed work work₁ st.locals (get_or surface (form * 8) 0) (row_word surface form 1) (row_word surface form 2) form
      → W (Work.PushLocal form ∷ works) (record { works = st.works; values = st.values; locals = st.locals + 1 }) core work₁
  unfolding run Room weight
  push_stepped form work₁ fits r p =
      let x = p.works st.works in
      record {
        same = λ i. run s surface declarations rows d (sym x i) (sym (ap names (p.locals s)) i) (sym (p.values st.values) i) core;
        less = omega (arith, ap weight x);
        room = subst (λ (z : List Work). Room z st.values (st.locals + 1)) (sym x) r.1;
        fits = fits;
      }

  outer_names : (l : ℕ) → 0 < l → outer (local_names s work l) ≡ local_names s work (l - 1)
  unfolding in_scope
  outer_names zero h = absurd (omega arith)
  outer_names (suc l) h = ap (local_names s work) (let z : l ≡ suc l - 1 = omega arith in z)

  pub pop_stepped : st.works ≤ 3754 → Room (Work.PopLocal ∷ works) st.values st.locals
      → W (Work.PopLocal ∷ works) (record { works = st.works; values = st.values; locals = st.locals - 1 }) core work
  unfolding run Room weight
  pop_stepped fits r = record {
    same = ap (λ (l : Locals). run s surface declarations rows d works l values core) (outer_names st.locals r.0);
    less = omega arith;
    room = r.1;
    fits = fits;
  }

-- The state without the item on top.
abbrev pub below : State → State
below st = record { works = st.works - 1; values = st.values; locals = st.locals }

-- The item on top of the others.
pub top_item : (w : List ℕ) (st : State) (item : Work) → 0 < st.works → works_in w (st.works - 1 + 1) ≡ item ∷ works_in w (st.works - 1)
    → works_in w st.works ≡ item ∷ works_in w (st.works - 1)
top_item w st item h e = ap (works_in w) (let z : st.works ≡ st.works - 1 + 1 = omega arith in z) ∙ e

module _ (s surface declarations : List ℕ) (rows d : ℕ) (core work : List ℕ) (st : State) (items : List Work) (e : works_in work st.works ≡ items) where
  pub top_room : Room (works_in work st.works) st.values st.locals → Room items st.values st.locals
  top_room r = subst (λ (x : List Work). Room x st.values st.locals) e r

  pub top_stepped : (step : Result State UnknownName) (core₁ work₁ : List ℕ) → WorkStepped s surface declarations rows d items work (below st) core step core₁ work₁
      → WorkStepped s surface declarations rows d (works_in work st.works) work st core step core₁ work₁
  top_stepped (Ok st₁) core₁ work₁ h = record {
    same = ap (λ (x : List Work). outcome s surface declarations rows d x work st core) e ∙ h.same;
    less = subst (λ (x : List Work). weight (works_in work₁ st₁.works) < weight x) (sym e) h.less;
    room = h.room;
    fits = h.fits;
  }
  top_stepped (Err u) core₁ work₁ h = ap (λ (x : List Work). outcome s surface declarations rows d x work st core) e ∙ h
