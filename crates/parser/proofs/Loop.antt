-- The loop that reads a term: the whole answer is what reading comes to from the present state.
use Rattle.token.specs.declared.Class.{Class}
use Rattle.std.specs.Prelude.{Some, Ok, Err}
use mathlib.Core.Path.{◌≡◌, refl, sym, ◌∙◌, ap, subst}
use mathlib.Core.List.{List}
use mathlib.Core.Bool.{Bool, true, false, and-eq-true_iff}
use Prim.Native.Nat.{ℕ, ◌-◌, ◌≤◌, ◌<◌}
use native.Mathlib.Omega.{arith}
use lib.Dec.{leb}
use lib.ListN.{length}
use borrow.Author.Tests.{leb-true, leb-false, le-leb}
use Rattle.token.specs.declared.Refusal.{Refusal}
use Rattle.terms.specs.Forms.{Edition, holds_span_in}
use Rattle.terms.specs.Label.{Label}
use Rattle.terms.specs.Tree.{nil, Tree, tree, next as next_row, cells}
use Rattle.surface.specs.Reader.{Position, Result, nowhere}
use Rattle.surface.specs.Sizes.{frames_of}
use Rattle.frames.specs.Frames.{open_frames}
use Rattle.expects.specs.declared.Format.{Format}
use Rattle.expects.specs.Formats.{edition}
use Rattle.expects.specs.Expects.{position_at}
use Rattle.term_rows.specs.TermRows.{TermRead, read_term, within, stored_rows, Reads, ReadsTerm as ReadsByLengths, TermBounds}
use Rattle.term_rows.proofs.Bounds.{within_bounds}
use Rattle.term_rows.proofs.Depth.{term_needs, term_reads}
use Rattle.parser.specs.TermRows.{RowResult, done, refused, term_rows, resume, as_rows}
use Rattle.parser.specs.Machine.{Setting, setting, pending, outcome, TermStep, TermInside, Went, Steps, first_state, ready, whole_term, ReadsTerm}
use Rattle.parser.specs.declared.State.{State}
use Rattle.parser.proofs.Readers.{setting_sound, whole_tree, whole_rows}

-- The test for the bounds and for the words of the frames.
module _ (s work : List ℕ) (at n : ℕ) where
  pub ready_by : 5632 ≤ length work → TermBounds s at n → ready (length s) (length work) at n ≡ true
  ready_by h b = rw (le-leb 5632 (length work) h, le-leb (length s) 4294967295 b.source, le-leb at (length s) b.inside, le-leb n at b.few)

  pub ready_inside : ready (length s) (length work) at n ≡ true → TermInside 512 s work (first_state at n)
  unfolding open_frames
  ready_inside e =
      let a = (and-eq-true_iff (leb 5632 (length work)) (within (length s) at n)).0 e in
      let b = within_bounds s at n a.1 in
      record {
        source = b.source;
        area = leb-true 5632 (length work) a.0;
        at = b.inside;
        rows = b.few;
        depth = omega arith;
        deepest = omega arith;
        waiting = tt;
      }

  -- What is promised by the lengths is promised of what is inside.
  pub as_inside : (E : Edition) (limit : ℕ) (table : List ℕ) (r : TermRead) (table₁ : List ℕ)
      → (5632 ≤ length work → ReadsByLengths E limit s table at n r table₁) → ReadsTerm E limit s table work at n r table₁
  as_inside E limit table r table₁ h i = h (omega (arith, i.area)) (record { source = i.source; inside = i.at; few = i.rows })

-- Reading a term from an offset on, behind n rows: the tables at the beginning, and now.
module _ (format : Format) (s : List ℕ) (limit : ℕ) (table₀ work₀ : List ℕ) (at n : ℕ) where
  -- What is read with, where so many frames may be open.
  abbrev with_frames : ℕ → Setting
  with_frames = setting (edition format) s limit

  abbrev whole : ℕ → RowResult
  whole l = whole_term (with_frames l) table₀ at n

  abbrev tree_read : ℕ → Result (Tree Label)
  tree_read l = whole_tree s (with_frames l) (setting_sound format s limit l) table₀ at n

  abbrev spans : ℕ → Bool
  spans = holds_span_in (edition format).forms

  -- With as many frames as were open, or more, reading comes to what is left; with fewer it comes to 7.
  pub record Reading (table work : List ℕ) (st : State) : Type 0 where
    pub inside : TermInside 512 s work st
    pub same : (l : ℕ) → st.deepest ≤ l → l ≤ 512 → whole l ≡ outcome (with_frames l) table work st
    pub deep : (l : ℕ) → l < st.deepest → whole l ≡ refused (nowhere Class.Frames)
    pub table_length : length table ≡ length table₀
    pub work_length : length work ≡ length work₀

  pub start : TermInside 512 s work₀ (first_state at n) → Reading table₀ work₀ (first_state at n)
  unfolding outcome pending resume open_frames
  start i = record {
    inside = i;
    same = λ l a b. let z : l ≡ l - 0 = omega arith in
        ap (λ (k : ℕ). term_rows (with_frames l).begin (with_frames l).close limit spans k (position_at at n) table₀) z;
    deep = λ l h. absurd (omega (arith, h));
    table_length = refl;
    work_length = refl;
  }

  rows_are : (l : ℕ) → whole l ≡ as_rows spans n table₀ (tree_read l)
  rows_are l = whole_rows s (with_frames l) (setting_sound format s limit l) table₀ at n

  needs : (l : ℕ) (p : Position) (t : Tree Label) → tree_read l ≡ Result.done t p → frames_of (tree t nil) ≤ l
  needs l p t e = term_needs (with_frames l).begin (with_frames l).close limit l (position_at at n) p t e

  reads : (l k : ℕ) (p : Position) (t : Tree Label) → tree_read l ≡ Result.done t p → frames_of (tree t nil) ≤ k → tree_read k ≡ Result.done t p
  reads l k p t e h = term_reads (with_frames l).begin (with_frames l).close limit (setting_sound format s limit l).arities l k (position_at at n) p t e h

  module _ (table work : List ℕ) (st : State) (r : Reading table work st) where
    -- A step that was made.
    module _ (step : TermStep) (table₁ work₁ : List ℕ) (made : Steps s with_frames table work st step table₁ work₁) where
      made_as : (x : TermStep) → step ≡ x → Steps s with_frames table work st x table₁ work₁
      made_as x e = subst (λ (y : TermStep). Steps s with_frames table work st y table₁ work₁) e made

      pub stopped : (x : Refusal) → step ≡ Err x → Reads spans n table₀ (tree_read 512) (Err x) table₁
      unfolding as_rows
      stopped x e = by (tree_read 512) (sym (rows_are 512) ∙ r.same 512 r.inside.deepest (omega arith) ∙ (made_as _ e).1 512 r.inside.deepest (omega arith))
        where
          by : (y : Result (Tree Label)) → as_rows spans n table₀ y ≡ refused x → Reads spans n table₀ y (Err x) table₁
          by (Result.refused c) i = ap {B = TermRead} Err (cc)
          by (Result.done t p) i = absurd (let z : ◌≡◌ {A = ℕ} 0 1 = cc in omega arith)

      module _ (st₁ : State) (e : step ≡ Ok st₁) where
        w : Steps s with_frames table work st (Ok st₁) table₁ work₁
        w = made_as _ e

        pub went : Went s (with_frames 512) table work st st₁ table₁ work₁
        went = (w.1 512 r.inside.deepest (omega arith)).0 w.0.1

        pub next : length table₁ ≡ length table → length work₁ ≡ length work → Reading table₁ work₁ st₁
        next j k = record {
          inside = went.inside;
          same = λ l a b. r.same l (omega (arith, w.0.0)) b ∙ ((w.1 l (omega (arith, w.0.0)) b).0 a).same;
          deep = λ l h. deeper l h (leb st.deepest l) refl;
          table_length = j ∙ r.table_length;
          work_length = k ∙ r.work_length;
        }
          where
            deeper : (l : ℕ) → l < st₁.deepest → (t : Bool) → leb st.deepest l ≡ t → whole l ≡ refused (nowhere Class.Frames)
            deeper l h true e =
                let a = leb-true st.deepest l e in
                let b : l ≤ 512 = omega (arith, w.0.1) in
                r.same l a b ∙ (w.1 l a b).1 h
            deeper l h false e = r.deep l (leb-false st.deepest l e)

    -- The tree that is read with as many frames as were open is read with 512, and has no fewer open.
    module _ (v : ℕ) (complete : st.value ≡ Some v) (closed : st.depth ≡ 0) where
      ends_at : whole st.deepest ≡ done v (position_at st.at st.rows) table
      unfolding outcome pending resume open_frames
      ends_at =
          r.same st.deepest (omega arith) r.inside.deepest ∙ rw (complete, closed, outcome, pending, resume, open_frames)

      abbrev Answer : Result (Tree Label) → Type 0
      Answer x = Reads spans n table₀ x (Ok (read_term v st.rows st.at st.deepest)) table

      least : (t : Tree Label) (p : Position) → tree_read st.deepest ≡ Result.done t p → st.deepest ≡ frames_of (tree t nil)
      unfolding as_rows
      least t p e = by (leb st.deepest (frames_of (tree t nil))) refl
        where
          by : (b : Bool) → leb st.deepest (frames_of (tree t nil)) ≡ b → st.deepest ≡ frames_of (tree t nil)
          by true h = omega (arith, leb-true st.deepest (frames_of (tree t nil)) h, needs st.deepest p t e)
          by false h =
              let i = rows_are (frames_of (tree t nil)) ∙ ap (as_rows spans n table₀) (reads st.deepest (frames_of (tree t nil)) p t e (omega arith)) in
              let j : refused (nowhere Class.Frames) ≡ as_rows spans n table₀ (Result.done t p) = sym (r.deep (frames_of (tree t nil)) (leb-false st.deepest (frames_of (tree t nil)) h)) ∙ i in
              absurd (let z : ◌≡◌ {A = ℕ} 0 1 = cc in omega arith)

      finished_by : (x : Result (Tree Label)) → tree_read st.deepest ≡ x → as_rows spans n table₀ x ≡ done v (position_at st.at st.rows) table → Answer (tree_read 512)
      unfolding as_rows
      finished_by (Result.refused c) e i = absurd (let z : ◌≡◌ {A = ℕ} 0 1 = cc in omega arith)
      finished_by (Result.done t p) e i =
          let d = least t p e in
          let a : v ≡ next_row n t.args = cc in
          let b : position_at st.at st.rows ≡ p = cc in
          let c : table ≡ stored_rows spans n table₀ (cells n (tree t nil)) = cc in
          subst Answer (sym (reads st.deepest 512 p t e (omega (arith, d, r.inside.deepest)))) ((λ j. Ok (read_term (a j) (b j).rows (b j).offset (d j))), c)

      pub finished : Answer (tree_read 512)
      finished = finished_by (tree_read st.deepest) refl (sym (rows_are st.deepest) ∙ ends_at)
