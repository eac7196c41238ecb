-- One step of the frame reader, said of a state and the tables.
use Rattle.token.specs.declared.Class.{Class}
use Rattle.std.specs.Prelude.{Some, None, Ok, Err}
use mathlib.Core.Path.{◌≡◌, refl, sym, ◌∙◌, ap, subst}
use mathlib.Core.List.{List, [], ◌∷◌, ◌++◌}
use mathlib.Core.Bool.{Bool, true, false}
use Prim.Native.Nat.{ℕ, suc, ◌+◌, ◌-◌, ◌*◌, ◌≤◌, ◌<◌, max}
use native.Mathlib.Omega.{arith}
use native.Mathlib.Numerals.{add-one}
use lib.Dec.{ltb}
use lib.ListN.{length, length-append}
use borrow.Author.Tests.{ltb-true, ltb-false, lt-ltb, le-ltb}
use Rattle.token.specs.declared.Token.{Token}
use Rattle.token.specs.declared.Refusal.{Refusal}
use Rattle.rows.specs.Places.{stored_at}
use Rattle.terms.specs.Forms.{arity_of}
use Rattle.terms.specs.Label.{Label}
use Rattle.terms.specs.Rows.{row_holding}
use Rattle.surface.specs.Reader.{Position, Result, Reader, nowhere}
use Rattle.surface.specs.Reading.{Beginning, leaf, frame}
use Rattle.frames.specs.Frames.{OpenFrame, frame_at, open_frames}
use Rattle.expects.specs.Expects.{position_at}
use Rattle.term_rows.proofs.Readers.{Arities}
use Rattle.parser.specs.TermRows.{RowResult, done, refused, store_row, close_row, term_rows, after_term, resume}
use Rattle.parser.specs.Machine.{Setting, TermStep, pending, outcome, weight, one_if, Waiting, TermInside, Went, TermStepped, pushed_term}
use Rattle.term_rows.specs.TermRows.{pushed_row}
use Rattle.parser.specs.declared.State.{State}
use Rattle.parser.proofs.Resume.{resume_refused, store_yes, store_no, term_refused, term_leaf, term_deep, term_frame, after_more, after_last}

module _ (limit : ℕ) (table : List ℕ) (n at d h : ℕ) (row : List ℕ) where
  pub pushed_yes : n < limit
      → (Ok (record { at = at; rows = n + 1; depth = d; deepest = h; value = Some n }) ≡ pushed_term limit n at d h) × (stored_at 8 table n row ≡ pushed_row limit table n row)
  unfolding pushed_term pushed_row
  pushed_yes k = let e = lt-ltb n limit k in (rw (e, pushed_term), rw (e, pushed_row))

  pub pushed_no : limit ≤ n → (Err (nowhere Class.SurfaceFull) ≡ pushed_term limit n at d h) × (table ≡ pushed_row limit table n row)
  unfolding pushed_term pushed_row
  pushed_no k = let e = le-ltb n limit k in (rw (e, pushed_term), rw (e, pushed_row))

-- Where frames are open, the last waits for an argument, and so do the others.
pub last_waits : (work : List ℕ) (depth d : ℕ) → depth ≡ suc d → Waiting (open_frames work depth)
    → (length (frame_at work d).children < arity_of (frame_at work d).label.kind) × Waiting (open_frames work d)
unfolding open_frames
last_waits work depth d e w = subst (λ (x : ℕ). Waiting (open_frames work x)) e w

module _ (s : List ℕ) (m : Setting) (table work : List ℕ) (st : State) where
  abbrev begin : Reader Beginning
  begin = m.begin

  abbrev close : Reader Token
  close = m.close

  abbrev limit : ℕ
  limit = m.limit

  abbrev holds : ℕ → Bool
  holds = m.holds

  abbrev here : Position
  here = position_at st.at st.rows

  -- What the first d frames of a work area still do, where that many are open.
  abbrev resumed : List ℕ → ℕ → RowResult → RowResult
  resumed area d o = resume begin close limit holds (m.frames - d) (open_frames area d) o

  abbrev stores : Label → List ℕ → ℕ → RowResult
  stores l children e = store_row begin close limit holds l children (position_at e st.rows) table

  -- A state that comes to the storing of a row, with the first d frames of a work area behind it.
  module _ (l : Label) (children : List ℕ) (e d : ℕ) (area : List ℕ) (same : outcome m table work st ≡ resumed area d (stores l children e)) where
    abbrev row : List ℕ
    row = row_holding holds (record { label = l; children = children })

    abbrev next_table : List ℕ
    next_table = stored_at 8 table st.rows row

    abbrev next_state : State
    next_state = record { at = e; rows = st.rows + 1; depth = d; deepest = st.deepest; value = Some st.rows }

    full : limit ≤ st.rows → outcome m table work st ≡ refused (nowhere Class.SurfaceFull)
    full h =
        same
        ∙ ap (resumed area d) (store_no begin close limit holds l children (position_at e st.rows) table h)
        ∙ resume_refused begin close limit holds (m.frames - d) (open_frames area d) (nowhere Class.SurfaceFull)

    stored : st.rows < limit → outcome m table work st ≡ outcome m next_table area next_state
    unfolding outcome pending
    stored h =
        let n = st.rows in
        same
        ∙ ap (resumed area d)
        (store_yes begin close limit holds l children (position_at e n) table h ∙ ap (λ (k : ℕ). done n (position_at e k) next_table) (sym (add-one n)))

    module _ (i : TermInside m.frames s work st) (a : st.at < e) (b : e ≤ length s) (f : d ≤ st.deepest) (k : m.frames * 11 ≤ length area)
        (w : Waiting (open_frames area d)) where
      store_went : st.rows < limit → Went s m table work st next_state next_table area
      store_went h = record {
        same = stored h;
        less = omega arith;
        inside = record { source = i.source; area = k; at = b; rows = omega arith; depth = f; deepest = i.deepest; waiting = w };
      }

      push_by : (t : Bool) → ltb st.rows limit ≡ t → TermStepped s m table work st (pushed_term limit st.rows e d st.deepest) (pushed_row limit table st.rows row) area
      unfolding pushed_term pushed_row
      push_by true q = rw (q, pushed_term, pushed_row) ((λ _. store_went (ltb-true st.rows limit q)), λ l. absurd (omega (arith, l, i.deepest)))
      push_by false q = rw (q, pushed_term, pushed_row) (full (ltb-false st.rows limit q))

      pub push_stepped : (r : TermStep) (table₁ : List ℕ) → r ≡ pushed_term limit st.rows e d st.deepest → table₁ ≡ pushed_row limit table st.rows row
          → TermStepped s m table work st r table₁ area
      push_stepped r table₁ q t = rw (q, t) (push_by (ltb st.rows limit) refl)

  abbrev waits : List OpenFrame → ℕ → ℕ → RowResult
  waits frs e d =
      resume begin close limit holds (m.frames - d) frs
      (term_rows begin close limit holds (m.frames - d) (position_at e st.rows) table)

  -- A step to a state that is to read a term for its last frame.
  waits_went : (frs : List OpenFrame) (e d h : ℕ) (area : List ℕ) → outcome m table work st ≡ waits frs e d → open_frames area d ≡ frs
      → TermInside m.frames s work st → st.at ≤ e → e ≤ length s → d ≤ h → h ≤ m.frames → length area ≡ length work → Waiting frs → 2 * (length s - e) < weight s st
      → Went s m table work st (record { at = e; rows = st.rows; depth = d; deepest = h; value = None }) table area
  unfolding outcome pending
  waits_went frs e d h area same q i a b f g k w less = record {
    same = same ∙ ap (λ (x : List OpenFrame). waits x e d) (sym q);
    less = omega arith;
    inside = record { source = i.source; area = omega arith; at = b; rows = omega arith; depth = f; deepest = g; waiting = subst Waiting (sym q) w };
  }

  -- A term is to be read.
  module _ (have : st.value ≡ None) where
    reads : outcome m table work st
        ≡ resumed work st.depth (term_rows begin close limit holds (m.frames - st.depth) here table)
    unfolding outcome pending
    reads = rw (have, outcome, pending)

    pub begin_refused : (r : Refusal) → begin here ≡ Result.refused r → outcome m table work st ≡ refused r
    begin_refused r q =
        reads ∙ ap (resumed work st.depth) (term_refused begin close limit holds here here table (m.frames - st.depth) r q)
        ∙ resume_refused begin close limit holds (m.frames - st.depth) (open_frames work st.depth) r

    pub leaf_same : (l : Label) (e : ℕ) → begin here ≡ Result.done (leaf l) (position_at e st.rows)
        → outcome m table work st ≡ resumed work st.depth (stores l [] e)
    leaf_same l e q =
        reads
        ∙ ap (resumed work st.depth) (term_leaf begin close limit holds here (position_at e st.rows) table (m.frames - st.depth) l q)

    pub too_deep : (l : Label) (n : ℕ) (e : ℕ) → begin here ≡ Result.done (frame l n) (position_at e st.rows) → m.frames ≤ st.depth
        → outcome m table work st ≡ refused (nowhere Class.Frames)
    too_deep l n e q h =
        let z : m.frames - st.depth ≡ 0 = omega arith in
        reads
        ∙ ap (resumed work st.depth)
        (ap (λ (f : ℕ). term_rows begin close limit holds f here table) z
        ∙ term_deep begin close limit holds here (position_at e st.rows) table l n q)
        ∙ resume_refused begin close limit holds (m.frames - st.depth) (open_frames work st.depth) (nowhere Class.Frames)

    module _ (arities : Arities begin) (l : Label) (n e : ℕ)
        (begun : begin here ≡ Result.done (frame l n) (position_at e st.rows)) (h : st.depth < m.frames) where
      opened_same : outcome m table work st ≡ waits (record { label = l; children = [] } ∷ open_frames work st.depth) e (st.depth + 1)
      unfolding resume
      opened_same =
          let f = m.frames - (st.depth + 1) in
          let z : m.frames - st.depth ≡ suc f = omega arith in
          reads
          ∙ ap (λ (x : ℕ). resume begin close limit holds x (open_frames work st.depth) (term_rows begin close limit holds x here table)) z
          ∙ ap (resume begin close limit holds (suc f) (open_frames work st.depth))
          (term_frame begin close limit holds arities f here (position_at e st.rows) table l n begun)

      pub open_went : (i : TermInside m.frames s work st) (top : ℕ) (area : List ℕ) → top ≡ max st.deepest (st.depth + 1) → st.at < e → e ≤ length s → length area ≡ length work
          → open_frames area (st.depth + 1) ≡ record { label = l; children = [] } ∷ open_frames work st.depth
          → Went s m table work st (record { at = e; rows = st.rows; depth = st.depth + 1; deepest = top; value = None }) table area
      open_went i top area u a b k q =
          let z = arities here (position_at e st.rows) l n begun in
          waits_went (record { label = l; children = [] } ∷ open_frames work st.depth) e (st.depth + 1) top area opened_same q i (omega arith) b (omega arith) (omega (arith, i.deepest)) k
          (omega arith, i.waiting) (omega arith)

  -- A term is complete and the frame d, which is the last, takes it.
  module _ (d v : ℕ) (have : st.value ≡ Some v) (deep : st.depth ≡ suc d) (i : TermInside m.frames s work st) (area : List ℕ)
      (pushed : open_frames area (suc d) ≡ record { label = (frame_at work d).label; children = (frame_at work d).children ++ (v ∷ []) } ∷ open_frames work d) where
    abbrev f : ℕ
    f = m.frames - suc d

    taken : outcome m table work st
        ≡ resume begin close limit holds (suc f) (open_frames work d)
        (after_term begin close limit holds (term_rows begin close limit holds f) (frame_at work d) (done v here table))
    unfolding outcome pending resume open_frames
    taken = rw (have, deep, outcome, pending, resume, open_frames)

    -- The frame with the term as one more argument.
    abbrev fr : OpenFrame
    fr = record { label = (frame_at work d).label; children = (frame_at work d).children ++ (v ∷ []) }

    the_frame : frame_at area d ≡ fr
    unfolding open_frames
    the_frame = cc

    the_others : open_frames area d ≡ open_frames work d
    unfolding open_frames
    the_others = cc

    abbrev waited : (length (frame_at work d).children < arity_of (frame_at work d).label.kind) × Waiting (open_frames work d)
    waited = last_waits work st.depth d deep i.waiting

    pub others_wait : Waiting (open_frames area d)
    others_wait = subst Waiting (sym the_others) waited.1

    pub more_went : length (frame_at area d).children < arity_of (frame_at area d).label.kind → length area ≡ length work
        → Went s m table work st (record { at = st.at; rows = st.rows; depth = st.depth; deepest = st.deepest; value = None }) table area
    unfolding resume
    more_went h k =
        let g : length fr.children < arity_of fr.label.kind = subst (λ (x : OpenFrame). length x.children < arity_of x.label.kind) the_frame h in
        let z : one_if st.value ≡ 1 = ap one_if have in
        subst (λ (x : ℕ). Went s m table work st (record { at = st.at; rows = st.rows; depth = x; deepest = st.deepest; value = None }) table area) (sym deep)
        (waits_went (fr ∷ open_frames work d) st.at (suc d) st.deepest area
        (taken
        ∙ ap (resume begin close limit holds (suc f) (open_frames work d))
        (after_more begin close limit holds (term_rows begin close limit holds f) (frame_at work d) v here table
        (omega (arith, length-append (frame_at work d).children (v ∷ [])))))
        pushed i (omega arith) i.at (omega (arith, i.depth)) i.deepest k (g, waited.1) (omega arith))

    module _ (h : arity_of (frame_at area d).label.kind ≤ length (frame_at area d).children) where
      last : outcome m table work st
          ≡ resumed area d (close_row begin close limit holds (frame_at area d).label (frame_at area d).children table (close here))
      last =
          let g : arity_of fr.label.kind ≤ length fr.children = subst (λ (x : OpenFrame). arity_of x.label.kind ≤ length x.children) the_frame h in
          let z : suc f ≡ m.frames - d = omega arith in
          taken
          ∙ ap (resume begin close limit holds (suc f) (open_frames work d))
          (after_last begin close limit holds (term_rows begin close limit holds f) (frame_at work d) v here table
          (omega (arith, waited.0, length-append (frame_at work d).children (v ∷ []))))
          ∙ (λ j. resume begin close limit holds (z j) (sym the_others j)
          (close_row begin close limit holds (sym the_frame j).label (sym the_frame j).children table (close here)))

      pub close_refused : (r : Refusal) → close here ≡ Result.refused r → outcome m table work st ≡ refused r
      unfolding close_row
      close_refused r q =
          last ∙ ap (λ (x : Result Token). resumed area d (close_row begin close limit holds (frame_at area d).label (frame_at area d).children table x)) q
          ∙ resume_refused begin close limit holds (m.frames - d) (open_frames area d) r

      pub close_same : (c : Token) (e : ℕ) → close here ≡ Result.done c (position_at e st.rows)
          → outcome m table work st ≡ resumed area d (stores (frame_at area d).label (frame_at area d).children e)
      unfolding close_row
      close_same c e q =
          last ∙ ap (λ (x : Result Token). resumed area d (close_row begin close limit holds (frame_at area d).label (frame_at area d).children table x)) q
