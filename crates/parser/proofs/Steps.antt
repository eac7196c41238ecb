-- The steps of the frame reader, from what the functions that they call give.
use Rattle.expects.specs.declared.TermStart.{TermStart}
use Rattle.expects.specs.Answers.{Begun}
use Rattle.token.specs.declared.Class.{Class}
use Rattle.token.specs.Token.{Lexed}
use Rattle.std.specs.Prelude.{Some, None, Ok, Err}
use mathlib.Core.Path.{◌≡◌, sym, ◌∙◌, ap, subst}
use mathlib.Core.List.{List, [], ◌∷◌, ◌++◌}
use mathlib.Core.Bool.{Bool, true, false, cond}
use Prim.Native.Nat.{ℕ, suc, ◌+◌, ◌*◌, ◌≤◌, ◌<◌, min, max}
use native.Mathlib.Omega.{arith}
use native.Mathlib.Numerals.{add-one}
use lib.Dec.{ltb}
use lib.ListN.{length, take, length-take}
use Rattle.token.specs.declared.Token.{Token}
use Rattle.token.specs.declared.Refusal.{Refusal}
use Rattle.terms.specs.Forms.{arity_of}
use Rattle.terms.specs.Label.{Label}
use Rattle.terms.specs.Rows.{row_holding}
use Rattle.rows.proofs.Arities.{arity_at_most_six}
use Rattle.frames.proofs.OpenFrames.{frames_opened, frames_pushed}
use Rattle.frames.specs.declared.TermFrame.{TermFrame}
use Rattle.frames.specs.Frames.{frame_at, frame_count, frame_args, term_frame, open_frames, HasFrame, opened, pushed}
use Rattle.surface.specs.Reader.{nowhere}
use Rattle.surface.specs.Reading.{lexed}
use Rattle.expects.specs.Expects.{position_at, begun}
use Rattle.parser.specs.TermRows.{refused}
use Rattle.parser.specs.Machine.{Setting, TermStep, outcome, pushed_term, TermInside, Went, TermStepped, Bounded}
use Rattle.term_rows.specs.TermRows.{pushed_row}
use Rattle.parser.specs.declared.State.{State}
use Rattle.parser.proofs.States.{last_waits, others_wait, push_stepped, begin_refused, leaf_same, too_deep, open_went, more_went, close_refused, close_same}
use Rattle.parser.proofs.Readers.{Sound}

-- A state is inside for each number of frames that it has kept to.
pub inside_within : (s work : List ℕ) (st : State) → TermInside 512 s work st → (l : ℕ) → st.deepest ≤ l → l ≤ 512 → TermInside l s work st
inside_within s work st i l a b = record { source = i.source; area = omega (arith, i.area); at = i.at; rows = i.rows; depth = i.depth; deepest = a; waiting = i.waiting }

-- The storing of a row opens no frame.
pub pushed_bounded : (st : State) (limit n at d : ℕ) (r : TermStep) → st.deepest ≤ 512 → r ≡ pushed_term limit n at d st.deepest → Bounded st r
unfolding pushed_term
pushed_bounded st limit n at d r h e = subst (Bounded st) (sym e) (by (ltb n limit))
  where
    by : (t : Bool) → Bounded st (cond t (Ok (record { at = at; rows = n + 1; depth = d; deepest = st.deepest; value = Some n })) (Err (nowhere Class.SurfaceFull)))
    by true = (omega arith, h)
    by false = tt

module _ (s : List ℕ) (m : Setting) (sound : Sound s m) (table work : List ℕ) (st : State) (i : TermInside m.frames s work st) where
  -- A term is to be read, and x is what it begins with.
  module _ (x : Begun) (have : st.value ≡ None) (begins : (n : ℕ) → m.begin (position_at st.at n) ≡ begun n x) where
    begun_at : (y : Begun) → x ≡ y → m.begin (position_at st.at st.rows) ≡ begun st.rows y
    begun_at y e = begins st.rows ∙ ap (begun st.rows) e

    pub refused_step : (r : Refusal) → x ≡ Err r → outcome m table work st ≡ refused r
    refused_step r e = begin_refused s m table work st have r (begun_at _ e)

    pub leaf_step : (l : Label) (next : ℕ) (r : TermStep) (table₁ : List ℕ) → x ≡ Ok (TermStart.Leaf l next)
        → r ≡ pushed_term m.limit st.rows next st.depth st.deepest → table₁ ≡ pushed_row m.limit table st.rows (row_holding m.holds (record { label = l; children = [] }))
        → TermStepped s m table work st r table₁ work
    leaf_step l next r table₁ e q t =
        let b = begun_at _ e in
        let a = sound.begins _ _ _ b in
        push_stepped s m table work st l [] next st.depth work (leaf_same s m table work st have l next b) i a.past a.high i.depth i.area i.waiting r table₁ q t

    pub deep_step : (l : Label) (next : ℕ) → x ≡ Ok (TermStart.Frame l next) → m.frames ≤ st.depth → outcome m table work st ≡ refused (nowhere Class.Frames)
    deep_step l next e h = too_deep s m table work st have l _ next (begun_at _ e) h

    pub open_step : (l : Label) (next top : ℕ) (area : List ℕ) → x ≡ Ok (TermStart.Frame l next) → top ≡ max st.deepest (st.depth + 1) → area ≡ opened work st.depth l
        → length area ≡ length work
        → TermStepped s m table work st (Ok (record { at = next; rows = st.rows; depth = st.depth + 1; deepest = top; value = None })) table area
    open_step l next top area e u q k = (went, λ h. deep_step l next e (omega (arith, i.deepest)))
      where
        went : top ≤ m.frames → Went s m table work st (record { at = next; rows = st.rows; depth = st.depth + 1; deepest = top; value = None }) table area
        went h =
            let b = begun_at _ e in
            let a = sound.begins _ _ _ b in
            open_went s m table work st have sound.arities l _ next b (omega arith) i top area u a.past a.high k
            (ap (open_frames area) (add-one st.depth) ∙ ap (λ (w : List ℕ). open_frames w (suc st.depth)) q ∙ frames_opened work st.depth (omega (arith, i.area)) l)

  -- A term is complete, and the frame d, which is the last, takes it.
  module _ (d v : ℕ) (have : st.value ≡ Some v) (deep : st.depth ≡ suc d) where
    abbrev count : List ℕ → ℕ
    count w = frame_count w (d * 11)

    abbrev kind : List ℕ → ℕ
    kind w = (frame_at w d).label.kind

    counted : (w : List ℕ) → length (frame_at w d).children ≡ min (count w) 6
    unfolding frame_at
    counted w = length-take (count w) (frame_args w (d * 11))

    pub room : HasFrame work d
    room = omega (arith, i.area, i.depth, i.deepest)

    pub takes : count work < 6
    takes =
        let w = last_waits work st.depth d deep i.waiting in
        omega (arith, counted work, arity_at_most_six (kind work))

  module _ (d v : ℕ) (have : st.value ≡ Some v) (deep : st.depth ≡ suc d) (area : List ℕ) (q : area ≡ pushed work d v) where
    frames : open_frames area (suc d) ≡ record { label = (frame_at work d).label; children = (frame_at work d).children ++ (v ∷ []) } ∷ open_frames work d
    frames = ap (λ (v : List ℕ). open_frames v (suc d)) q ∙ frames_pushed work d (room d v have deep) v (takes d v have deep)

    pub more_step : count d v have deep area < arity_of (kind d v have deep area) → length area ≡ length work
        → TermStepped s m table work st (Ok (record { at = st.at; rows = st.rows; depth = st.depth; deepest = st.deepest; value = None })) table area
    more_step h k = ((λ _. more_went s m table work st d v have deep i area frames (omega (arith, counted d v have deep area)) k), λ l. absurd (omega (arith, l, i.deepest)))

    -- It was its last argument, and x is the token behind it.
    module _ (h : arity_of (kind d v have deep area) ≤ count d v have deep area) (x : Lexed) (closes : (n : ℕ) → m.close (position_at st.at n) ≡ lexed n x) where
      last : arity_of (kind d v have deep area) ≤ length (frame_at area d).children
      last = omega (arith, counted d v have deep area, arity_at_most_six (kind d v have deep area))

      pub unclosed_step : (r : Refusal) → x ≡ Err r → outcome m table work st ≡ refused r
      unclosed_step r e = close_refused s m table work st d v have deep i area frames last r (closes st.rows ∙ ap (lexed st.rows) e)

      pub close_step : (t : Token) (f : TermFrame) (r : TermStep) (table₁ : List ℕ) → x ≡ Ok t → f ≡ term_frame area d → length area ≡ length work
          → r ≡ pushed_term m.limit st.rows t.end d st.deepest
          → table₁ ≡ pushed_row m.limit table st.rows (row_holding m.holds (record { label = f.label; children = take f.len f.args }))
          → TermStepped s m table work st r table₁ area
      unfolding frame_at
      close_step t f r table₁ e g k z u =
          let b = closes st.rows ∙ ap (lexed st.rows) e in
          let a = sound.closes _ _ _ b in
          push_stepped s m table work st (frame_at area d).label (frame_at area d).children t.end d area (close_same s m table work st d v have deep i area frames last t t.end b)
          i a.past a.high (omega (arith, i.depth)) (omega arith) (others_wait s m table work st d v have deep i area frames) r table₁ z
          (u ∙ ap (λ (v : TermFrame). pushed_row m.limit table st.rows (row_holding m.holds (record { label = v.label; children = take v.len v.args }))) g)
