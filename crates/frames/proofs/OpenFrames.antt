-- The open frames after one more was opened, and after the last took an argument.
use Prim.Native.Nat.{ℕ, zero, suc, ◌+◌, ◌*◌, ◌≤◌, ◌<◌}
use mathlib.Core.Path.{◌≡◌, refl, sym, ap, ap₂, ◌∙◌}
use mathlib.Core.List.{List, [], ◌∷◌, ◌++◌}
use native.Mathlib.Decide.{ℕ_discrete}
use native.Mathlib.Nat.{add-zero, add_assoc}
use native.Mathlib.Numerals.{add-one}
use native.Mathlib.Omega.{arith}
use lib.ListN.{length, get_or, take, set, length-set, length-take}
use lib.Seq.{get_or-set_same, get_or-set_other, take-suc-set, length-take-le, ext_get_or}
use Rattle.terms.specs.Label.{Label}
use Rattle.tables.specs.Tables.{with_words}
use Rattle.tables.proofs.Stored as tables
use Rattle.frames.specs.Frames.{OpenFrame, new_frame, frame_args, frame_count, frame_at, open_frames, HasFrame, opened, pushed}

-- A frame is its eleven words, and the first d frames are the words in front of the next.
same_frame : (v w : List ℕ) (d : ℕ) → ((i : ℕ) → i < d * 11 + 11 → get_or v i 0 ≡ get_or w i 0) → frame_at v d ≡ frame_at w d
unfolding frame_at
same_frame v w d f =
    let a = d * 11 in
    λ i. record {
      label = record {
        kind = f a (omega arith) i;
        start = f (a + 1) (omega arith) i;
        length = f (a + 2) (omega arith) i;
        offset = f (a + 3) (omega arith) i;
      };
      children = take (f (a + 4) (omega arith) i)
          (f (a + 5) (omega arith) i ∷ f (a + 6) (omega arith) i ∷ f (a + 7) (omega arith) i ∷ f (a + 8) (omega arith) i ∷
          f (a + 9) (omega arith) i ∷ f (a + 10) (omega arith) i ∷ []);
    }

pub same_frames : (v w : List ℕ) (d : ℕ) → ((i : ℕ) → i < d * 11 → get_or v i 0 ≡ get_or w i 0) → open_frames v d ≡ open_frames w d
unfolding open_frames
same_frames v w zero f = refl
same_frames v w (suc d) f = ap₂ (λ (x : OpenFrame) (l : List OpenFrame). x ∷ l)
    (same_frame v w d (λ i h. f i (omega arith)))
    (same_frames v w d (λ i h. f i (omega arith)))

-- Argument i of a frame that begins at word a.
arg_at : (w : List ℕ) (a i : ℕ) → i < 6 → get_or (frame_args w a) i 0 ≡ get_or w (a + 5 + i) 0
arg_at w a zero h = rw add_assoc
arg_at w a (suc zero) h = rw add_assoc
arg_at w a (suc (suc zero)) h = rw add_assoc
arg_at w a (suc (suc (suc zero))) h = rw add_assoc
arg_at w a (suc (suc (suc (suc zero)))) h = rw add_assoc
arg_at w a (suc (suc (suc (suc (suc zero))))) h = rw add_assoc
arg_at w a (suc (suc (suc (suc (suc (suc i)))))) h = absurd (omega arith)

-- The count is that of the children, unless it is more than six.
module _ (w : List ℕ) (d : ℕ) where
  pub length_children : frame_count w (d * 11) ≤ 6 → length (frame_at w d).children ≡ frame_count w (d * 11)
  unfolding frame_at
  length_children h = length-take-le (frame_count w (d * 11)) (frame_args w (d * 11)) h

  pub count_children : length (frame_at w d).children < 6 → frame_count w (d * 11) ≡ length (frame_at w d).children
  unfolding frame_at
  count_children h = omega (arith, length-take (frame_count w (d * 11)) (frame_args w (d * 11)))

-- A work area with the words of one more frame.
module _ (w : List ℕ) (d : ℕ) (room : HasFrame w d) where
  module _ (l : Label) where
    opened_words : opened w d l ≡ with_words w (d * 11) (new_frame l)
    unfolding opened
    opened_words = refl

    word_opened : (i : ℕ) → i < 11 → get_or (opened w d l) (d * 11 + i) 0 ≡ get_or (new_frame l) i 0
    word_opened i k = ap (λ (v : List ℕ). get_or v (d * 11 + i) 0) opened_words ∙ tables.word_stored w (d * 11) (new_frame l) (omega arith) i k

    pub frame_opened : frame_at (opened w d l) d ≡ record { label = l; children = [] }
    unfolding frame_at
    frame_opened =
        let kind = ap (λ (i : ℕ). get_or (opened w d l) i 0) (sym (add-zero (d * 11))) ∙ word_opened 0 (omega arith) in
        λ i. record {
          label = record {
            kind = kind i;
            start = word_opened 1 (omega arith) i;
            length = word_opened 2 (omega arith) i;
            offset = word_opened 3 (omega arith) i;
          };
          children = take (word_opened 4 (omega arith) i) (frame_args (opened w d l) (d * 11));
        }

    -- The frames below stay.
    pub below_opened : open_frames (opened w d l) d ≡ open_frames w d
    below_opened =
        ap (λ (v : List ℕ). open_frames v d) opened_words
        ∙ same_frames (with_words w (d * 11) (new_frame l)) w d (tables.word_in_front w (d * 11) (new_frame l) (omega arith))

    pub frames_opened : open_frames (opened w d l) (suc d) ≡ record { label = l; children = [] } ∷ open_frames w d
    unfolding open_frames
    frames_opened = ap₂ (λ (f : OpenFrame) (fs : List OpenFrame). f ∷ fs) frame_opened below_opened

    pub length_opened : length (opened w d l) ≡ length w
    length_opened = ap length opened_words ∙ tables.length_stored w (d * 11) (new_frame l) (omega arith)

  abbrev a : ℕ
  a = d * 11

  abbrev n : ℕ
  n = frame_count w a

  module _ (id : ℕ) (k : n < 6) where
    abbrev v : List ℕ
    v = pushed w d id

    abbrev with_row : List ℕ
    with_row = set w (a + 5 + n) id

    pushed_words : v ≡ set with_row (a + 4) (n + 1)
    unfolding pushed
    pushed_words = refl

    pub length_pushed : length v ≡ length w
    length_pushed = ap length pushed_words ∙ simp length-set

    pub count_pushed : frame_count v a ≡ n + 1
    count_pushed =
        ap (λ (l : List ℕ). get_or l (a + 4) 0) pushed_words ∙ get_or-set_same with_row (a + 4) (n + 1) 0 (simp length-set (omega arith))

    word_pushed : (i : ℕ) → (i ≡ a + 4 → ⊥) → get_or v i 0 ≡ get_or with_row i 0
    word_pushed i c = ap (λ (l : List ℕ). get_or l i 0) pushed_words ∙ get_or-set_other with_row (a + 4) i (n + 1) 0 c

    word_kept : (i : ℕ) → (i ≡ a + 4 → ⊥) → (i ≡ a + 5 + n → ⊥) → get_or v i 0 ≡ get_or w i 0
    word_kept i c e = word_pushed i c ∙ get_or-set_other w (a + 5 + n) i id 0 e

    -- The words in front of the count.
    word_before : (i : ℕ) → i < a + 4 → get_or v i 0 ≡ get_or w i 0
    word_before i j = word_kept i (λ q. omega arith) (λ q. omega arith)

    arg_pushed : (i : ℕ) → i < 6 → Dec (i ≡ n) → get_or v (a + 5 + i) 0 ≡ get_or (set (frame_args w a) n id) i 0
    arg_pushed i j (yes e) =
        word_pushed (a + 5 + i) (λ q. omega arith)
        ∙ ap (λ (m : ℕ). get_or with_row (a + 5 + m) 0) e
        ∙ get_or-set_same w (a + 5 + n) id 0 (omega arith)
        ∙ sym (get_or-set_same (frame_args w a) n id 0 k)
        ∙ ap (λ (m : ℕ). get_or (set (frame_args w a) n id) m 0) (sym e)
    arg_pushed i j (no e) =
        word_kept (a + 5 + i) (λ q. omega arith) (λ q. e (omega arith))
        ∙ sym (arg_at w a i j)
        ∙ sym (get_or-set_other (frame_args w a) n i id 0 e)

    args_pushed : frame_args v a ≡ set (frame_args w a) n id
    args_pushed =
        ext_get_or 0 (frame_args v a) (set (frame_args w a) n id) (sym (length-set (frame_args w a) n id))
        (λ i j. arg_at v a i j ∙ arg_pushed i j (ℕ_discrete i n))

    pub frame_pushed : frame_at v d ≡ record { label = (frame_at w d).label; children = (frame_at w d).children ++ (id ∷ []) }
    unfolding frame_at
    frame_pushed =
        let children = ap₂ take (count_pushed ∙ add-one n) args_pushed ∙ take-suc-set (frame_args w a) n id k in
        λ i. record {
          label = record {
            kind = word_before a (omega arith) i;
            start = word_before (a + 1) (omega arith) i;
            length = word_before (a + 2) (omega arith) i;
            offset = word_before (a + 3) (omega arith) i;
          };
          children = children i;
        }

    -- The frames below stay.
    pub below_pushed : open_frames v d ≡ open_frames w d
    below_pushed = same_frames v w d (λ i j. word_before i (omega arith))

    pub frames_pushed :
        open_frames v (suc d) ≡ record { label = (frame_at w d).label; children = (frame_at w d).children ++ (id ∷ []) } ∷ open_frames w d
    unfolding open_frames
    frames_pushed = ap₂ (λ (f : OpenFrame) (fs : List OpenFrame). f ∷ fs) frame_pushed below_pushed
