-- Open frames as words of the work area: eleven words a frame, from word 0 on.
use Rattle.std.specs.Prelude.{ℕ, zero, suc, ◌+◌, ◌*◌, ◌≤◌, List, [], ◌∷◌, length, get_or, take, set}
use Rattle.terms.specs.Label.{Label}
use Rattle.frames.specs.declared.TermFrame.{TermFrame}
use Rattle.tables.specs.Tables.{with_words}

-- A form that is open: what is kept of it, and the rows of the arguments that are complete.
pub record OpenFrame : Type 0 where
  pub label : Label
  pub children : List ℕ

-- The words of a frame that has no argument yet: the label, the count of arguments, and room for six rows.
abbrev pub new_frame : Label → List ℕ
new_frame l = l.kind ∷ l.start ∷ l.length ∷ l.offset ∷ 0 ∷ 0 ∷ 0 ∷ 0 ∷ 0 ∷ 0 ∷ 0 ∷ []

-- The frame whose words begin at word a.
abbrev pub frame_label : List ℕ → ℕ → Label
frame_label w a = record { kind = get_or w a 0; start = get_or w (a + 1) 0; length = get_or w (a + 2) 0; offset = get_or w (a + 3) 0 }

abbrev pub frame_args : List ℕ → ℕ → List ℕ
frame_args w a =
    get_or w (a + 5) 0 ∷ get_or w (a + 6) 0 ∷ get_or w (a + 7) 0 ∷ get_or w (a + 8) 0 ∷ get_or w (a + 9) 0 ∷ get_or w (a + 10) 0 ∷ []

-- How many arguments are complete.
abbrev pub frame_count : List ℕ → ℕ → ℕ
frame_count w a = get_or w (a + 4) 0

-- The frame number d, as the record that the code has, with all six rows.
abbrev pub term_frame : List ℕ → ℕ → TermFrame
term_frame w d = record { label = frame_label w (d * 11); args = frame_args w (d * 11); len = frame_count w (d * 11) }

-- The frame number d.
unfoldable pub frame_at : List ℕ → ℕ → OpenFrame
frame_at w d = record { label = frame_label w (d * 11); children = take (frame_count w (d * 11)) (frame_args w (d * 11)) }

-- The first d frames, the one opened last in front.
unfoldable pub open_frames : List ℕ → ℕ → List OpenFrame
open_frames w zero = []
open_frames w (suc d) = frame_at w d ∷ open_frames w d

-- The work area has the words of the frame number d.
abbrev pub HasFrame : List ℕ → ℕ → Type 0
HasFrame w d = d * 11 + 11 ≤ length w

-- The work area with one more frame.
unfoldable pub opened : List ℕ → ℕ → Label → List ℕ
opened w d l = with_words w (d * 11) (new_frame l)

-- The row of one more argument in the frame number d.
unfoldable pub pushed : List ℕ → ℕ → ℕ → List ℕ
pushed w d id = set (set w (d * 11 + 5 + frame_count w (d * 11)) id) (d * 11 + 4) (frame_count w (d * 11) + 1)
