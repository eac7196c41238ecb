-- The frame reader's states: what reading comes to from a state, what each step keeps, and the answer for a whole term.
use Rattle.token.specs.declared.Class.{Class}
use Rattle.std.specs.Prelude.{◌≡◌, List, [], ◌∷◌, Bool, cond, ◌&&◌, ℕ, ◌+◌, ◌-◌, ◌*◌, ◌≤◌, ◌<◌, ltb, leb, length, Option, Some, None, Result, Ok, Err}
use Rattle.token.specs.declared.Token.{Token}
use Rattle.token.specs.declared.Refusal.{Refusal}
use Rattle.terms.specs.Forms.{Edition, arity_of, holds_span_in}
use Rattle.surface.specs.Reader.{Position, Reader, nowhere}
use Rattle.surface.specs.Reading.{Beginning, beginning, closing, term}
use Rattle.frames.specs.Frames.{OpenFrame, open_frames}
use Rattle.expects.specs.Expects.{position_at}
use Rattle.term_rows.specs.TermRows.{TermRead, Reads, within}
use Rattle.parser.specs.TermRows.{RowResult, done, refused, term_rows, resume}
use Rattle.parser.specs.declared.State.{State}

-- A step of reading a term: the next state, or the refusal.
abbrev pub TermStep : Type 0
TermStep = Result State Refusal

-- What the machine reads with: the readers of what a term begins with and of what closes a form, how many rows there is room for,
-- the kinds whose rows hold a start and a length, and how many frames may be open in one term.
pub record Setting : Type 0 where
  pub begin : Reader Beginning
  pub close : Reader Token
  pub limit : ℕ
  pub holds : ℕ → Bool
  pub frames : ℕ

abbrev pub setting : Edition → List ℕ → ℕ → ℕ → Setting
setting E s limit frames = record { begin = beginning E s; close = closing (E.tokens s); limit = limit; holds = holds_span_in E.forms; frames = frames }

-- What stands in front of the open frames: a complete term, or one that is to be read, where so many frames may still be opened.
unfoldable pub pending : Setting → ℕ → Option ℕ → Position → List ℕ → RowResult
pending m f (Some value) p w = done value p w
pending m f None p w = term_rows m.begin m.close m.limit m.holds f p w

-- What reading comes to from a state, with the table of rows and the work area: first what is pending, then the open frames.
unfoldable pub outcome : Setting → List ℕ → List ℕ → State → RowResult
outcome m table work st =
    resume m.begin m.close m.limit m.holds (m.frames - st.depth) (open_frames work st.depth)
    (pending m (m.frames - st.depth) st.value (position_at st.at st.rows) table)

-- "8 surface row table (..) full when a completed term must be stored": the step that stores a completed term as the next row,
-- with so many frames open behind it.
unfoldable pub pushed_term : ℕ → ℕ → ℕ → ℕ → ℕ → TermStep
pushed_term limit n at d deepest =
    cond (ltb n limit) (Ok (record { at = at; rows = n + 1; depth = d; deepest = deepest; value = Some n })) (Err (nowhere Class.SurfaceFull))

-- A number that falls with each step: a step reads a token, or hands a complete term to its frame.
abbrev pub one_if : Option ℕ → ℕ
one_if (Some value) = 1
one_if None = 0

abbrev pub weight : List ℕ → State → ℕ
weight s st = 2 * (length s - st.at) + one_if st.value

-- Every open frame waits for an argument.
abbrev pub Waiting : List OpenFrame → Type 0
Waiting [] = Unit {0}
Waiting (f ∷ l) = (length f.children < arity_of f.label.kind) × Waiting l

-- Where reading may go on: the words of a row hold offsets and counts, and the work area has the words of so many frames.
pub record TermInside (frames : ℕ) (s work : List ℕ) (st : State) : Type 0 where
  pub source : length s ≤ 4294967295
  pub area : frames * 11 ≤ length work
  pub at : st.at ≤ length s
  pub rows : st.rows ≤ st.at
  pub depth : st.depth ≤ st.deepest
  pub deepest : st.deepest ≤ frames
  pub waiting : Waiting (open_frames work st.depth)

-- A step from one state to the next: reading comes to the same.
pub record Went (s : List ℕ) (m : Setting) (table work : List ℕ) (st st₁ : State) (table₁ work₁ : List ℕ) : Type 0 where
  pub same : outcome m table work st ≡ outcome m table₁ work₁ st₁
  pub less : weight s st₁ < weight s st
  pub inside : TermInside m.frames s work₁ st₁

-- Where so many frames may be open: a step that opens one more than that comes to 7.
abbrev pub TermStepped : List ℕ → Setting → List ℕ → List ℕ → State → TermStep → List ℕ → List ℕ → Type 0
TermStepped s m table work st (Ok st₁) table₁ work₁ =
    (st₁.deepest ≤ m.frames → Went s m table work st st₁ table₁ work₁) × (m.frames < st₁.deepest → outcome m table work st ≡ refused (nowhere Class.Frames))
TermStepped s m table work st (Err r) table₁ work₁ = outcome m table work st ≡ refused r

-- "7 more than 512 frames open in one term": a step never opens more, and the most that were open stays.
abbrev pub Bounded : State → TermStep → Type 0
Bounded st (Ok st₁) = (st.deepest ≤ st₁.deepest) × (st₁.deepest ≤ 512)
Bounded st (Err r) = Unit {0}

-- A step, for each number of frames that the reading so far has kept to: how many were open at most is the least of these.
abbrev pub Steps : List ℕ → (ℕ → Setting) → List ℕ → List ℕ → State → TermStep → List ℕ → List ℕ → Type 0
Steps s m table work st r table₁ work₁ = Bounded st r × ((l : ℕ) → st.deepest ≤ l → l ≤ 512 → TermStepped s (m l) table work st r table₁ work₁)

-- A whole type or body from an offset on, behind n rows.
abbrev pub whole_term : Setting → List ℕ → ℕ → ℕ → RowResult
whole_term m table at n = term_rows m.begin m.close m.limit m.holds m.frames (position_at at n) table

-- The state in which its reading begins.
abbrev pub first_state : ℕ → ℕ → State
first_state at n = record { at = at; rows = n; depth = 0; deepest = 0; value = None }

-- Whether it is inside, by the lengths of the source and of the work area.
abbrev pub ready : ℕ → ℕ → ℕ → ℕ → Bool
ready source area at n = leb 5632 area && within source at n

-- r is the answer for it, where it is inside.
abbrev pub ReadsTerm : Edition → ℕ → List ℕ → List ℕ → List ℕ → ℕ → ℕ → TermRead → List ℕ → Type 0
ReadsTerm E limit s table work at n r table₁ =
    TermInside 512 s work (first_state at n) → Reads (holds_span_in E.forms) n table (term (beginning E s) (closing (E.tokens s)) limit 512 (position_at at n)) r table₁
