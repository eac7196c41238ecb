-- What the plain reader's functions read, by the reading order of `surface`, and the answer for the rest of a form.
use Rattle.token.specs.declared.Class.{Class}
use Rattle.std.specs.Prelude.{Ok, Err, ◌≡◌, List, ◌++◌, Bool, cond, ℕ, suc, ◌+◌, max, ltb}
use Rattle.token.specs.declared.Token.{Token}
use Rattle.terms.specs.Forms.{arity_of}
use Rattle.terms.specs.Label.{Label}
use Rattle.terms.specs.Tree.{Forest, nil, Tree, roots, cells}
use Rattle.terms.specs.Rows.{row_holding}
use Rattle.surface.specs.Reader.{Result, done, refused, Reader, ◌>>=◌, pure, nowhere}
use Rattle.surface.specs.Reading.{Beginning, frame, beginning, closing, finish, several, term}
use Rattle.surface.specs.Sizes.{frames_of}
use Rattle.expects.specs.declared.Format.{Format}
use Rattle.expects.specs.Formats.{edition}
use Rattle.term_rows.specs.TermRows.{TermRead, read_term, stored_rows, pushed_row}

module _ (format : Format) (s : List ℕ) where
  abbrev pub begin : Reader Beginning
  begin = beginning (edition format) s

  abbrev pub close : Reader Token
  close = closing ((edition format).tokens s)

  -- The end of a form that misses no argument.
  abbrev pub form_end : Reader (Forest Label)
  form_end = do
    c ← close
    pure nil

  module _ (limit left : ℕ) where
    -- A term, where so many frames may still be opened.
    abbrev pub a_term : Reader (Tree Label)
    a_term = term begin close limit left

    -- So many arguments of a form.
    abbrev pub arguments : ℕ → Reader (Forest Label)
    arguments = several begin close limit a_term

    -- A form behind what it begins with.
    abbrev pub a_form : Label → Reader (Tree Label)
    a_form l = finish begin close limit arguments (frame l (arity_of l.kind))

    -- The arguments that a form misses, and its end.
    abbrev pub form_rest : ℕ → Reader (Forest Label)
    form_rest m = do
      a ← arguments m
      c ← close
      pure a

-- "8 surface row table (..) full when a completed term must be stored": the answer for a completed term behind n rows.
abbrev pub stored_term : ℕ → ℕ → ℕ → ℕ → TermRead
stored_term limit n at frames = cond (ltb n limit) (Ok (read_term n (n + 1) at frames)) (Err (nowhere Class.SurfaceFull))

-- The answer for the rest of a form with a label, of which the rows of some arguments are known, with so many frames open at most in these:
-- the arguments behind them have the rows from n on, and then comes the form's own.
abbrev pub ReadsRest : (ℕ → Bool) → ℕ → Label → List ℕ → ℕ → ℕ → List ℕ → Result (Forest Label) → TermRead → List ℕ → Type 0
ReadsRest holds limit l children frames n table (done a q) r table₁ =
    (r ≡ stored_term limit q.rows q.offset (suc (max frames (frames_of a))))
    × (table₁ ≡ pushed_row limit (stored_rows holds n table (cells n a)) q.rows (row_holding holds (record { label = l; children = children ++ roots n a })))
ReadsRest holds limit l children frames n table (refused x) r table₁ = r ≡ Err x
