-- Terms read straight into a table of rows: the reading order of `surface`, with each completed term stored as a row of words. The contracts
-- of the frame reader's steps cite it; the law in proofs/ says that it stores the rows of the tree that the reading order gives.
use Rattle.token.specs.declared.Class.{Class}
use Rattle.std.specs.Prelude.{List, [], ◌∷◌, ◌++◌, Bool, true, false, ℕ, zero, suc, ◌-◌, ltb, length}
use Rattle.token.specs.declared.Token.{Token}
use Rattle.token.specs.declared.Refusal.{Refusal}
use Rattle.terms.specs.Forms.{arity_of}
use Rattle.terms.specs.Label.{Label}
use Rattle.terms.specs.Tree.{Tree, nil, tree, next, cells}
use Rattle.terms.specs.Rows.{row_holding}
use Rattle.surface.specs.Reader.{Position, Result, Reader, nowhere}
use Rattle.surface.specs.Reading.{Beginning, leaf, frame}
use Rattle.rows.specs.Places.{stored_at}
use Rattle.frames.specs.Frames.{OpenFrame}
use Rattle.term_rows.specs.TermRows.{stored_rows}

-- A term that was read: its row, where reading goes on, and the table; or the refusal.
pub data RowResult : Type 0 where
  done : (row : ℕ) → Position → (table : List ℕ) → RowResult
  refused : Refusal → RowResult

-- Given the readers of what a term begins with and of what closes a form, the number of rows that there is room for, and the kinds whose
-- rows hold a start and a length.
module _ (beginning : Reader Beginning) (close : Reader Token) (limit : ℕ) (holds : ℕ → Bool) where
  -- A completed term becomes the next row. Storing is total: what the table has no place for is only counted.
  unfoldable pub store_row : Label → List ℕ → Position → List ℕ → RowResult
  store_row l children p w =
      elim (ltb p.rows limit) [
        | true ↦ done p.rows (record { offset = p.offset; rows = suc p.rows }) (stored_at 8 w p.rows (row_holding holds (record { label = l; children = children })))
        | false ↦ refused (nowhere Class.SurfaceFull)
      ]

  unfoldable pub close_row : Label → List ℕ → List ℕ → Result Token → RowResult
  close_row l children w (Result.done c p) = store_row l children p w
  close_row l children w (Result.refused r) = refused r

  -- The m arguments that are missing, given the reader of a term, and then the closing parenthesis.
  unfoldable pub rest_rows : (Position → List ℕ → RowResult) → ℕ → Label → List ℕ → Position → List ℕ → RowResult
  rest_rows R zero l children p w = close_row l children w (close p)
  rest_rows R (suc m) l children p w =
      elim (R p w) [ refused r ↦ refused r | done id q v ↦ rest_rows R m l (children ++ (id ∷ [])) q v ]

  unfoldable pub begin_row : (Label → ℕ → Position → List ℕ → RowResult) → List ℕ → Result Beginning → RowResult
  begin_row R w (Result.refused r) = refused r
  begin_row R w (Result.done (leaf l) p) = store_row l [] p w
  begin_row R w (Result.done (frame l n) p) = R l n p w

  -- A term, where so many frames may still be opened.
  unfoldable pub term_rows : ℕ → Position → List ℕ → RowResult
  term_rows zero p w = begin_row (λ l n q v. refused (nowhere Class.Frames)) w (beginning p)
  term_rows (suc f) p w = begin_row (λ l n q v. rest_rows (term_rows f) n l [] q v) w (beginning p)

  -- An open form after one more argument was read.
  unfoldable pub after_term : (Position → List ℕ → RowResult) → OpenFrame → RowResult → RowResult
  after_term R f (refused r) = refused r
  after_term R f (done id p w) =
      rest_rows R (arity_of f.label.kind - suc (length f.children)) f.label (f.children ++ (id ∷ [])) p w

  -- What the open frames still do, the one opened last first, where so many more may be opened.
  unfoldable pub resume : ℕ → List OpenFrame → RowResult → RowResult
  resume f [] o = o
  resume f (fr ∷ frs) o = resume (suc f) frs (after_term (term_rows f) fr o)

-- The rows of a tree that was read behind n rows.
unfoldable pub as_rows : (ℕ → Bool) → ℕ → List ℕ → Result (Tree Label) → RowResult
as_rows holds n w (Result.done t q) = done (next n t.args) q (stored_rows holds n w (cells n (tree t nil)))
as_rows holds n w (Result.refused r) = refused r
