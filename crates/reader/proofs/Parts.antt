-- What the reader of terms gives, as trees: a type, and a body that may be absent.
use Rattle.std.specs.Prelude.{Ok, Err}
use mathlib.Core.Path.{◌≡◌, refl, sym, ◌∙◌, ap}
use mathlib.Core.List.{List}
use mathlib.Core.Bool.{Bool}
use mathlib.Core.Option.{Option, some}
use Prim.Native.Nat.{ℕ, zero, suc, ◌*◌, ◌≤◌}
use native.Mathlib.Omega.{arith}
use Rattle.token.specs.declared.Refusal.{Refusal}
use Rattle.terms.specs.Forms.{holds_span_in}
use Rattle.terms.specs.Label.{Label}
use Rattle.terms.specs.Tree.{nil, Tree, tree, next, cells}
use Rattle.surface.specs.Reader.{Result, done, refused, after, pure}
use Rattle.surface.specs.Reading.{body}
use Rattle.surface.specs.Sizes.{frames_of}
use Rattle.tables.specs.Tables.{with_words}
use Rattle.expects.specs.Expects.{position_at}
use Rattle.term_rows.specs.TermRows.{TermRead, read_term, TermBounds, Reads}
use Rattle.term_rows.proofs.StoredRows.{with_no_words, stored_words}
use Rattle.terms.proofs.Cells.{next_cells}
use Rattle.expects.specs.declared.Format.{Format}
use Rattle.expects.specs.Formats.{edition}
use Rattle.reader.specs.ModuleWords.{whole_term, one_body, forest_words, body_trees, body_row}
use Rattle.reader.specs.Parts.{BodyReads}
use Rattle.reader.specs.Reads.{Holds, ModuleInside}
use Rattle.reader.proofs.Ahead.{term_onward}

-- Where a term may be read.
pub term_inside : (limit : ℕ) (s work : List ℕ) (at n : ℕ) → ModuleInside limit s work at n → TermBounds s at n
term_inside limit s work at n i = record { source = i.source; inside = i.within; few = i.few }

-- A tree that was read, as a body that is there.
abbrev pub present : Result (Tree Label) → Result (Option (Tree Label))
present x = after x (λ t. pure (some t))

module _ (format : Format) (limit : ℕ) (s table : List ℕ) (at n : ℕ) (stored : n ≤ limit) where
  abbrev spans : ℕ → Bool
  spans = holds_span_in (edition format).forms

  abbrev tree_read : Result (Tree Label)
  tree_read = whole_term format s limit (position_at at n)

  words_read : (x : Result (Tree Label)) → tree_read ≡ x → (r : TermRead) (table₁ : List ℕ) → Reads spans n table x r table₁
      → BodyReads format limit (present x) n table r table₁
  words_read (refused x) e r table₁ h = h
  words_read (done t q) e r table₁ h =
      let o = term_onward format s limit _ q t e in
      let few = o.room stored in
      (h.0, λ holds. h.1 ∙ stored_words spans n table (cells n (tree t nil)) (omega (arith, o.rows, next_cells n (tree t nil))))

  -- The rows that the reader of terms leaves are those of the tree.
  pub term_read : (r : TermRead) (table₁ : List ℕ) → Reads spans n table tree_read r table₁ → BodyReads format limit (present tree_read) n table r table₁
  term_read r table₁ h = words_read tree_read refl r table₁ h

  -- The body of a declaration of kind 1 + j.
  module _ (r : TermRead) (table₁ : List ℕ) where
    pub no_body : (j : ℕ) → j ≡ 0 → r ≡ Ok (read_term 0 n at 0) → table₁ ≡ table → BodyReads format limit (one_body format s limit j (position_at at n)) n table r table₁
    unfolding body
    no_body j z e k = rw z (e, λ holds. k ∙ sym (with_no_words table (n * 8)))

    pub some_body : (j : ℕ) → (j ≡ 0 → ⊥) → Reads spans n table tree_read r table₁
        → BodyReads format limit (one_body format s limit j (position_at at n)) n table r table₁
    unfolding body
    some_body zero z h = absurd (z refl)
    some_body (suc j) z h = term_read r table₁ h

-- A body that was read behind n rows: its row, and how many rows are stored behind it.
pub record BodyRead (format : Format) (limit : ℕ) (y : Result (Option (Tree Label))) (n : ℕ) (table : List ℕ) (row m at frames : ℕ) (table₁ : List ℕ) : Type 0 where
  pub body : Option (Tree Label)
  pub frames_are : frames ≡ frames_of (body_trees body)
  pub read : y ≡ done body (position_at at m)
  pub row_is : row ≡ body_row n body
  pub words : Holds 8 limit table → table₁ ≡ with_words table (n * 8) (forest_words format n (body_trees body))

-- The same of a type.
pub record TypeRead (format : Format) (limit : ℕ) (x : Result (Tree Label)) (n : ℕ) (table : List ℕ) (row m at frames : ℕ) (table₁ : List ℕ) : Type 0 where
  pub type : Tree Label
  pub frames_are : frames ≡ frames_of (tree type nil)
  pub read : x ≡ done type (position_at at m)
  pub row_is : row ≡ next n type.args
  pub words : Holds 8 limit table → table₁ ≡ with_words table (n * 8) (forest_words format n (tree type nil))

module _ (format : Format) (limit n : ℕ) (table : List ℕ) (r : TermRead) (table₁ : List ℕ) where
  module _ (row m at frames : ℕ) (e : r ≡ Ok (read_term row m at frames)) where
    pub body_done : (y : Result (Option (Tree Label))) → BodyReads format limit y n table r table₁ → BodyRead format limit y n table row m at frames table₁
    body_done (done b q) h =
        let is : read_term (body_row n b) q.rows q.offset (frames_of (body_trees b)) ≡ read_term row m at frames = cc h.0 in
        record { body = b; frames_are = λ i. (sym is i).frames; read = λ i. done b (position_at (is i).next (is i).rows); row_is = λ i. (sym is i).row; words = h.1 }
    body_done (refused x) h = absurd (let z : ◌≡◌ {A = ℕ} 0 1 = cc in omega arith)

    pub type_done : (x : Result (Tree Label)) → BodyReads format limit (present x) n table r table₁ → TypeRead format limit x n table row m at frames table₁
    type_done (done t q) h =
        let is : read_term (next n t.args) q.rows q.offset (frames_of (tree t nil)) ≡ read_term row m at frames = cc h.0 in
        record { type = t; frames_are = λ i. (sym is i).frames; read = λ i. done t (position_at (is i).next (is i).rows); row_is = λ i. (sym is i).row; words = h.1 }
    type_done (refused x) h = absurd (let z : ◌≡◌ {A = ℕ} 0 1 = cc in omega arith)

  module _ (x : Refusal) (e : r ≡ Err x) where
    pub body_refused : (y : Result (Option (Tree Label))) → BodyReads format limit y n table r table₁ → y ≡ refused x
    body_refused (done b q) h = absurd (let z : ◌≡◌ {A = ℕ} 0 1 = cc h.0 in omega arith)
    body_refused (refused z) h = ap refused (cc)

    pub type_refused : (y : Result (Tree Label)) → BodyReads format limit (present y) n table r table₁ → y ≡ refused x
    type_refused (done b q) h = absurd (let z : ◌≡◌ {A = ℕ} 0 1 = cc h.0 in omega arith)
    type_refused (refused z) h = ap refused (cc)
