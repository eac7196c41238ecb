-- The rest of a form: its end, one more argument in front of others, and the whole form.
use Rattle.token.specs.declared.Class.{Class}
use Rattle.token.specs.Token.{Lexed}
use Rattle.std.specs.Prelude.{Ok, Err}
use mathlib.Core.Path.{◌≡◌, refl, sym, ◌∙◌, ap, ap₂, subst}
use mathlib.Core.List.{List, [], ◌∷◌, ◌++◌, append_assoc, append-nil}
use mathlib.Core.Bool.{Bool, true, false, cond}
use Prim.Native.Nat.{ℕ, zero, suc, ◌+◌, ◌≤◌, max}
use native.Mathlib.Omega.{arith}
use native.Mathlib.Numerals.{add-one}
use lib.Dec.{ltb}
use Rattle.token.specs.declared.Token.{Token}
use Rattle.terms.specs.Forms.{arity_of, holds_span_in}
use Rattle.terms.specs.Label.{Label}
use Rattle.terms.specs.Tree.{Forest, nil, node, Tree, tree, Cell, next, roots, cells}
use Rattle.terms.specs.Rows.{row_holding}
use Rattle.terms.proofs.Cells.{next_cells}
use Rattle.surface.specs.Reader.{Position, Result, done, refused, after, nowhere}
use Rattle.surface.specs.Reading.{lexed, store, finish, several}
use Rattle.surface.specs.Sizes.{opens, frames_of}
use Rattle.rows.specs.Places.{stored_at}
use Rattle.expects.specs.declared.Format.{Format}
use Rattle.expects.specs.Formats.{edition}
use Rattle.expects.specs.Expects as expects
use Rattle.expects.specs.Expects.{position_at}
use Rattle.term_rows.specs.TermRows.{TermRead, read_term, stored_rows, pushed_row, Reads}
use Rattle.term_rows.proofs.Counting.{RowsOf, several_counted, term_counted, term_next}
use Rattle.term_rows.proofs.StoredRows.{stored_append}
use Rattle.term_rows.proofs.Readers.{format_sound}
use Rattle.term_rows.proofs.Depth.{some_argument}
use Rattle.expects.proofs.Gives.{Gives, given}
use Rattle.plain.specs.Plain.{begin, close, form_end, a_term, arguments, a_form, form_rest, stored_term, ReadsRest}

module _ (format : Format) (s : List ℕ) (limit : ℕ) where
  abbrev spans : ℕ → Bool
  spans = holds_span_in (edition format).forms

  abbrev row_of : Label → List ℕ → List ℕ
  row_of l children = row_holding spans (record { label = l; children = children })

  -- A form that misses no argument, behind which the token x stands.
  module _ (l : Label) (children : List ℕ) (frames at n : ℕ) (table : List ℕ) (x : Lexed) (closes : expects.Reads (close format s) at x) where
    end_is : (y : Lexed) → x ≡ y → form_end format s (position_at at n) ≡ after (lexed n y) (λ c. λ p. done nil p)
    end_is y e = ap (λ (z : Result Token). after z (λ c. λ p. done nil p)) (closes n ∙ ap (lexed n) e)

    pub closed : (t : Token) (r : TermRead) (table₁ : List ℕ) → x ≡ Ok t → r ≡ stored_term limit n t.end (frames + 1) → table₁ ≡ pushed_row limit table n (row_of l children)
        → ReadsRest spans limit l children frames n table (form_end format s (position_at at n)) r table₁
    unfolding stored_rows
    closed t r table₁ e q u =
        let f : frames + 1 ≡ suc (max frames 0) = omega arith in
        subst (λ (o : Result (Forest Label)). ReadsRest spans limit l children frames n table o r table₁) (sym (end_is _ e))
        (q ∙ ap (stored_term limit n t.end) f, u ∙ ap (λ (c : List ℕ). pushed_row limit table n (row_of l c)) (sym (append-nil children)))

  module _ (left : ℕ) where
    -- Behind the arguments, the rows are those of the trees.
    counted : (m : ℕ) (p : Position) → Gives (RowsOf p.rows) (arguments format s limit left m p)
    counted m p =
        let o = format_sound format s in
        several_counted (begin format s) (close format s) limit (a_term format s limit left)
        (term_counted (begin format s) (close format s) limit (λ p q b e. (o.begins p q b e).rows) (λ p q c e. (o.closes p q c e).rows) left) m p

    close_rows : (p q : Position) (c : Token) → close format s p ≡ done c q → q.rows ≡ p.rows
    close_rows p q c e = ((format_sound format s).closes p q c e).rows

    -- An argument t in front of those that y has.
    module _ (l : Label) (children : List ℕ) (frames n : ℕ) (table : List ℕ) (t : Tree Label) (r : TermRead) (table₁ : List ℕ) where
      abbrev behind : ℕ → Result (Forest Label) → Type 0
      behind k y = ReadsRest spans limit l (children ++ (next n t.args ∷ [])) (max frames (frames_of (tree t nil))) k (stored_rows spans n table (cells n (tree t nil))) y r table₁

      in_front : (y : Result (Forest Label)) → behind (suc (next n t.args)) y → ReadsRest spans limit l children frames n table (after y (λ a. λ u. done (tree t a) u)) r table₁
      in_front (refused x) h = h
      in_front (done a q) h =
          let id = next n t.args in
          let c : Cell Label = record { label = t.label; children = roots n t.args } in
          let f : max (max frames (frames_of (tree t nil))) (frames_of a) ≡ max frames (frames_of (tree t a)) = omega arith in (
            h.0 ∙ ap (λ (k : ℕ). stored_term limit q.rows q.offset (suc k)) f,
            h.1
                ∙ ap₂ (λ (i v : List ℕ). pushed_row limit v q.rows (row_of l i)) (append_assoc children (id ∷ []) (roots (suc id) a))
                (stored_append spans n (suc id) table (cells n (tree t nil)) (cells (suc id) a) (next_cells n (tree t nil))
                ∙ ap (stored_rows spans n table) (append_assoc (cells n t.args) (c ∷ []) (cells (suc id) a))),
          )

      -- It was read from p to q.
      module _ (m : ℕ) (p q : Position) (e : a_term format s limit left p ≡ done t q) where
        ended_by : (a : Forest Label) (z : Result Token) → after z (λ c. λ u. done (tree t a) u) ≡ after (after z (λ c. λ u. done a u)) (λ b. λ u. done (tree t b) u)
        ended_by a (done c u) = refl
        ended_by a (refused x) = refl

        rest_by : (y : Result (Forest Label))
            → after (after y (λ a. λ u. done (tree t a) u)) (λ a. λ u. after (close format s u) (λ c. λ v. done a v))
            ≡ after (after y (λ a. λ u. after (close format s u) (λ c. λ v. done a v))) (λ a. λ u. done (tree t a) u)
        rest_by (done a u) = ended_by a (close format s u)
        rest_by (refused x) = refl

        rest_more : form_rest format s limit left (suc m) p ≡ after (form_rest format s limit left m q) (λ a. λ u. done (tree t a) u)
        unfolding several
        rest_more = rw (e, several) (rest_by (arguments format s limit left m q))

        pub argument_read : p.rows ≡ n → behind q.rows (form_rest format s limit left m q)
            → ReadsRest spans limit l children frames n table (form_rest format s limit left (suc m) p) r table₁
        argument_read i h =
            let o = format_sound format s in
            let k : q.rows ≡ suc (next n t.args) =
            term_next (begin format s) (close format s) limit (λ p q b e. (o.begins p q b e).rows) (λ p q c e. (o.closes p q c e).rows) left p q t e ∙ ap (λ (j : ℕ). suc (next j t.args)) i in
            subst (λ (x : Result (Forest Label)). ReadsRest spans limit l children frames n table x r table₁) (sym rest_more)
            (in_front (form_rest format s limit left m q) (subst (λ (j : ℕ). behind j (form_rest format s limit left m q)) k h))

    -- A form with its arguments a, whose end is read.
    module _ (l : Label) (n : ℕ) (table : List ℕ) (r : TermRead) (table₁ : List ℕ) where
      abbrev Rest : Result (Forest Label) → Type 0
      Rest y = ReadsRest spans limit l [] 0 n table y r table₁

      abbrev Whole : Result (Tree Label) → Type 0
      Whole x = Reads spans n table x r table₁

      -- A completed term, with the frames that were open in it, is stored.
      stored_by : (b : Bool) (a : Forest Label) (u : Position) (f : ℕ) → ltb u.rows limit ≡ b → u.rows ≡ next n a → f ≡ frames_of (tree (record { label = l; args = a }) nil)
          → r ≡ stored_term limit u.rows u.offset f → table₁ ≡ pushed_row limit (stored_rows spans n table (cells n a)) u.rows (row_of l (roots n a))
          → Whole (store (begin format s) (close format s) limit (record { label = l; args = a }) u)
      unfolding store stored_rows pushed_row
      stored_by true a u f e k o h g =
          let c : Cell Label = record { label = l; children = roots n a } in
          rw (e, store) (
            h ∙ ap {B = TermRead} (λ (b : Bool). cond b (Ok (read_term u.rows (u.rows + 1) u.offset f)) (Err (nowhere Class.SurfaceFull))) e
                ∙ (λ i. Ok (read_term (k i) (add-one u.rows i) u.offset (o i))),
            g ∙ ap (λ (b : Bool). cond b (stored_at 8 (stored_rows spans n table (cells n a)) u.rows (row_of l (roots n a))) (stored_rows spans n table (cells n a))) e
                ∙ stored_append spans n u.rows table (cells n a) (c ∷ []) (k ∙ next_cells n a),
          )
      stored_by false a u f e k o h g =
          rw (e, store) (h ∙ ap {B = TermRead} (λ (b : Bool). cond b (Ok (read_term u.rows (u.rows + 1) u.offset f)) (Err (nowhere Class.SurfaceFull))) e)

      -- A term without arguments.
      pub leaf_stored : (at : ℕ) → r ≡ stored_term limit n at 0 → table₁ ≡ pushed_row limit table n (row_of l []) → Whole (store (begin format s) (close format s) limit (record { label = l; args = nil }) (position_at at n))
      unfolding stored_rows
      leaf_stored at h g = stored_by (ltb n limit) nil (position_at at n) 0 refl refl refl h g

      closed_by : (a : Forest Label) (q : Position) (z : Result Token) → close format s q ≡ z → q.rows ≡ next n a → opens a (suc (frames_of a)) ≡ suc (frames_of a)
          → Rest (after z (λ c. λ u. done a u)) → Whole (after z (λ c. store (begin format s) (close format s) limit (record { label = l; args = a })))
      closed_by a q (done c u) e k o h = stored_by (ltb u.rows limit) a u (suc (max 0 (frames_of a))) refl (close_rows q u c e ∙ k) (omega (arith, o)) h.0 h.1
      closed_by a q (refused x) e k o h = h

      -- A form has at least one argument, and is itself open while they are read.
      opened : (m : ℕ) (p q : Position) (a : Forest Label) → 1 ≤ m → arguments format s limit left m p ≡ done a q → opens a (suc (frames_of a)) ≡ suc (frames_of a)
      opened (suc m) p q nil h e = some_argument (begin format s) (close format s) limit (a_term format s limit left) m p q e
      opened (suc m) p q (node x a b) h e = refl
      opened zero p q a h e = absurd (omega arith)

      read_by : (m : ℕ) (p : Position) (y : Result (Forest Label)) → 1 ≤ m → p.rows ≡ n → arguments format s limit left m p ≡ y
          → Rest (after y (λ a. λ u. after (close format s u) (λ c. λ v. done a v)))
          → Whole (after y (λ a. λ u. after (close format s u) (λ c. store (begin format s) (close format s) limit (record { label = l; args = a }))))
      read_by m p (done a q) h i e g =
          closed_by a q (close format s q) refl (given (RowsOf p.rows) (counted m p) e ∙ ap (λ (j : ℕ). next j a) i) (opened m p q a h e) g
      read_by m p (refused x) h i e g = g

      pub form_read : (at : ℕ) → 1 ≤ arity_of l.kind → Rest (form_rest format s limit left (arity_of l.kind) (position_at at n)) → Whole (a_form format s limit left l (position_at at n))
      unfolding finish
      form_read at h g = read_by (arity_of l.kind) (position_at at n) (arguments format s limit left (arity_of l.kind) (position_at at n)) h refl refl g
