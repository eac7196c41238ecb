-- Reading straight into rows gives the rows of the tree that the reading order gives.
use mathlib.Core.Path.{◌≡◌, refl, sym, ◌∙◌, ap, ap₂, subst}
use mathlib.Core.List.{List, [], ◌∷◌, ◌++◌, append_assoc, append-nil}
use mathlib.Core.Bool.{Bool, true, false}
use Prim.Native.Nat.{ℕ, zero, suc}
use lib.Dec.{ltb}
use Rattle.token.specs.declared.Token.{Token}
use Rattle.terms.specs.Label.{Label}
use Rattle.terms.specs.Tree.{Forest, nil, Tree, tree, Cell, next, roots, cells}
use Rattle.terms.proofs.Cells.{next_cells}
use Rattle.surface.specs.Reader.{Position, Result, Reader, after}
use Rattle.surface.specs.Reading.{Beginning, leaf, frame, store, finish, several, term}
use Rattle.parser.specs.TermRows.{RowResult, done, refused, store_row, close_row, rest_rows, begin_row, term_rows, as_rows}
use Rattle.term_rows.specs.TermRows.{stored_rows}
use Rattle.term_rows.proofs.StoredRows.{stored_append}
use Rattle.expects.proofs.Gives.{Gives}
use Rattle.term_rows.proofs.Counting.{Rows, RowsOf, RowsOfTree, several_counted, begins_counted, closes_counted, term_counted}

-- The table with the rows of trees, the first at place n.
abbrev kept : (ℕ → Bool) → ℕ → List ℕ → Forest Label → List ℕ
kept holds n w a = stored_rows holds n w (cells n a)

module _ (beginning : Reader Beginning) (close : Reader Token) (limit : ℕ) (holds : ℕ → Bool) where
  -- A form whose arguments were read behind the children that it had: what closing it gives.
  arguments_read : Label → List ℕ → ℕ → List ℕ → Result (Forest Label) → RowResult
  arguments_read l children n w (Result.done a q) = close_row beginning close limit holds l (children ++ roots n a) (kept holds n w a) (close q)
  arguments_read l children n w (Result.refused r) = refused r

  store_rows : (b : Bool) (l : Label) (a : Forest Label) (q : Position) (n : ℕ) (w : List ℕ) → ltb q.rows limit ≡ b → q.rows ≡ next n a
      → store_row beginning close limit holds l (roots n a) q (kept holds n w a) ≡ as_rows holds n w (store beginning close limit (record { label = l; args = a }) q)
  unfolding store_row store as_rows stored_rows
  store_rows true l a q n w e h =
      let c : Cell Label = record { label = l; children = roots n a } in
      rw (e, store_row, store)
      (ap₂ (λ (id : ℕ) (v : List ℕ). done id (record { offset = q.offset; rows = suc q.rows }) v) h
      (stored_append holds n q.rows w (cells n a) (c ∷ []) (h ∙ next_cells n a)))
  store_rows false l a q n w e h = rw (e, store_row, store)

  close_rows : (x : Result Token) (l : Label) (a : Forest Label) (n m : ℕ) (w : List ℕ) → Gives (Rows m) x → m ≡ next n a
      → close_row beginning close limit holds l (roots n a) (kept holds n w a) x
      ≡ as_rows holds n w (after x (λ c. store beginning close limit (record { label = l; args = a })))
  unfolding close_row as_rows
  close_rows (Result.done c q) l a n m w h e = store_rows (ltb q.rows limit) l a q n w refl (h ∙ e)
  close_rows (Result.refused r) l a n m w h e = refl

  -- One argument before others.
  more_read : (l : Label) (children : List ℕ) (n : ℕ) (w : List ℕ) (t : Tree Label) (y : Result (Forest Label))
      → arguments_read l (children ++ (next n t.args ∷ [])) (suc (next n t.args)) (kept holds n w (tree t nil)) y
      ≡ arguments_read l children n w (after y (λ r. Result.done (tree t r)))
  unfolding arguments_read
  more_read l children n w t (Result.done r q) =
      let id = next n t.args in
      let c : Cell Label = record { label = t.label; children = roots n t.args } in
      ap₂ (λ (i v : List ℕ). close_row beginning close limit holds l i v (close q))
      (append_assoc children (id ∷ []) (roots (suc id) r))
      (stored_append holds n (suc id) w (cells n (tree t nil)) (cells (suc id) r) (next_cells n (tree t nil))
      ∙ ap (stored_rows holds n w) (append_assoc (cells n t.args) (c ∷ []) (cells (suc id) r)))
  more_read l children n w t (Result.refused r) = refl

  module _ (R : Position → List ℕ → RowResult) (one : Reader (Tree Label)) (same : (p : Position) (w : List ℕ) → R p w ≡ as_rows holds p.rows w (one p))
      (counted : (p : Position) → Gives (RowsOfTree p.rows) (one p)) where
    argument_by : (x : Result (Tree Label)) (m : ℕ) (l : Label)
        → ((children : List ℕ) (p : Position) (w : List ℕ)
        → rest_rows beginning close limit holds R m l children p w ≡ arguments_read l children p.rows w (several beginning close limit one m p))
        → (children : List ℕ) (p : Position) (w : List ℕ) → one p ≡ x → R p w ≡ as_rows holds p.rows w x → Gives (RowsOfTree p.rows) x
        → rest_rows beginning close limit holds R (suc m) l children p w ≡ arguments_read l children p.rows w (several beginning close limit one (suc m) p)
    unfolding rest_rows several as_rows arguments_read
    argument_by (Result.refused r) m l ih children p w e s c = rw (s, rest_rows, e, several)
    argument_by (Result.done t q) m l ih children p w e s c =
        let n = p.rows in
        let id = next n t.args in
        rw (s, rest_rows, e, several)
        (ih (children ++ (id ∷ [])) q (kept holds n w (tree t nil))
        ∙ ap (λ (k : ℕ). arguments_read l (children ++ (id ∷ [])) k (kept holds n w (tree t nil)) (several beginning close limit one m q)) c
        ∙ more_read l children n w t (several beginning close limit one m q))

    arguments_rows : (m : ℕ) (l : Label) (children : List ℕ) (p : Position) (w : List ℕ)
        → rest_rows beginning close limit holds R m l children p w ≡ arguments_read l children p.rows w (several beginning close limit one m p)
    unfolding rest_rows several arguments_read stored_rows
    arguments_rows zero l children p w = ap (λ (c : List ℕ). close_row beginning close limit holds l c w (close p)) (sym (append-nil children))
    arguments_rows (suc m) l children p w = argument_by (one p) m l (arguments_rows m l) children p w refl (same p w) (counted p)

  module _ (begins : (p q : Position) (b : Beginning) → beginning p ≡ Result.done b q → q.rows ≡ p.rows)
      (closes : (p q : Position) (c : Token) → close p ≡ Result.done c q → q.rows ≡ p.rows) where
    module _ (R : Label → ℕ → Position → List ℕ → RowResult) (arguments : ℕ → Reader (Forest Label))
        (same : (l : Label) (m : ℕ) (p : Position) (w : List ℕ) → R l m p w ≡ arguments_read l [] p.rows w (arguments m p))
        (counted : (m : ℕ) (p : Position) → Gives (RowsOf p.rows) (arguments m p)) where
      form_by : (y : Result (Forest Label)) (l : Label) (n : ℕ) (w : List ℕ) → Gives (RowsOf n) y
          → arguments_read l [] n w y
          ≡ as_rows holds n w (after y (λ a. λ q. after (close q) (λ c. store beginning close limit (record { label = l; args = a }))))
      unfolding arguments_read as_rows
      form_by (Result.done a q) l n w h = close_rows (close q) l a n q.rows w (closes_counted beginning close limit begins closes q) h
      form_by (Result.refused r) l n w h = refl

      begin_by : (x : Result Beginning) (n : ℕ) (w : List ℕ) → Gives (Rows n) x
          → begin_row beginning close limit holds R w x ≡ as_rows holds n w (after x (finish beginning close limit arguments))
      unfolding begin_row finish as_rows stored_rows
      begin_by (Result.refused r) n w h = refl
      begin_by (Result.done (leaf l) q) n w h =
          store_rows (ltb q.rows limit) l nil q n w refl h
      begin_by (Result.done (frame l m) q) n w h =
          same l m q w
          ∙ ap (λ (k : ℕ). arguments_read l [] k w (arguments m q)) h
          ∙ form_by (arguments m q) l n w (subst (λ (k : ℕ). Gives (RowsOf k) (arguments m q)) h (counted m q))

    pub rows_of_tree : (f : ℕ) (p : Position) (w : List ℕ) → term_rows beginning close limit holds f p w ≡ as_rows holds p.rows w (term beginning close limit f p)
    unfolding term_rows term arguments_read
    rows_of_tree zero p w =
        begin_by _ _ (λ l m q v. refl) (λ m q. tt) (beginning p) p.rows w (begins_counted beginning close limit begins closes p)
    rows_of_tree (suc f) p w =
        let one = term beginning close limit f in
        let counted = term_counted beginning close limit begins closes f in
        begin_by (λ l m. rest_rows beginning close limit holds (term_rows beginning close limit holds f) m l []) (several beginning close limit one)
        (λ l m. arguments_rows (term_rows beginning close limit holds f) one (rows_of_tree f) counted m l [])
        (several_counted beginning close limit one counted) (beginning p) p.rows w (begins_counted beginning close limit begins closes p)
