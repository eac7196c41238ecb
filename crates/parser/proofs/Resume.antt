-- Reading into rows, step by step: what a term begins with, one more argument, the closing parenthesis.
use Rattle.token.specs.declared.Class.{Class}
use mathlib.Core.Path.{◌≡◌, refl, ◌∙◌, ap}
use mathlib.Core.List.{List, [], ◌∷◌, ◌++◌}
use mathlib.Core.Bool.{Bool}
use Prim.Native.Nat.{ℕ, zero, suc, ◌-◌, ◌≤◌, ◌<◌}
use native.Mathlib.Omega.{arith}
use lib.ListN.{length, length-append}
use borrow.Author.Tests.{lt-ltb, le-ltb}
use Rattle.token.specs.declared.Token.{Token}
use Rattle.token.specs.declared.Refusal.{Refusal}
use Rattle.terms.specs.Forms.{arity_of}
use Rattle.terms.specs.Label.{Label}
use Rattle.terms.specs.Rows.{row_holding}
use Rattle.surface.specs.Reader.{Position, Result, Reader, nowhere}
use Rattle.surface.specs.Reading.{Beginning, leaf, frame}
use Rattle.rows.specs.Places.{stored_at}
use Rattle.frames.specs.Frames.{OpenFrame}
use Rattle.term_rows.proofs.Readers.{Arities}
use Rattle.parser.specs.TermRows.{RowResult, done, refused, store_row, close_row, rest_rows, begin_row, term_rows, after_term, resume}

module _ (beginning : Reader Beginning) (close : Reader Token) (limit : ℕ) (holds : ℕ → Bool) where
  pub resume_refused : (f : ℕ) (frs : List OpenFrame) (r : Refusal) → resume beginning close limit holds f frs (refused r) ≡ refused r
  unfolding resume after_term
  resume_refused f [] r = refl
  resume_refused f (fr ∷ frs) r = resume_refused (suc f) frs r

  module _ (l : Label) (children : List ℕ) (p : Position) (w : List ℕ) where
    pub store_yes : p.rows < limit
        → store_row beginning close limit holds l children p w
        ≡ done p.rows (record { offset = p.offset; rows = suc p.rows }) (stored_at 8 w p.rows (row_holding holds (record { label = l; children = children })))
    unfolding store_row
    store_yes h = rw (lt-ltb p.rows limit h, store_row)

    pub store_no : limit ≤ p.rows → store_row beginning close limit holds l children p w ≡ refused (nowhere Class.SurfaceFull)
    unfolding store_row
    store_no h = rw (le-ltb p.rows limit h, store_row)

  module _ (p q : Position) (w : List ℕ) where
    pub term_refused : (f : ℕ) (r : Refusal) → beginning p ≡ Result.refused r → term_rows beginning close limit holds f p w ≡ refused r
    unfolding term_rows begin_row
    term_refused zero r e = rw (e, term_rows)
    term_refused (suc f) r e = rw (e, term_rows)

    pub term_leaf : (f : ℕ) (l : Label) → beginning p ≡ Result.done (leaf l) q → term_rows beginning close limit holds f p w ≡ store_row beginning close limit holds l [] q w
    unfolding term_rows begin_row
    term_leaf zero l e = rw (e, term_rows)
    term_leaf (suc f) l e = rw (e, term_rows)

    pub term_deep : (l : Label) (n : ℕ) → beginning p ≡ Result.done (frame l n) q → term_rows beginning close limit holds 0 p w ≡ refused (nowhere Class.Frames)
    unfolding term_rows begin_row
    term_deep l n e = rw (e, term_rows)

  module _ (R : Position → List ℕ → RowResult) where
    rest_by : (o : RowResult) (m : ℕ) (fr : OpenFrame) (p : Position) (w : List ℕ) → R p w ≡ o → arity_of fr.label.kind - suc (length fr.children) ≡ m
        → rest_rows beginning close limit holds R (suc m) fr.label fr.children p w ≡ after_term beginning close limit holds R fr o
    unfolding rest_rows after_term
    rest_by (refused r) m fr p w e h = rw (e, rest_rows)
    rest_by (done id q v) m fr p w e h = rw (e, rest_rows, h)

    -- A form that misses arguments reads one.
    rest_more : (m : ℕ) (fr : OpenFrame) (p : Position) (w : List ℕ) → m ≡ arity_of fr.label.kind - length fr.children → 1 ≤ m
        → rest_rows beginning close limit holds R m fr.label fr.children p w ≡ after_term beginning close limit holds R fr (R p w)
    rest_more m fr p w h k =
        let j : m ≡ suc (m - 1) = omega arith in
        ap (λ (x : ℕ). rest_rows beginning close limit holds R x fr.label fr.children p w) j ∙ rest_by (R p w) (m - 1) fr p w refl (omega arith)

    module _ (fr : OpenFrame) (id : ℕ) (q : Position) (v : List ℕ) where
      pub after_more : suc (length fr.children) < arity_of fr.label.kind
          → after_term beginning close limit holds R fr (done id q v)
          ≡ after_term beginning close limit holds R (record { label = fr.label; children = fr.children ++ (id ∷ []) }) (R q v)
      unfolding after_term
      after_more h = rest_more _ (record { label = fr.label; children = fr.children ++ (id ∷ []) }) q v (simp length-append (omega arith)) (omega arith)

      pub after_last : suc (length fr.children) ≡ arity_of fr.label.kind
          → after_term beginning close limit holds R fr (done id q v) ≡ close_row beginning close limit holds fr.label (fr.children ++ (id ∷ [])) v (close q)
      unfolding after_term rest_rows
      after_last h = rw (let z : arity_of fr.label.kind - suc (length fr.children) ≡ 0 = omega arith in z)

  pub term_frame : Arities beginning → (f : ℕ) (p q : Position) (w : List ℕ) (l : Label) (n : ℕ) → beginning p ≡ Result.done (frame l n) q
      → term_rows beginning close limit holds (suc f) p w
      ≡ after_term beginning close limit holds (term_rows beginning close limit holds f) (record { label = l; children = [] }) (term_rows beginning close limit holds f q w)
  unfolding term_rows begin_row
  term_frame arities f p q w l n e =
      let a = arities p q l n e in
      rw (e, term_rows) (rest_more (term_rows beginning close limit holds f) n (record { label = l; children = [] }) q w (omega arith) a.1)
