-- What a row of the surface table says of its term.
use Prim.Native.Nat.{ℕ, suc, ◌+◌, ◌*◌, ◌≤◌, ◌<◌}
use mathlib.Core.Path.{◌≡◌, refl, sym, ◌∙◌, ap}
use mathlib.Core.List.{List, [], ◌∷◌, ◌++◌}
use mathlib.Core.Bool.{Bool, true, false, cond}
use native.Mathlib.Decide.{dec_lt}
use native.Mathlib.Omega.{arith}
use native.Mathlib.Nat.{add-zero}
use borrow.Author.Tests.{leb-true}
use lib.Dec.{leb}
use lib.ListN.{length, get_or, take, drop, replicate, get_or-replicate, get_or-eq_default}
use lib.Seq.{get_or-take, get_or-drop}
use Rattle.terms.specs.Forms.{forms, forms_0_2, form_of_kind, arity_of, holds_span, holds_span_in}
use Rattle.terms.specs.Label.{Label}
use Rattle.terms.specs.Rows.{pad, span, surface_row}
use Rattle.terms.proofs.RowFields.{row_field, row_offset}
use Rattle.rows.proofs.Arities.{value_at, no_arity, arity_at_most_six}
use Rattle.rows.proofs.Words.{pad_words}
use Rattle.elaborate.specs.RowTerm.{row_word, label_at, six_at, children_at}
use Rattle.elaborate.proofs.Finishing.{take_pad}
use Rattle.elaborate.proofs.Alike.{Alike}

-- Place k of a table whose places have w words.
abbrev pub place : ℕ → List ℕ → ℕ → List ℕ
place w t k = take w (drop (k * w) t)

pub word_of : (w : ℕ) (t : List ℕ) (k : ℕ) (r : List ℕ) → place w t k ≡ r → (j : ℕ) → j < w → get_or t (k * w + j) 0 ≡ get_or r j 0
word_of w t k r e j h = sym (get_or-drop (k * w) t j 0) ∙ sym (get_or-take w (drop (k * w) t) j 0 h) ∙ ap (λ (l : List ℕ). get_or l j 0) e

pub first_word_of : (w : ℕ) (t : List ℕ) (k : ℕ) (r : List ℕ) → place w t k ≡ r → 0 < w → get_or t (k * w) 0 ≡ get_or r 0 0
first_word_of w t k r e h = ap (λ (i : ℕ). get_or t i 0) (sym (add-zero (k * w))) ∙ word_of w t k r e 0 h

-- Behind a span there are at most two arguments.
abbrev bounded : ℕ → Bool
bounded k = leb (cond (holds_span k) (arity_of k + 4) (arity_of k)) 6

pub arity_behind_span : (k : ℕ) → holds_span k ≡ true → arity_of k ≤ 2
unfolding forms forms_0_2 form_of_kind arity_of holds_span_in
arity_behind_span k e = elim (dec_lt k 26) [
  | yes h ↦
      let b = sym (value_at bounded (replicate 26 true) true 26 k refl h) ∙ get_or-replicate 26 k true true h in
      omega (arith, leb-true (cond (holds_span k) (arity_of k + 4) (arity_of k)) 6 b, ap (λ (x : Bool). cond x (arity_of k + 4) (arity_of k)) e)
  | no h ↦ omega (arith, no_arity k (omega arith))
]

module _ (t : List ℕ) (id : ℕ) (l : Label) (ids : List ℕ) (e : place 8 t id ≡ surface_row (record { label = l; children = ids })) (n : length ids ≡ arity_of l.kind) where
  abbrev fields : Bool → List ℕ
  fields b = cond b (span l) [] ++ ids

  pub word : (b : Bool) → holds_span l.kind ≡ b → (j : ℕ) → j < 6 → row_word t id (suc j) ≡ get_or (fields b) j 0
  word b q j h =
      word_of 8 t id _ e (suc j) (omega arith)
      ∙ row_field l.kind (fields (holds_span l.kind)) l.offset j h
      ∙ ap (λ (x : Bool). get_or (fields x) j 0) q

  pub row_kind : get_or t (id * 8) 0 ≡ l.kind
  row_kind = first_word_of 8 t id _ e (omega arith)

  pub row_alike : Alike (label_at t id) l
  row_alike = record {
    kind = row_kind;
    span = λ q. (word true q 0 (omega arith), word true q 1 (omega arith));
    offset = word_of 8 t id _ e 7 (omega arith) ∙ row_offset l.kind (fields (holds_span l.kind)) l.offset;
  }

  small : arity_of l.kind ≤ 6
  small = arity_at_most_six l.kind

  six : (b : Bool) → holds_span l.kind ≡ b → six_at t id b ≡ pad 6 ids
  unfolding six_at
  six false q =
      (λ i. word false q 0 (omega arith) i ∷ word false q 1 (omega arith) i ∷ word false q 2 (omega arith) i ∷ word false q 3 (omega arith) i
      ∷ word false q 4 (omega arith) i ∷ word false q 5 (omega arith) i ∷ [])
      ∙ sym (pad_words 6 ids)
  six true q =
      let none : (j : ℕ) → 2 ≤ j → 0 ≡ get_or ids j 0 = λ j h. sym (get_or-eq_default ids 0 (omega (arith, arity_behind_span l.kind q))) in
      (λ i. word true q 2 (omega arith) i ∷ word true q 3 (omega arith) i ∷ none 2 (omega arith) i ∷ none 3 (omega arith) i
      ∷ none 4 (omega arith) i ∷ none 5 (omega arith) i ∷ [])
      ∙ sym (pad_words 6 ids)

  pub row_children : children_at t id ≡ ids
  row_children =
      ap (λ (k : ℕ). take (arity_of k) (six_at t id (holds_span k))) row_kind
      ∙ ap (take (arity_of l.kind)) (six (holds_span l.kind) refl)
      ∙ take_pad 6 ids (arity_of l.kind) n small
