-- Words stored behind words that were stored; and rows stored one behind the other are their words, where the table has a place for each.
use mathlib.Core.Path.{◌≡◌, sym, ◌∙◌, ap, ap₂, subst}
use mathlib.Core.List.{List, [], ◌∷◌, ◌++◌, map, append_assoc, append-nil}
use mathlib.Core.Bool.{Bool}
use Prim.Native.Nat.{ℕ, suc, ◌+◌, ◌*◌, ◌/◌, ◌≤◌}
use native.Mathlib.Omega.{arith}
use lib.ListN.{length, take, drop, length-append, take-append-drop}
use lib.Seq.{drop-drop}
use Rattle.terms.specs.Label.{Label}
use Rattle.terms.specs.Tree.{Cell}
use Rattle.terms.specs.Rows.{row_holding, joined}
use Rattle.terms.proofs.Widths.{length_row_holding}
use Rattle.tables.specs.Tables.{with_words}
use Rattle.tables.proofs.Stored.{take_stored, drop_stored}
use Rattle.rows.specs.Places.{stored_at}
use Rattle.rows.proofs.Storing.{stored_at_place, length_stored_at}
use Rattle.term_rows.specs.TermRows.{stored_rows}

pub with_no_words : (t : List ℕ) (at : ℕ) → with_words t at [] ≡ t
with_no_words t at =
    let e : at + 0 ≡ at = omega arith in
    ap₂ (λ (l : List ℕ) (k : ℕ). l ++ drop k t) (append-nil (take at t)) e ∙ take-append-drop at t

pub with_more_words : (t : List ℕ) (at to : ℕ) (u v : List ℕ) → at + length u ≡ to → to ≤ length t → with_words (with_words t at u) to v ≡ with_words t at (u ++ v)
with_more_words t at to u v e h =
    let k : at + length u ≤ length t = omega arith in
    let w = with_words t at u in
    let x : take to w ≡ take at t ++ u = ap (λ (n : ℕ). take n w) (sym e) ∙ take_stored t at u k in
    let y : drop (to + length v) w ≡ drop (at + length (u ++ v)) t =
    sym (drop-drop (length v) to w)
    ∙ ap (drop (length v)) (ap (λ (n : ℕ). drop n w) (sym e) ∙ drop_stored t at u k)
    ∙ drop-drop (length v) (at + length u) t
    ∙ ap (λ (n : ℕ). drop n t) (let q : at + length u + length v ≡ at + length (u ++ v) = omega (arith, length-append u v) in q) in
    ap₂ (λ (a b : List ℕ). a ++ v ++ b) x y ∙ ap (λ (l : List ℕ). l ++ drop (at + length (u ++ v)) t) (append_assoc (take at t) u v)

-- Rows behind rows.
pub stored_append : (holds : ℕ → Bool) (n m : ℕ) (t : List ℕ) (a b : List (Cell Label)) → m ≡ n + length a
    → stored_rows holds m (stored_rows holds n t a) b ≡ stored_rows holds n t (a ++ b)
unfolding stored_rows
stored_append holds n m t [] b e = ap (λ (k : ℕ). stored_rows holds k t b) (let q : m ≡ n = omega arith in q)
stored_append holds n m t (c ∷ a) b e = stored_append holds (suc n) m (stored_at 8 t n (row_holding holds c)) a b (omega arith)

pub stored_words : (holds : ℕ → Bool) (n : ℕ) (t : List ℕ) (l : List (Cell Label)) → n + length l ≤ length t / 8
    → stored_rows holds n t l ≡ with_words t (n * 8) (joined (map (row_holding holds) l))
unfolding stored_rows
stored_words holds n t [] h = sym (with_no_words t (n * 8))
stored_words holds n t (c ∷ l) h =
    let row = row_holding holds c in
    let next = stored_at 8 t n row in
    let eight = length_row_holding holds c in
    let long : length next ≡ length t = length_stored_at 8 t n row eight (omega arith) in
    stored_words holds (suc n) next l (subst (λ (k : ℕ). suc n + length l ≤ k / 8) (sym long) (omega arith))
    ∙ ap (λ (x : List ℕ). with_words x (suc n * 8) (joined (map (row_holding holds) l))) (stored_at_place 8 t n row eight (omega arith) (omega arith))
    ∙ with_more_words t (n * 8) (suc n * 8) row (joined (map (row_holding holds) l)) (omega arith) (omega arith)
