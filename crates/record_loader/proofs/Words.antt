-- A list of records and its words: made of a table of five words for each record, it has the table's words.
use mathlib.Core.Path.{◌≡◌, refl, sym, ap, ◌∙◌}
use mathlib.Core.List.{List, [], ◌∷◌, ◌++◌, append-nil}
use Prim.Native.Nat.{ℕ, zero, suc, ◌+◌, ◌*◌, ◌≤◌, ◌<◌}
use native.Mathlib.Omega.{arith}
use lib.ListN.{length, get_or, drop, drop_of_length-le}
use lib.Seq.{drop-cons}
use Rattle.records.specs.declared.Declaration.{Declaration}
use Rattle.records.specs.Records.{five_words, record_at, records_from, records_of}
use Rattle.records.proofs.Whole.{at_whole}
use Rattle.record_loader.specs.Recorded.{list_words}

pub list_long : (l : List Declaration) → length l * 5 ≡ length (list_words l)
unfolding list_words
list_long [] = refl
list_long (d ∷ l) = omega (arith, list_long l)

-- Word i, and what lies behind it.
next : (t : List ℕ) (i j : ℕ) → i < length t → suc i ≡ j → drop i t ≡ get_or t i 0 ∷ drop j t
next t i j h e = drop-cons t i 0 h ∙ ap (λ (m : ℕ). get_or t i 0 ∷ drop m t) e

five_front : (t : List ℕ) (i : ℕ) → i + 5 ≤ length t → drop i t ≡ get_or t i 0 ∷ get_or t (i + 1) 0 ∷ get_or t (i + 2) 0 ∷ get_or t (i + 3) 0 ∷ get_or t (i + 4) 0 ∷ drop (i + 5) t
five_front t i h =
    next t i (i + 1) (omega arith) (omega arith)
    ∙ ap (λ (l : List ℕ). get_or t i 0 ∷ l) (next t (i + 1) (i + 2) (omega arith) (omega arith)
    ∙ ap (λ (l : List ℕ). get_or t (i + 1) 0 ∷ l) (next t (i + 2) (i + 3) (omega arith) (omega arith)
    ∙ ap (λ (l : List ℕ). get_or t (i + 2) 0 ∷ l) (next t (i + 3) (i + 4) (omega arith) (omega arith)
    ∙ ap (λ (l : List ℕ). get_or t (i + 3) 0 ∷ l) (next t (i + 4) (i + 5) (omega arith) (omega arith)))))

-- From record k on, and what lies behind.
back_from : (t : List ℕ) (k n : ℕ) → (k + n) * 5 ≤ length t → list_words (records_from t k n) ++ drop ((k + n) * 5) t ≡ drop (k * 5) t
unfolding list_words records_from
back_from t k zero h = let i : (k + zero) * 5 ≡ k * 5 = omega arith in ap (λ (m : ℕ). drop m t) i
back_from t k (suc n) h =
    let i : (k + suc n) * 5 ≡ (suc k + n) * 5 = omega arith in
    let j : suc k * 5 ≡ k * 5 + 5 = omega arith in
    ap (λ (m : ℕ). list_words (record_at t k ∷ records_from t (suc k) n) ++ drop m t) i
    ∙ ap (λ (d : Declaration). list_words (d ∷ records_from t (suc k) n) ++ drop ((suc k + n) * 5) t) (sym (at_whole t k (omega arith)))
    ∙ ap (λ (l : List ℕ). get_or t (k * 5) 0 ∷ get_or t (k * 5 + 1) 0 ∷ get_or t (k * 5 + 2) 0 ∷ get_or t (k * 5 + 3) 0 ∷ get_or t (k * 5 + 4) 0 ∷ l)
    (back_from t (suc k) n (omega arith) ∙ ap (λ (m : ℕ). drop m t) j)
    ∙ sym (five_front t (k * 5) (omega arith))

pub words_back : (t : List ℕ) (n : ℕ) → length t ≡ n * 5 → list_words (records_of t n) ≡ t
words_back t n e =
    sym (append-nil (list_words (records_of t n))) ∙ ap (λ (l : List ℕ). list_words (records_of t n) ++ l) (sym (drop_of_length-le t {i = (0 + n) * 5} (omega arith))) ∙ back_from t 0 n (omega arith)

from_long : (t : List ℕ) (k n : ℕ) → length (records_from t k n) ≡ n
unfolding records_from
from_long t k zero = refl
from_long t k (suc n) = ap suc (from_long t (suc k) n)

-- Lists of equal length and equal words are equal.
words_told : (l m : List Declaration) → length l ≡ length m → list_words l ≡ list_words m → l ≡ m
unfolding list_words
words_told [] [] h e = refl
words_told [] (d ∷ m) h e = absurd (omega arith)
words_told (c ∷ l) [] h e = absurd (omega arith)
words_told (c ∷ l) (d ∷ m) h e =
    let kind : c.kind ≡ d.kind = cc in
    let start : c.name_start ≡ d.name_start = cc in
    let long : c.name_length ≡ d.name_length = cc in
    let type : c.type_row ≡ d.type_row = cc in
    let body : c.body_row ≡ d.body_row = cc in
    let rest : list_words l ≡ list_words m = cc in
    λ i. record { kind = kind i; name_start = start i; name_length = long i; type_row = type i; body_row = body i } ∷ words_told l m (omega arith) rest i

-- A list whose words are those of a table is the table's records.
pub listed_records : (l : List Declaration) (w : List ℕ) → list_words l ≡ w → l ≡ records_of w (length l)
listed_records l w e = words_told l (records_of w (length l)) (sym (from_long w 0 (length l))) (e ∙ sym (words_back w (length l) (sym (ap length e) ∙ sym (list_long l))))
