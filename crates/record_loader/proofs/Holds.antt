-- What the list holds after loading: the declarations' records in order, and blanks behind them; after a refusal blanks alone.
use mathlib.Core.Path.{◌≡◌, refl, sym, ap, ◌∙◌}
use mathlib.Core.List.{List, []}
use mathlib.Core.Bool.{Bool, true, false}
use Prim.Native.Nat.{ℕ, zero, suc, ◌+◌, ◌*◌, ◌/◌, ◌≤◌, ◌<◌}
use native.Mathlib.Omega.{arith}
use lib.Dec.{ltb}
use lib.ListN.{length, get_or, get_or-eq_default}
use borrow.Author.Tests.{ltb-true, ltb-false}
use Rattle.terms.specs.Label.{Declaration}
use Rattle.terms.specs.Resolution.{resolve_module}
use Rattle.terms.specs.Rows.{pad, joined, declaration_records}
use Rattle.terms.proofs.Tables.{length_pad, getD_pad, length_joined, joined_at}
use Rattle.terms.proofs.Widths.{wide_records, count_records}
use Rattle.surface.specs.Reader.{Position, start, Result, done, refused}
use Rattle.surface.specs.Answer.{Answer}
use Rattle.surface.specs.Tables.{Lengths, tables, leaves}
use Rattle.surface.specs.Loading.{Outcome, outcome, loading, load}
use Rattle.records.specs.declared.Declaration as R
use Rattle.records.specs.Records.{blank, five_words, record_at, records_from, records_of}
use Rattle.records.proofs.Whole.{at_whole, at_behind}
use Rattle.record_loader.proofs.Lists.{five_same}
use Rattle.record_loader.proofs.Room.{with_words, loading_few}
use Rattle.record_loader.proofs.Words.{listed_records}
use Rattle.record_loader.specs.Recorded.{list_words}

-- Record k of a list that a table gives.
from_at : (t : List ℕ) (k n i : ℕ) → i < n → get_or (records_from t k n) i blank ≡ record_at t (k + i)
unfolding records_from
from_at t k zero i h = absurd (omega arith)
from_at t k (suc n) zero h = ap (record_at t) (omega arith)
from_at t k (suc n) (suc i) h = from_at t (suc k) n i (omega arith) ∙ ap (record_at t) (omega arith)

list_at : (t : List ℕ) (n i : ℕ) → i < n → get_or (records_of t n) i blank ≡ record_at t i
list_at t n i h = from_at t 0 n i h ∙ ap (record_at t) (omega arith)

-- Where a table has only 0, a record is blank.
zeros_blank : (t : List ℕ) (k : ℕ) → ((i : ℕ) → k * 5 ≤ i → get_or t i 0 ≡ 0) → record_at t k ≡ blank
zeros_blank t k h = by_test (ltb k (length t / 5)) refl
  where
    by_test : (b : Bool) → ltb k (length t / 5) ≡ b → record_at t k ≡ blank
    by_test true e = sym (at_whole t k (ltb-true k (length t / 5) e)) ∙ five_same t [] (k * 5) (λ i l _. h i l)
    by_test false e = sym (at_behind t k (ltb-false k (length t / 5) e))

padded_blank : (m : ℕ) (l : List ℕ) (k : ℕ) → length l ≤ k * 5 → record_at (pad m l) k ≡ blank
padded_blank m l k h = zeros_blank (pad m l) k (λ i j. by_test i j (ltb i m) refl)
  where
    by_test : (i : ℕ) → k * 5 ≤ i → (b : Bool) → ltb i m ≡ b → get_or (pad m l) i 0 ≡ 0
    by_test i j true e = getD_pad m l i (ltb-true i m e) ∙ get_or-eq_default l 0 (omega arith)
    by_test i j false e = get_or-eq_default (pad m l) 0 (omega (arith, length_pad m l, ltb-false i m e))

module _ (s : List ℕ) (z : Lengths) (n : ℕ) where
  -- The list of n records that loading leaves.
  abbrev pub list : List R.Declaration
  list = records_of (load s (with_words z (n * 5))).tables.declarations n

  -- A list of n records with whose words loading is promised is this one.
  pub held : (l : List R.Declaration) → length l ≡ n → (a : Answer) (surface core work : List ℕ) → leaves a (tables surface core (list_words l) work) ≡ load s (with_words z (n * 5)) → l ≡ list
  held l h a surface core work e =
      listed_records l _ (ap (λ (o : Outcome). o.tables.declarations) e) ∙ ap (records_of (load s (with_words z (n * 5))).tables.declarations) h

  abbrev result : Result (List Declaration)
  result = loading s (with_words z (n * 5)) start

  -- After a refusal every record is blank.
  pub refused_blank : (k : ℕ) (r : _) → result ≡ refused r → k < n → get_or list k blank ≡ blank
  unfolding load
  refused_blank k r e h =
      ap (λ x. get_or (records_of (outcome s (with_words z (n * 5)) x).tables.declarations n) k blank) e
      ∙ list_at (pad (n * 5) []) n k h ∙ padded_blank (n * 5) [] k (omega arith)

  module _ (ds : List Declaration) (p : Position) (e : result ≡ done ds p) where
    abbrev stored : List (List ℕ)
    stored = declaration_records 0 (resolve_module s [] ds)

    long : length (joined stored) ≡ length ds * 5
    long = length_joined 5 stored (wide_records 0 (resolve_module s [] ds)) ∙ ap (λ (m : ℕ). m * 5) (count_records s [] 0 ds)

    here : (k : ℕ) → k < n → get_or list k blank ≡ record_at (pad (n * 5) (joined stored)) k
    unfolding load
    here k h = ap (λ x. get_or (records_of (outcome s (with_words z (n * 5)) x).tables.declarations n) k blank) e ∙ list_at (pad (n * 5) (joined stored)) n k h

    -- After acceptance record k has the five words of declaration k.
    pub loaded_record : (k : ℕ) → k < length ds → get_or list k blank ≡ five_words (get_or stored k []) 0
    loaded_record k h =
        let room : length ds ≤ n = omega (arith, loading_few s (with_words z (n * 5)) p ds e) in
        here k (omega arith) ∙ sym (at_whole (pad (n * 5) (joined stored)) k (omega (arith, length_pad (n * 5) (joined stored))))
        ∙ λ i. record { kind = (ap (λ (m : ℕ). get_or (pad (n * 5) (joined stored)) m 0) (none k) ∙ word k h room 0 (omega arith)) i; name_start = word k h room 1 (omega arith) i; name_length = word k h room 2 (omega arith) i; type_row = word k h room 3 (omega arith) i; body_row = word k h room 4 (omega arith) i }
      where
        none : (k : ℕ) → k * 5 ≡ k * 5 + 0
        none k = omega arith

        word : (k : ℕ) → k < length ds → length ds ≤ n → (j : ℕ) → j < 5 → get_or (pad (n * 5) (joined stored)) (k * 5 + j) 0 ≡ get_or (get_or stored k []) j 0
        word k h room j l = getD_pad (n * 5) (joined stored) (k * 5 + j) (omega arith) ∙ joined_at 5 stored (wide_records 0 (resolve_module s [] ds)) k j (omega (arith, count_records s [] 0 ds)) l

    -- Behind the last declaration every record is blank.
    pub behind_blank : (k : ℕ) → length ds ≤ k → k < n → get_or list k blank ≡ blank
    behind_blank k h l = here k l ∙ padded_blank (n * 5) (joined stored) k (omega (arith, long))
