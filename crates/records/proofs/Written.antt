-- A list of records that is written from the front with what a table of words says: after k turns the first k are the table's, and the rest as they were.
use mathlib.Core.Path.{◌≡◌, refl, sym, ◌∙◌, ap}
use Prim.Native.Nat.{ℕ, zero, suc, ◌+◌, ◌≤◌, ◌<◌}
use native.Mathlib.Nat.{zero-add}
use native.Mathlib.Numerals.{add-one}
use native.Mathlib.Omega.{arith}
use mathlib.Core.List.{List, [], ◌∷◌, ◌++◌, append_assoc, append-nil}
use lib.ListN.{length, drop, set, length-append, length-drop}
use lib.Seq.{drop-cons, set_at, drop-length}
use Rattle.records.specs.declared.Declaration.{Declaration}
use Rattle.records.specs.Records.{blank, record_at, records_from}

pub list_length : (ws : List ℕ) (j n : ℕ) → length (records_from ws j n) ≡ n
unfolding records_from
list_length ws j zero = refl
list_length ws j (suc n) = ap suc (list_length ws (suc j) n)

pub list_snoc : (ws : List ℕ) (j n : ℕ) → records_from ws j (suc n) ≡ records_from ws j n ++ (record_at ws (j + n) ∷ [])
unfolding records_from
list_snoc ws j zero = ap (λ (i : ℕ). record_at ws i ∷ []) (omega arith)
list_snoc ws j (suc n) = ap (λ (l : List Declaration). record_at ws j ∷ l) (list_snoc ws (suc j) n ∙ ap (λ (i : ℕ). records_from ws (suc j) n ++ (record_at ws i ∷ [])) (omega arith))

module _ (ws : List ℕ) (ys : List Declaration) where
  abbrev pub written : ℕ → List Declaration
  written k = records_from ws 0 k ++ drop k ys

  pub written_none : written 0 ≡ ys
  unfolding records_from
  written_none = refl

  pub written_length : (k : ℕ) → k ≤ length ys → length (written k) ≡ length ys
  written_length k h = length-append (records_from ws 0 k) (drop k ys) ∙ omega (arith, list_length ws 0 k, length-drop k ys)

  pub written_next : (k : ℕ) → k < length ys → set (written k) k (record_at ws k) ≡ written (k + 1)
  written_next k h =
      ap (λ (l : List Declaration). set (records_from ws 0 k ++ l) k (record_at ws k)) (drop-cons ys k blank h)
      ∙ set_at (records_from ws 0 k) _ (drop (suc k) ys) (record_at ws k) k (list_length ws 0 k)
      ∙ sym (append_assoc (records_from ws 0 k) (record_at ws k ∷ []) (drop (suc k) ys))
      ∙ ap (λ (i : ℕ). (records_from ws 0 k ++ (record_at ws i ∷ [])) ++ drop (suc k) ys) (sym (zero-add k))
      ∙ ap (λ (l : List Declaration). l ++ drop (suc k) ys) (sym (list_snoc ws 0 k))
      ∙ ap (λ (i : ℕ). written i) (sym (add-one k))

  pub written_all : written (length ys) ≡ records_from ws 0 (length ys)
  written_all = ap (λ (l : List Declaration). records_from ws 0 (length ys) ++ l) (drop-length ys) ∙ append-nil (records_from ws 0 (length ys))
