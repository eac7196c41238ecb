-- The names in the records of a declaration list are those of the declarations.
use Prim.Native.Nat.{ℕ, zero, suc, ◌+◌, ◌*◌, ◌<◌}
use mathlib.Core.Path.{◌≡◌, sym, ◌∙◌, ap, ap₂}
use mathlib.Core.List.{List, [], ◌∷◌, ◌++◌}
use native.Mathlib.Omega.{arith}
use native.Mathlib.Numerals.{add-one}
use native.Mathlib.Nat.{add-zero}
use lib.ListN.{length, get_or, take, drop}
use Rattle.std.proofs.lemmas.List.{drop-take}
use lib.Seq.{drop-drop, drop_at, get_or-take, get_or-drop}
use Rattle.terms.specs.Tree.{next, roots}
use Rattle.terms.specs.Label.{Name, part, Declaration, trees, declared_name}
use Rattle.terms.specs.Rows.{joined, read_record, read_records}
use Rattle.terms.proofs.Tables.{length_pad}
use Rattle.scope.specs.Scope.{declared_names}
use Rattle.scope.specs.Index.{name_at}

-- The table has the records of these declarations from place d on, of which the first has the rows from row k on.
abbrev pub HasRecords : List ℕ → ℕ → ℕ → List Declaration → Type 0
HasRecords t d k ds = take (length ds * 5) (drop (d * 5) t) ≡ joined (read_records k ds)

module _ (t : List ℕ) (d k : ℕ) (x : Declaration) (l : List Declaration) (h : HasRecords t d k (x ∷ l)) where
  five : length (read_record k x) ≡ 5
  five = ap (λ (n : ℕ). suc (suc (suc n))) (length_pad 2 (roots k (trees x)))

  pub records_behind : HasRecords t (d + 1) (next k (trees x)) l
  records_behind =
      let m = length l * 5 in
      ap (λ (n : ℕ). take m (drop n t)) (let z : (d + 1) * 5 ≡ d * 5 + 5 = omega arith in z)
      ∙ ap (take m) (sym (drop-drop 5 (d * 5) t))
      ∙ sym (ap (λ (n : ℕ). drop 5 (take n (drop (d * 5) t))) (let z : suc (length l) * 5 ≡ 5 + m = omega arith in z) ∙ drop-take 5 m (drop (d * 5) t))
      ∙ ap (drop 5) h
      ∙ drop_at (read_record k x) (joined (read_records (next k (trees x)) l)) 5 five

  word : (j : ℕ) → j < 5 → get_or t (d * 5 + j) 0 ≡ get_or (read_record k x ++ joined (read_records (next k (trees x)) l)) j 0
  word j b = sym (get_or-drop (d * 5) t j 0) ∙ sym (get_or-take (suc (length l) * 5) (drop (d * 5) t) j 0 (omega arith)) ∙ ap (λ (w : List ℕ). get_or w j 0) h

  pub record_name : (s : List ℕ) → name_at s t d ≡ declared_name s x
  record_name s = ap₂ (part s) (word 1 (omega arith)) (word 2 (omega arith))

names_snoc : (s t : List ℕ) (k d : ℕ) → declared_names s t k (suc d) ≡ declared_names s t k d ++ (name_at s t (k + d) ∷ [])
unfolding declared_names
names_snoc s t k zero = ap (λ (m : ℕ). name_at s t m ∷ []) (sym (add-zero k))
names_snoc s t k (suc d) =
    ap (λ (l : List Name). name_at s t k ∷ l)
    (names_snoc s t (suc k) d ∙ ap (λ (m : ℕ). declared_names s t (suc k) d ++ (name_at s t m ∷ [])) (let z : suc k + d ≡ k + suc d = omega arith in z))

pub one_more_name : (s t : List ℕ) (d : ℕ) → declared_names s t 0 (d + 1) ≡ declared_names s t 0 d ++ (name_at s t d ∷ [])
one_more_name s t d =
    ap (declared_names s t 0) (add-one d)
    ∙ names_snoc s t 0 d
    ∙ ap (λ (m : ℕ). declared_names s t 0 d ++ (name_at s t m ∷ [])) (let z : 0 + d ≡ d = omega arith in z)
