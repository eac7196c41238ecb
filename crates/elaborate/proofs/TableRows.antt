-- Rows read from a table place by place, and rows stored one behind the other.
use Prim.Native.Nat.{ℕ, suc, ◌+◌, ◌*◌, ◌/◌, ◌≤◌, ◌<◌}
use mathlib.Core.Path.{◌≡◌, refl, sym, ◌∙◌, ap}
use mathlib.Core.List.{List, [], ◌∷◌, ◌++◌, append_assoc, append-nil}
use native.Mathlib.Omega.{arith}
use native.Mathlib.Numerals.{add-one}
use native.Mathlib.Nat.{suc-mul, add-zero}
use lib.ListN.{length, take, drop}
use lib.Seq.{take-take, take_at, drop_at, take-add, drop-drop, take_all}
use Rattle.terms.specs.Rows.{joined}
use Rattle.terms.proofs.Tables.{Wide, length_joined}
use Rattle.rows.specs.Places.{stored_at}
use Rattle.rows.proofs.Storing.{take_next, drop_next, length_stored_at}
use Rattle.elaborate.proofs.RowWords.{place}

-- The table has these rows from place k on.
abbrev pub HasRows : ℕ → List ℕ → ℕ → List (List ℕ) → Type 0
HasRows w t k [] = Unit {0}
HasRows w t k (r ∷ rs) = (place w t k ≡ r) × HasRows w t (suc k) rs

module _ (w : ℕ) (t : List ℕ) where
  pub has_rows : (k : ℕ) (rs : List (List ℕ)) → Wide w rs → take (length rs * w) (drop (k * w) t) ≡ joined rs → HasRows w t k rs
  has_rows k [] h e = tt
  has_rows k (r ∷ rs) h e =
      let x = drop (k * w) t in
      let m = length rs * w in
      let f : take (w + m) x ≡ r ++ joined rs = ap (λ (n : ℕ). take n x) (let z : w + m ≡ suc (length rs) * w = omega (arith, suc-mul (length rs) w) in z) ∙ e in
      let g : take w x ≡ r = sym (take-take w (w + m) x (omega arith)) ∙ ap (take w) f ∙ take_at r (joined rs) w h.0 in
      let rest : take m (drop (suc k * w) t) ≡ joined rs =
      ap (λ (n : ℕ). take m (drop n t)) (let z : suc k * w ≡ k * w + w = omega (arith, suc-mul k w) in z)
      ∙ ap (take m) (sym (drop-drop w (k * w) t))
      ∙ sym (drop_at r (take m (drop w x)) w h.0)
      ∙ ap (λ (l : List ℕ). drop w (l ++ take m (drop w x))) (sym g)
      ∙ ap (drop w) (sym (take-add w m x) ∙ f)
      ∙ drop_at r (joined rs) w h.0 in
      (g, has_rows (suc k) rs h.1 rest)

-- A table whose beginning is rows is as long as they are.
long_enough : (n : ℕ) (t : List ℕ) → length (take n t) ≡ n → n ≤ length t
long_enough n t e = elim (native.Mathlib.Decide.dec_le n (length t)) [
  | yes h ↦ h
  | no h ↦ omega (arith, ap length (take_all n t (omega arith)))
]

pub table_length : (w : ℕ) (t : List ℕ) (rs : List (List ℕ)) (n : ℕ) → n ≡ length rs → Wide w rs → take (n * w) t ≡ joined rs → n * w ≤ length t
table_length w t rs n e h q =
    long_enough (n * w) t (ap length q ∙ length_joined w rs h ∙ ap (λ (m : ℕ). m * w) (sym e))

-- Rows stored from place k on.
abbrev pub stored_rows : List ℕ → ℕ → List (List ℕ) → List ℕ
stored_rows core k [] = core
stored_rows core k (r ∷ rs) = stored_rows (stored_at 8 core k r) (suc k) rs

pub stored_append : (core : List ℕ) (k : ℕ) (xs ys : List (List ℕ)) → stored_rows core k (xs ++ ys) ≡ stored_rows (stored_rows core k xs) (k + length xs) ys
stored_append core k [] ys = ap (λ (n : ℕ). stored_rows core n ys) (sym (add-zero k))
stored_append core k (x ∷ xs) ys =
    stored_append (stored_at 8 core k x) (suc k) xs ys
    ∙ ap (λ (n : ℕ). stored_rows (stored_rows (stored_at 8 core k x) (suc k) xs) n ys) (let z : suc k + length xs ≡ k + suc (length xs) = omega arith in z)

-- What stands in the table then.
pub stored_words : (core : List ℕ) (k : ℕ) (rs : List (List ℕ)) → Wide 8 rs → (k + length rs) * 8 ≤ length core
    → (take ((k + length rs) * 8) (stored_rows core k rs) ≡ take (k * 8) core ++ joined rs) × (drop ((k + length rs) * 8) (stored_rows core k rs) ≡ drop ((k + length rs) * 8) core)
stored_words core k [] h b =
    (ap (λ (n : ℕ). take (n * 8) core) (add-zero k) ∙ sym (append-nil (take (k * 8) core)), refl)
stored_words core k (r ∷ rs) h b =
    let c = stored_at 8 core k r in
    let place_there : k < length core / 8 = omega arith in
    let eight : 0 < 8 = omega arith in
    let end : k + suc (length rs) ≡ suc k + length rs = omega arith in
    let n : length c ≡ length core = length_stored_at 8 core k r h.0 eight in
    let ih = stored_words c (suc k) rs h.1 (omega arith) in
    let one : suc k ≡ k + 1 = sym (add-one k) in
    let before : take (suc k * 8) c ≡ take (k * 8) core ++ r = ap (λ (m : ℕ). take (m * 8) c) one ∙ take_next 8 core k r h.0 eight place_there in
    let behind : drop (suc k * 8) c ≡ drop (suc k * 8) core = ap (λ (m : ℕ). drop (m * 8) c) one ∙ drop_next 8 core k r h.0 eight place_there ∙ ap (λ (m : ℕ). drop (m * 8) core) (sym one) in
    let m = length rs * 8 in
    let far : (suc k + length rs) * 8 ≡ suc k * 8 + m = omega arith in (
      ap (λ (x : ℕ). take (x * 8) (stored_rows c (suc k) rs)) end ∙ ih.0 ∙ ap (λ (l : List ℕ). l ++ joined rs) before ∙ append_assoc (take (k * 8) core) r (joined rs),
      ap (λ (x : ℕ). drop (x * 8) (stored_rows c (suc k) rs)) end
          ∙ ih.1
          ∙ ap (λ (x : ℕ). drop x c) far
          ∙ sym (drop-drop m (suc k * 8) c)
          ∙ ap (drop m) behind
          ∙ drop-drop m (suc k * 8) core
          ∙ ap (λ (x : ℕ). drop x core) (sym far)
          ∙ ap (λ (x : ℕ). drop (x * 8) core) (sym end),
    )
