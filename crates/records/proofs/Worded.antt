-- A table of words that is written from the front with the fields of a list of records: after k turns it is `words_of` of the first k.
use mathlib.Core.Path.{◌≡◌, refl, sym, ◌∙◌, ap}
use Prim.Native.Nat.{ℕ, suc, ◌+◌, ◌*◌, ◌/◌, ◌<◌}
use native.Mathlib.Numerals.{add-one}
use native.Mathlib.Omega.{arith}
use mathlib.Core.Bool.{Bool, true, false, cond}
use mathlib.Core.List.{List, [], ◌∷◌, ◌++◌}
use lib.Dec.{ltb}
use lib.ListN.{length, take, get_or, length-set}
use lib.Seq.{take-suc, take-length, length-take-le}
use Rattle.records.specs.declared.Declaration.{Declaration}
use Rattle.records.specs.Records.{blank, set_five, record_put, words_of}

pub put_length : (ws : List ℕ) (k : ℕ) (d : Declaration) → length (record_put ws k d) ≡ length ws
unfolding record_put
put_length ws k d = by_test (ltb k (length ws / 5))
  where
    by_test : (b : Bool) → length (cond b (set_five ws (k * 5) d) ws) ≡ length ws
    by_test true = simp length-set
    by_test false = refl

pub words_length : (ds : List Declaration) (j : ℕ) (ws : List ℕ) → length (words_of ds j ws) ≡ length ws
unfolding words_of
words_length [] j ws = refl
words_length (d ∷ ds) j ws = words_length ds (suc j) (record_put ws j d) ∙ put_length ws j d

pub words_snoc : (ds : List Declaration) (d : Declaration) (j : ℕ) (ws : List ℕ) → words_of (ds ++ (d ∷ [])) j ws ≡ record_put (words_of ds j ws) (j + length ds) d
unfolding words_of
words_snoc [] d j ws = ap (λ (i : ℕ). record_put ws i d) (omega arith)
words_snoc (e ∷ ds) d j ws = words_snoc ds d (suc j) (record_put ws j e) ∙ ap (λ (i : ℕ). record_put (words_of ds (suc j) (record_put ws j e)) i d) (omega arith)

module _ (ds : List Declaration) (ws : List ℕ) where
  abbrev pub worded : ℕ → List ℕ
  worded k = words_of (take k ds) 0 ws

  pub worded_none : worded 0 ≡ ws
  unfolding words_of
  worded_none = refl

  pub worded_length : (k : ℕ) → length (worded k) ≡ length ws
  worded_length k = words_length (take k ds) 0 ws

  pub worded_next : (k : ℕ) → k < length ds → record_put (worded k) k (get_or ds k blank) ≡ worded (k + 1)
  worded_next k h =
      ap (λ (i : ℕ). record_put (worded k) i (get_or ds k blank)) (omega (arith, length-take-le k ds (omega arith)))
      ∙ sym (words_snoc (take k ds) (get_or ds k blank) 0 ws)
      ∙ ap (λ (l : List Declaration). words_of l 0 ws) (sym (take-suc ds k blank h))
      ∙ ap (λ (i : ℕ). worded i) (sym (add-one k))

  pub worded_all : worded (length ds) ≡ words_of ds 0 ws
  worded_all = ap (λ (l : List Declaration). words_of l 0 ws) (take-length ds)
