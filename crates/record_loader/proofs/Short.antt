-- Reading a core text is lent all of a table of at most 65,535 words for the declarations.
use mathlib.Core.Path.{◌≡◌, refl, sym, ap, ◌∙◌, subst}
use mathlib.Core.List.{List, [], ◌∷◌}
use mathlib.Core.Bool.{Bool, true, false}
use Prim.Native.Nat.{ℕ, zero, suc, ◌*◌, ◌≤◌, ◌<◌}
use native.Mathlib.Omega.{arith}
use lib.Dec.{ltb}
use lib.ListN.{length, take}
use lib.Seq.{take_all, length-take-le}
use borrow.Author.Tests.{ltb-true, ltb-false}
use Rattle.terms.specs.Rows.{pad}
use Rattle.surface.specs.Tables.{Tables, tables}
use Rattle.records.specs.Records.{word_limit}
use Rattle.records.proofs.Whole.{limit_below, limit_above}
use Rattle.record_loader.specs.Replies.{for_text, Besides}
use Rattle.record_loader.specs.Statements.{without_surface}

-- A table of such a length.
pub pad_same : (n : ℕ) (l : List ℕ) → length l ≡ n → pad n l ≡ l
pad_same zero [] e = refl
pad_same zero (x ∷ l) e = absurd (omega arith)
pad_same (suc n) [] e = absurd (omega arith)
pad_same (suc n) (x ∷ l) e = λ i. x ∷ pad_same n l (omega arith) i

-- Its front, where it is lengthened.
pub take_padded : (k m : ℕ) (l : List ℕ) → length l ≡ k → k ≤ m → take k (pad m l) ≡ l
take_padded zero m [] e h = refl
take_padded zero m (x ∷ l) e h = absurd (omega arith)
take_padded (suc k) m [] e h = absurd (omega arith)
take_padded (suc k) zero (x ∷ l) e h = absurd (omega arith)
take_padded (suc k) (suc m) (x ∷ l) e h = λ i. x ∷ take_padded k m l (omega arith) (omega arith) i

-- The words of n records, of which so many are lent.
module _ (n : ℕ) where
  pub first_long : (t : List ℕ) → length t ≡ n * 5 → length (take 65535 t) ≡ word_limit n 65535
  first_long t e = by_test (ltb n 13107) refl
    where
      by_test : (b : Bool) → ltb n 13107 ≡ b → length (take 65535 t) ≡ word_limit n 65535
      by_test true f = let h : n < 13107 = ltb-true n 13107 f in ap length (take_all 65535 t (omega arith)) ∙ e ∙ limit_below n 65535 h
      by_test false f = let h : 13107 ≤ n = ltb-false n 13107 f in length-take-le 65535 t (omega arith) ∙ limit_above n 65535 h

  pub first_words : (l : List ℕ) → length l ≡ word_limit n 65535 → take 65535 (pad (n * 5) l) ≡ l
  first_words l e = by_test (ltb n 13107) refl
    where
      by_test : (b : Bool) → ltb n 13107 ≡ b → take 65535 (pad (n * 5) l) ≡ l
      by_test true f =
          let h : n < 13107 = ltb-true n 13107 f in
          let i : length l ≡ n * 5 = e ∙ sym (limit_below n 65535 h) in
          ap (take 65535) (pad_same (n * 5) l i) ∙ take_all 65535 l (omega arith)
      by_test false f = let h : 13107 ≤ n = ltb-false n 13107 f in take_padded 65535 (n * 5) l (e ∙ sym (limit_above n 65535 h)) (omega arith)

pub text_all : (t : Tables) → length t.declarations ≤ 65535 → for_text t ≡ without_surface t
text_all t h = ap (λ (d : List ℕ). tables [] t.core d t.work) (take_all 65535 t.declarations h)

module _ (before after : Tables) (h : length before.declarations ≤ 65535) (e : length after.declarations ≡ length before.declarations) where
  short : length after.declarations ≤ 65535
  short = omega arith

  pub all_read : (P : Tables → Tables → Type 0) → P (without_surface before) (without_surface after) → P (for_text before) (for_text after)
  all_read P p = subst (λ t. P t (for_text after)) (sym (text_all before h)) (subst (P (without_surface before)) (sym (text_all after short)) p)

  pub all_besides : after.surface ≡ before.surface → Besides before after
  all_besides s = record { surface_kept = s; rest_blank = sym (ap (pad (length before.declarations)) (take_all 65535 after.declarations short) ∙ pad_same (length before.declarations) after.declarations e) }
