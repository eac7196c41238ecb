-- The first records of a table are those of its front, and what is the same core as the front is the same core as the table.
use mathlib.Core.Path.{◌≡◌, refl, sym, ap, ◌∙◌}
use mathlib.Core.List.{List, [], ◌∷◌, map}
use Prim.Native.Nat.{ℕ, zero, suc, ◌+◌, ◌-◌, ◌*◌, ◌≤◌}
use native.Mathlib.Omega.{arith}
use lib.ListN.{take, drop}
use lib.Seq.{take-nil}
use Rattle.terms.specs.Content.{record_content}
use Rattle.terms.specs.Rows.{first_rows}
use Rattle.surface.specs.Answer.{Answer}
use Rattle.surface.specs.Tables.{Tables, leaves}
use Rattle.surface.specs.Loading.{Outcome}
use Rattle.surface.specs.SameCore.{declaration_count}
use Rattle.core_module.specs.SameText.{SameText}
use Rattle.record_loader.specs.Replies.{for_text}

-- A front of m words, w of which are taken or left out.
take_front : (w m : ℕ) (t : List ℕ) → w ≤ m → take w (take m t) ≡ take w t
take_front zero m t h = refl
take_front (suc w) zero t h = absurd (omega arith)
take_front (suc w) (suc m) [] h = refl
take_front (suc w) (suc m) (x ∷ t) h = λ i. x ∷ take_front w m t (omega arith) i

drop_front : (w m k : ℕ) (t : List ℕ) → m ≡ w + k → drop w (take m t) ≡ take k (drop w t)
drop_front zero m k t h = let e : m ≡ k = omega arith in ap (λ (n : ℕ). take n t) e
drop_front (suc w) zero k t h = absurd (omega arith)
drop_front (suc w) (suc m) k [] h = sym (take-nil k)
drop_front (suc w) (suc m) k (x ∷ t) h = drop_front w m k t (omega arith)

pub first_front : (n m : ℕ) (t : List ℕ) → n * 5 ≤ m → first_rows 5 n (take m t) ≡ first_rows 5 n t
first_front zero m t h = refl
first_front (suc n) m t h =
    let rest : first_rows 5 n (drop 5 (take m t)) ≡ first_rows 5 n (drop 5 t) = ap (first_rows 5 n) (drop_front 5 m (m - 5) t (omega arith)) ∙ first_front n (m - 5) (drop 5 t) (omega arith) in
    λ i. take_front 5 m t (omega arith) i ∷ rest i

-- Where the front has room for the records that count.
pub same_whole : (s : List ℕ) (a : Outcome) (t : List ℕ) (b : Answer) (left : Tables) → declaration_count a.answer ≤ 13107 → SameText s a t (leaves b (for_text left)) → SameText s a t (leaves b left)
same_whole s a t b left h k = record {
  row_counts = k.row_counts;
  declaration_counts = k.declaration_counts;
  same_rows = k.same_rows;
  same_declarations = k.same_declarations ∙ ap (map (record_content t)) (first_front (declaration_count b) 65535 left.declarations (omega (arith, h, k.declaration_counts)));
}
