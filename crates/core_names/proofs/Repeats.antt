-- Names used twice: one record, the loop over all, and the declarations that the records are of.
use Prim.Native.Nat.{ℕ, ◌+◌, ◌*◌}
use mathlib.Core.Path.{◌≡◌, refl, sym, ◌∙◌, ap}
use mathlib.Core.List.{List, [], ◌∷◌, ◌++◌}
use mathlib.Core.Option.{Option, none, some}
use mathlib.Core.Bool.{Bool, true, false, cond}
use lib.ListN.{length, take}
use Rattle.terms.specs.Tree.{next}
use Rattle.terms.specs.Label.{Name, Declaration, trees}
use Rattle.terms.specs.Resolution.{find}
use Rattle.terms.specs.Rows.{joined, read_records}
use Rattle.scope.specs.Scope.{declared_names}
use Rattle.scope.specs.Index.{name_at}
use Rattle.core_module.specs.CoreText.{repeated}
use Rattle.core_names.specs.inner.Repeats.{is_used, repeats}
use Rattle.core_names.proofs.Records.{HasRecords, records_behind, record_name, one_more_name}

module _ (s t : List ℕ) where
  repeats_from : (ds : List Declaration) (d k : ℕ) → HasRecords t d k ds → repeats s t d (length ds) ≡ repeated s (declared_names s t 0 d) ds
  unfolding repeats repeated is_used
  repeats_from [] d k h = refl
  repeats_from (x ∷ l) d k h =
      go (find (name_at s t d) earlier) _ _ (repeats_from l (d + 1) (next k (trees x)) (records_behind t d k x l h) ∙ ap (λ (g : List Name). repeated s g l) (one_more_name s t d))
      ∙ ap (λ (y : Name). elim (find y earlier) as (λ _. Bool) [ some i ↦ true | none ↦ repeated s (earlier ++ (y ∷ [])) l ]) (record_name t d k x l h s)
    where
      earlier : List Name
      earlier = declared_names s t 0 d

      go : (o : Option ℕ) (a b : Bool) → a ≡ b → cond (elim o as (λ _. Bool) [ some i ↦ true | none ↦ false ]) true a ≡ elim o as (λ _. Bool) [ some i ↦ true | none ↦ b ]
      go (some i) a b e = refl
      go none a b e = e

  -- By the records that reading stored.
  pub repeats_repeated : (ds : List Declaration) (count : ℕ) → count ≡ length ds → take (count * 5) t ≡ joined (read_records 0 ds) → repeats s t 0 count ≡ repeated s [] ds
  unfolding declared_names
  repeats_repeated ds count e h = ap (repeats s t 0) e ∙ repeats_from ds 0 0 (ap (λ (n : ℕ). take (n * 5) t) (sym e) ∙ h)
