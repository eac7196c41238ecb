-- The answers of the small functions, case by case.
use Rattle.token.specs.declared.Class.{Class}
use Rattle.std.specs.Prelude.{Err}
use mathlib.Core.Path.{◌≡◌, sym, ap, subst, ◌∙◌}
use mathlib.Core.Bool.{Bool, cond}
use mathlib.Core.List.{List, []}
use Prim.Native.Nat.{ℕ, ◌*◌, ◌≤◌}
use lib.ListN.{length, take}
use Rattle.token.specs.declared.Refusal.{Refusal}
use Rattle.terms.specs.Label.{Declaration}
use Rattle.terms.specs.Rows.{joined, read_records}
use Rattle.surface.specs.Answer.{Answer, loaded}
use Rattle.surface.specs.Reader.{at_offset}
use Rattle.reader.specs.Answers.{ModuleRead}
use Rattle.core_module.specs.CoreText.{repeated}
use Rattle.core_loader.specs.inner.Stored.{told_refusal, Judges}

module _ (t list : List ℕ) (read : ModuleRead) (a : Answer) where
  pub judged_refused : (x : Refusal) → read ≡ Err x → a ≡ Err (told_refusal x) → Judges t read list a
  judged_refused x e f = subst (λ (y : ModuleRead). Judges t y list a) (sym e) f

  pub judged_done : (rows n : ℕ) → read ≡ loaded rows n → (b : Bool)
      → ((ds : List Declaration) → n ≡ length ds → n * 5 ≤ length list → n ≤ 4294967295 → take (n * 5) list ≡ joined (read_records 0 ds) → b ≡ repeated t [] ds)
      → a ≡ cond b (Err (at_offset Class.CoreText 0)) (loaded rows n) → Judges t read list a
  judged_done rows n e b k f =
      subst (λ (y : ModuleRead). Judges t y list a) (sym e)
      (λ ds p q r s. f ∙ ap (λ (c : Bool). cond c (Err (at_offset Class.CoreText 0)) (loaded rows n)) (k ds p q r s))
