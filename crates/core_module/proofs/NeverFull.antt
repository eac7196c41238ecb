-- With tables for its bytes a core text is never refused for want of room.
use Rattle.std.specs.Prelude.{Err}
use mathlib.Core.Path.{◌≡◌, refl, subst}
use mathlib.Core.List.{List, [], map}
use mathlib.Core.Bool.{Bool, true, false, ◌||◌, not, false≢true}
use Prim.Native.Nat.{ℕ, ◌/◌, ◌≤◌}
use native.Mathlib.Omega.{arith}
use lib.Dec.{leb, eqb}
use lib.ListN.{length}
use borrow.Author.Tests.{eqb-true}
use Rattle.token.specs.declared.Class.{Class}
use Rattle.token.specs.declared.Refusal.{Refusal}
use Rattle.words.specs.Words.{same_bytes}
use Rattle.utf8.specs.Utf8.{valid_length, byte_order_mark}
use Rattle.terms.specs.Label.{Declaration}
use Rattle.surface.specs.Reader.{Position, start, Result, done, refused, Reader, after, require}
use Rattle.surface.specs.Tables.{Lengths}
use Rattle.surface.specs.Loading.{frame_limit}
use Rattle.least_storage.specs.Statements.{is_full}
use Rattle.least_storage.proofs.FromSource.{from_source}
use Rattle.least_storage.proofs.Bytes.{Fits}
use Rattle.least_storage.proofs.TextBytes.{text_fits}
use Rattle.core_text.specs.TextReading.{read_text}
use Rattle.printing.specs.Printing.{print_module}
use Rattle.core_module.specs.CoreText.{told_class, told, repeated, spelled_text, reading_text, reading_canonical, text_outcome, read_core, read_canonical}
use Rattle.core_module.specs.Statements.{TextNeverFull}

-- A reader that refuses for something else.
abbrev Roomy : {A : Type 0} → Result A → Type 0
Roomy (done a p) = Unit {0}
Roomy (refused r) = is_full r.class ≡ false

roomy_after : {A B : Type 0} (x : Result A) (k : A → Reader B) → Roomy x → ((a : A) (p : Position) → Roomy (k a p)) → Roomy (after x k)
roomy_after (done a p) k h f = f a p
roomy_after (refused r) k h f = h

roomy_require : {B : Type 0} (b : Bool) (r : Refusal) (p : Position) (k : Unit {0} → Reader B) → is_full r.class ≡ false → Roomy (k tt p) → Roomy (after (require b r p) k)
roomy_require true r p k h f = f
roomy_require false r p k h f = h

-- The classes that reading has from the text are told as others than 8, 9 and 10.
not_full : (c : Class) → from_source c ≡ true → is_full (told_class c) ≡ false
not_full Class.SurfaceFull h = absurd (false≢true h)
not_full Class.DeclarationsFull h = absurd (false≢true h)
not_full Class.CoreShort h = absurd (false≢true h)
not_full c h = refl

roomy_told : (t : List ℕ) (x : Result (List Declaration)) → Fits t x → Roomy (told x)
roomy_told t (done ds q) h = tt
roomy_told t (refused r) h = not_full r.class h

module _ (t : List ℕ) (z : Lengths) (h : length t / 3 ≤ z.core / 8) (k : length t / 17 ≤ z.declarations / 5) where
  text_roomy : Roomy (reading_text t z start)
  unfolding reading_text
  text_roomy =
      roomy_require (leb 16384 z.work) _ start _ refl
      (roomy_require (leb (length t) 4294967295) _ start _ refl
      (roomy_require (eqb (valid_length t) (length t)) _ start _ refl
      (roomy_require (not (byte_order_mark t)) _ start _ refl
      (roomy_after (told (read_text t (z.core / 8) (z.declarations / 5) frame_limit start)) _ (roomy_told t (read_text t (z.core / 8) (z.declarations / 5) frame_limit start) (text_fits t (z.core / 8) (z.declarations / 5) frame_limit h k))
      (λ ds p. roomy_require (not (repeated t [] ds)) _ p _ refl tt)))))

  canonical_roomy : Roomy (reading_canonical t z start)
  unfolding reading_canonical
  canonical_roomy =
      roomy_after (reading_text t z start) _ text_roomy
      (λ ds p. roomy_require (same_bytes t (print_module (map (spelled_text t) ds))) _ p _ refl tt)

  answered : (x : Result (List Declaration)) → Roomy x → (r : Refusal) → (text_outcome z x).answer ≡ Err r → is_full r.class ≡ false
  answered (done ds q) f r e = absurd (let y : ◌≡◌ {A = ℕ} 0 1 = cc in omega arith)
  answered (refused c) f r e = subst (λ (x : Refusal). is_full x.class ≡ false) (let i : c ≡ r = cc in i) f

pub text_never_full : TextNeverFull
unfolding read_core read_canonical
text_never_full t z h k = (answered t z h k (reading_text t z start) (text_roomy t z h k), answered t z h k (reading_canonical t z start) (canonical_roomy t z h k))
