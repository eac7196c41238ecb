-- The refusals of `storage` are those of loading.
use Rattle.token.specs.declared.Class.{Class}
use Rattle.std.specs.Prelude.{Err}
use mathlib.Core.Path.{◌≡◌, refl, sym, ap, ◌∙◌, subst}
use mathlib.Core.List.{List, []}
use mathlib.Core.Option.{Option, none, some}
use mathlib.Core.Bool.{Bool, true, false, false≢true}
use Prim.Native.Nat.{ℕ, ◌/◌, ◌≤◌}
use native.Mathlib.Omega.{arith}
use lib.Dec.{leb, eqb}
use lib.ListN.{length}
use borrow.Author.Tests.{eqb-true, le-leb}
use Rattle.std.specs.Prelude.{Err}
use Rattle.token.specs.declared.Refusal.{Refusal}
use Rattle.terms.specs.Label.{Declaration}
use Rattle.terms.specs.Resolution.{RefusedName, first_refused}
use Rattle.surface.specs.Answer.{Answer}
use Rattle.surface.specs.Reader.{Position, start, Result, done, refused, after, nowhere}
use Rattle.surface.specs.Tables.{Lengths, ample}
use Rattle.surface.specs.Loading.{parsing, accept, outcome}
use Rattle.least_storage.specs.Answer.{Storage}
use Rattle.least_storage.specs.Storage.{needed, storage}
use Rattle.least_storage.specs.Statements.{met_first, cut_short, storage_refusal, RefusedHere, OnlyThese, BytesAreEnough, is_full, NeverFull, RefusedThere}
use Rattle.least_storage.proofs.Ends.{Ends, as_before, no_row, no_declaration}
use Rattle.least_storage.proofs.MetFirst.{Short, nothing, eight, nine, met_short}
use Rattle.least_storage.proofs.Parsed.{Roomy, parsing_roomy, parsed_alike, ample_ends}
use Rattle.least_storage.proofs.Loaded.{tested, rest, loads_by, answers_by, refused_load, alike_by, Late, late}

refused_inj : {a b : Refusal} → ◌≡◌ {A = Answer} (Err a) (Err b) → a ≡ b
refused_inj e = cc

pub only_these : OnlyThese
unfolding storage
only_these s work r e = go (parsing s (ample s work) start) (parsing_roomy s (ample s work) (omega arith) (omega arith)) e
  where
    go : (x : Result (List Declaration)) → Roomy s x → needed x ≡ Err r → storage_refusal r.class ≡ true
    go (done ds q) k f = absurd (let z : ◌≡◌ {A = ℕ} 0 1 = cc in omega arith)
    go (refused b) k f = subst (λ (r : Refusal). storage_refusal r.class ≡ true) (let i : b ≡ r = cc in i) k

-- A refusal that is among those of `storage` came from parsing, and neither for want of room nor for a name.
module _ (s : List ℕ) (z : Lengths) (c : Refusal) (m : storage_refusal c.class ≡ true) where
  other : (b : Refusal) → storage_refusal b.class ≡ false → {P : Type 0} → ◌≡◌ {A = Answer} (Err b) (Err c) → P
  other b f e = absurd (false≢true (sym f ∙ ap (λ (r : Refusal). storage_refusal r.class) (refused_inj e) ∙ m))

  named_not : (ds : List Declaration) (p : Position) (o : Option RefusedName) → Late o
      → (outcome s z (after (accept o p) (λ _ r. done ds r))).answer ≡ Err c → ⊥
  named_not ds p none h e = let y : ◌≡◌ {A = ℕ} 0 1 = cc in omega arith
  named_not ds p (some n) h e = other (nowhere n.class) h.0 e

  done_not : (ds : List Declaration) (p : Position) (b : Bool) → (outcome s z (tested s ds p b)).answer ≡ Err c → ⊥
  done_not ds p true e = named_not ds p (first_refused s [] ds) (late s [] ds) e
  done_not ds p false e = other (nowhere Class.CoreShort) refl e

  by_ends : (x y : Result (List Declaration)) → Ends (z.surface / 8) (z.declarations / 5) 0 x y
      → (outcome s z (rest s (z.core / 8) x)).answer ≡ Err c → needed y ≡ Err c
  by_ends x (done ds q) w e =
      absurd (go (met_first (z.surface / 8) (z.declarations / 5) 0 ds) (met_short (z.surface / 8) (z.declarations / 5) 0 ds)
      (ap (λ (x : Result (List Declaration)). (outcome s z (rest s (z.core / 8) x)).answer) (sym w) ∙ e))
    where
      go : (o : Option Class) → Short o → (outcome s z (rest s (z.core / 8) (cut_short o (done ds q)))).answer ≡ Err c → ⊥
      go o nothing e = done_not ds q (leb q.rows (z.core / 8)) e
      go o eight e = other (nowhere Class.SurfaceFull) refl e
      go o nine e = other (nowhere Class.DeclarationsFull) refl e
  by_ends x (refused b) as_before e = ap {B = Storage} Err (refused_inj e)
  by_ends x (refused b) no_row e = other (nowhere Class.SurfaceFull) refl e
  by_ends x (refused b) no_declaration e = other (nowhere Class.DeclarationsFull) refl e

pub refused_here : RefusedHere
unfolding storage
refused_here s z r m e = by_ends s z r m (parsing s z start) (parsing s (ample s z.work) start) (ample_ends s z) (sym (answers_by s z) ∙ e)

pub refused_there : RefusedThere
unfolding storage
refused_there s z r h e =
    refused_load s z r
    (parsed_alike s z (ample s z.work) h.surface h.declarations (omega arith) (omega arith) refl ∙ go (parsing s (ample s z.work) start) e)
  where
    go : (x : Result (List Declaration)) → needed x ≡ Err r → x ≡ refused r
    go (done ds q) f = absurd (let y : ◌≡◌ {A = ℕ} 0 1 = cc in omega arith)
    go (refused b) f = ap {B = Result (List Declaration)} refused (let i : b ≡ r = cc in i)

-- With room for its bytes the core table is never short either.
core_alike : (s : List ℕ) (m n : ℕ) (x : Result (List Declaration)) → length s / 3 ≤ m → length s / 3 ≤ n → Roomy s x → rest s m x ≡ rest s n x
core_alike s m n (done ds q) h k r =
    ap (tested s ds q) (le-leb q.rows m (omega (arith, r.0)) ∙ sym (le-leb q.rows n (omega (arith, r.0))))
core_alike s m n (refused c) h k r = refl

pub bytes_are_enough : BytesAreEnough
bytes_are_enough s y z h k e =
    alike_by s y z
    (loads_by s y ∙ core_alike s (y.core / 8) (z.core / 8) (parsing s y start) h.core k.core (parsing_roomy s y h.surface h.declarations)
    ∙ ap (rest s (z.core / 8)) (parsed_alike s y z h.surface h.declarations k.surface k.declarations e) ∙ sym (loads_by s z))

-- A refusal of `storage` is not for want of room.
not_full : (c : Class) → storage_refusal c ≡ true → is_full c ≡ false
not_full Class.SurfaceFull h = absurd (false≢true h)
not_full Class.DeclarationsFull h = absurd (false≢true h)
not_full Class.CoreShort h = absurd (false≢true h)
not_full c h = refl

pub never_full : NeverFull
never_full s z r h e = by (parsing s z start) (parsing_roomy s z h.surface h.declarations) (sym (answers_by s z) ∙ e)
  where
    same : (b : Refusal) → is_full b.class ≡ false → ◌≡◌ {A = Answer} (Err b) (Err r) → is_full r.class ≡ false
    same b f i = subst (λ (x : Refusal). is_full x.class ≡ false) (refused_inj i) f

    named : (ds : List Declaration) (p : Position) (o : Option RefusedName) → Late o
        → (outcome s z (after (accept o p) (λ _ r. done ds r))).answer ≡ Err r → is_full r.class ≡ false
    named ds p none l i = absurd (let y : ◌≡◌ {A = ℕ} 0 1 = cc in omega arith)
    named ds p (some n) l i = same (nowhere n.class) l.1 i

    by : (x : Result (List Declaration)) → Roomy s x → (outcome s z (rest s (z.core / 8) x)).answer ≡ Err r → is_full r.class ≡ false
    by (done ds q) k i =
        named ds q (first_refused s [] ds) (late s [] ds)
        (ap (λ (b : Bool). (outcome s z (tested s ds q b)).answer) (sym (le-leb q.rows (z.core / 8) (omega (arith, k.0, h.core)))) ∙ i)
    by (refused b) k i = same b (not_full b.class k) i
