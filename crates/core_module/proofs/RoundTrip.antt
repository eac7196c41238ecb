-- The round trip, from the promises of `print`, `load` and the two readers.
use Rattle.token.specs.declared.Class.{Class}
use mathlib.Core.Path.{◌≡◌, refl, sym, ap, ◌∙◌, subst, subst₂}
use mathlib.Core.Logic.{◌⊎◌, ⊎_elim}
use mathlib.Core.List.{List, [], ◌∷◌}
use mathlib.Core.Bool.{Bool, true, false}
use Prim.Native.Nat.{ℕ, zero, suc, ◌≤◌, ◌<◌}
use native.Mathlib.Omega.{arith}
use lib.Dec.{leb}
use borrow.Author.Tests.{leb-true, le-leb, lt-leb}
use lib.ListN.{length, take}
use Rattle.std.specs.Prelude.{Ok, Err}
use Rattle.terms.specs.Label.{Declaration}
use Rattle.terms.specs.Rows.{pad}
use Rattle.terms.proofs.Widths.{total}
use Rattle.surface.specs.Answer.{Answer}
use Rattle.surface.specs.Grammar.{Derives}
use Rattle.surface.specs.Reader.{Position, start, Result, done, refused, after, pure, require, nowhere}
use Rattle.surface.specs.Tables.{Lengths, Tables, lengths, leaves}
use Rattle.surface.specs.Loading.{loading, Outcome, outcome, load, Loads}
use Rattle.surface.specs.SameCore.{row_count, declaration_count, Accepts}
use Rattle.surface.proofs.Takes.{after_go}
use Rattle.surface.proofs.Steps.{after_elim, require_elim, done_inj}
use Rattle.surface.proofs.CompleteModule.{unique}
use Rattle.surface.proofs.Acceptance.{is_read, is_loaded}
use Rattle.printing.specs.PrintCall.{text_of, printing, PrintLeft, print_outcome, print, Prints}
use Rattle.core_module.specs.CoreText.{text_outcome, read_core, read_canonical, ReadsCore, ReadsCanonical}
use Rattle.core_module.specs.SameText.{SameText}
use Rattle.core_module.specs.Statements.{Roomy, PrintsLoaded}
use Rattle.core_module.proofs.Short.{text_short}
use Rattle.core_module.proofs.ReadBack.{Room, read_back, canonical_back, same_back}

-- Reading the text t into tables of the lengths y, where the source s was loaded into tables of the lengths z.
record TripGoes (s : List ℕ) (z : Lengths) (t : List ℕ) (y : Lengths) : Type 0 where
  accepts : Accepts (read_core t y)
  same : SameText s (load s z) t (read_core t y)
  canonical : read_canonical t y ≡ read_core t y

loaded_trip : (s : List ℕ) (z : Lengths) (ds : List Declaration) (q : Position) → loading s z start ≡ done ds q
    → (y : Lengths) → Room y q.rows (length ds) → TripGoes s z (text_of s ds) y
unfolding load read_core read_canonical
loaded_trip s z ds q e y r =
    let t = text_of s ds in
    let c = (is_read s z ds q (is_loaded s z ds q e).read).rows in
    let x : Room y (total 0 ds) (length ds) = record { core = omega (arith, c, r.core); list = r.list; work = r.work } in
    let b = read_back s z ds q e y x in
    let f = b.reads in
    record {
      accepts = subst (λ (o : Result (List Declaration)). Accepts (text_outcome y o)) (sym f) (b.position.rows, length b.given, refl);
      same = subst₂ (λ (o p : Result (List Declaration)). SameText s (outcome s z o) t (text_outcome y p)) (sym e) (sym f) (same_back s z ds q e y b);
      canonical = ap (text_outcome y) (canonical_back s z ds q e y b ∙ sym f);
    }

take_pad : (t : List ℕ) (n : ℕ) → length t ≤ n → take (length t) (pad n t) ≡ t
take_pad [] n h = refl
take_pad (b ∷ t) zero h = absurd (omega arith)
take_pad (b ∷ t) (suc n) h = ap {B = List ℕ} (λ r. b ∷ r) (take_pad t n (omega arith))

-- What a call of `print` that answers the length n has done: it loaded the source, and the first n bytes of its buffer are the text.
record IsPrinted (s : List ℕ) (z : Lengths) (m n : ℕ) : Type 0 where
  declarations : List Declaration
  position : Position
  loads : loading s z start ≡ done declarations position
  text : take n (print s z m).text ≡ text_of s declarations
  tables : (print s z m).tables ≡ (load s z).tables

is_printed : (s : List ℕ) (z : Lengths) (m n : ℕ) → (print s z m).answer ≡ Ok n → IsPrinted s z m n
unfolding print printing load
is_printed s z m n a = go (printing s z m start) refl a
  where
    go : (o : Result (List Declaration)) → printing s z m start ≡ o → (print_outcome s z m o).answer ≡ Ok n → IsPrinted s z m n
    go (refused x) e f = absurd (let i : ◌≡◌ {A = ℕ} 0 1 = cc in omega arith)
    go (done ds q) e f =
        after_elim (loading s z start) _ ds q e (λ es p g e₁.
        require_elim (leb (length (text_of s es)) m) _ p _ ds q e₁ (λ h e₂.
        let i = done_inj e₂ in
        let j : es ≡ ds = i.0 in
        let t = text_of s ds in
        let l : loading s z start ≡ done ds q = g ∙ (λ v. done (j v) (i.1 v)) in
        let c : length t ≡ n = cc in
        let b : length t ≤ m = subst (λ (x : List Declaration). length (text_of s x) ≤ m) j (leb-true (length (text_of s es)) m h) in
        record {
          declarations = ds;
          position = q;
          loads = l;
          text = ap (λ (o : Result (List Declaration)). take n (print_outcome s z m o).text) e ∙ ap (λ (k : ℕ). take k (pad m t)) (sym c) ∙ take_pad t m b;
          tables = ap (λ (o : Result (List Declaration)). (print_outcome s z m o).tables) e ∙ ap (λ (o : Result (List Declaration)). (outcome s z o).tables) (sym l);
        }))

-- A call of `print` that prints leaves the tables as a call of `load` does, which accepts.
pub print_loads : (s : List ℕ) (before : Tables) (buffer : List ℕ) (n : ℕ) (after : Tables) (text : List ℕ) → Prints s before buffer (Ok n) after text
    → let a = (load s (lengths before)).answer in Loads s before a after × Accepts (leaves a after)
unfolding load
print_loads s before buffer n after text e =
    let z = lengths before in
    let p = is_printed s z (length buffer) n (sym (ap (λ (x : PrintLeft). x.answer) e)) in
    let u : (load s z).tables ≡ after = sym p.tables ∙ ap (λ (x : PrintLeft). x.tables) (sym e) in (
      ap (λ (x : Tables). leaves (load s z).answer x) (sym u),
      (p.position.rows, length p.declarations, ap (λ (o : Result (List Declaration)). (outcome s z o).answer) p.loads),
    )

-- A source that is loaded is printed where the buffer is as long as its text.
printed_as : (s : List ℕ) (z : Lengths) (m : ℕ) (ds : List Declaration) (q : Position) → loading s z start ≡ done ds q
    → (length (text_of s ds) ≤ m → (print s z m).answer ≡ Ok (length (text_of s ds))) × (m < length (text_of s ds) → (print s z m).answer ≡ Err (nowhere Class.TextShort))
unfolding print printing
printed_as s z m ds q e =
    let answers : (b : Bool) → leb (length (text_of s ds)) m ≡ b → (print s z m).answer ≡ (print_outcome s z m (after (require b (nowhere Class.TextShort) q) (λ _. pure ds))).answer =
    λ b h. ap (λ (o : Result (List Declaration)). (print_outcome s z m o).answer) (after_go _ _ ds q _ e (ap (λ (x : Bool). after (require x (nowhere Class.TextShort) q) (λ _. pure ds)) h)) in
    (λ h. answers true (le-leb (length (text_of s ds)) m h), λ h. answers false (lt-leb (length (text_of s ds)) m h))

-- What a call of `load` that accepts has done.
record IsLoadedBy (s : List ℕ) (z : Lengths) (a : Answer) : Type 0 where
  declarations : List Declaration
  position : Position
  loads : loading s z start ≡ done declarations position
  rows : row_count a ≡ position.rows
  counted : declaration_count a ≡ length declarations

is_loaded_by : (s : List ℕ) (z : Lengths) (a : Answer) (after : Tables) → leaves a after ≡ load s z → Accepts (leaves a after) → IsLoadedBy s z a
unfolding load
is_loaded_by s z a after e h = go (loading s z start) refl (ap (λ (o : Outcome). o.answer) e)
  where
    go : (o : Result (List Declaration)) → loading s z start ≡ o → a ≡ (outcome s z o).answer → IsLoadedBy s z a
    go (refused r) f g = absurd (let k = h.2 in let i : ◌≡◌ {A = ℕ} 0 1 = cc in omega arith)
    go (done ds q) f g = record { declarations = ds; position = q; loads = f; rows = ap row_count g; counted = ap declaration_count g }

loaded_derives : (s : List ℕ) (z : Lengths) (ds : List Declaration) (q : Position) → loading s z start ≡ done ds q → Derives s ds
loaded_derives s z ds q e = (is_read s z ds q (is_loaded s z ds q e).read).readable.derives

pub prints_loaded : PrintsLoaded
prints_loaded s before h =
    let z = lengths before in
    let w = is_loaded_by s z (load s z).answer (load s z).tables refl h in
    let ds = w.declarations in
    let r = (is_read s z ds w.position (is_loaded s z ds w.position w.loads).read).readable in (
      length (text_of s ds),
      text_short s ds r.derives r.short,
      λ buffer a after text e.
          let p = printed_as s z (length buffer) ds w.position w.loads in
          let i = ap (λ (x : PrintLeft). x.answer) e in
          (λ k. i ∙ p.0 k, λ k. i ∙ p.1 k),
    )

-- Any call that loads the source, any that prints it, and any that reads what was printed.
pub any_round_trip : (s : List ℕ) (before₁ : Tables) (a : Answer) (after₁ : Tables) → Loads s before₁ a after₁ → Accepts (leaves a after₁)
    → (before₂ : Tables) (buffer : List ℕ) (n : ℕ) (after₂ : Tables) (text : List ℕ) → Prints s before₂ buffer (Ok n) after₂ text
    → (lent : Tables) (b : Answer) (left : Tables) → Roomy (row_count a) (declaration_count a) lent → ReadsCore (take n text) lent b left ⊎ ReadsCanonical (take n text) lent b left
    → Accepts (leaves b left) × SameText s (leaves a after₁) (take n text) (leaves b left)
any_round_trip s before₁ a after₁ l h before₂ buffer n after₂ text e lent b left r f =
    let z = lengths before₁ in
    let y = lengths lent in
    let w = is_loaded_by s z a after₁ l h in
    let p = is_printed s (lengths before₂) (length buffer) n (sym (ap (λ (x : PrintLeft). x.answer) e)) in
    let d = unique s p.declarations w.declarations (loaded_derives s (lengths before₂) p.declarations p.position p.loads) (loaded_derives s z w.declarations w.position w.loads) in
    let t : text_of s w.declarations ≡ take n text = ap (text_of s) (sym d) ∙ sym p.text ∙ ap (λ (x : PrintLeft). take n x.text) (sym e) in
    let g = subst (λ (x : List ℕ). TripGoes s z x y) t
    (loaded_trip s z w.declarations w.position w.loads y (record { core = omega (arith, w.rows, r.core); list = omega (arith, w.counted, r.list); work = r.work })) in
    let reads : read_core (take n text) y ≡ leaves b left = ⊎_elim (λ x. sym x) (λ x. sym (x ∙ g.canonical)) f in
    (subst Accepts reads g.accepts, subst₂ (λ (o x : Outcome). SameText s o (take n text) x) (sym l) reads g.same)
