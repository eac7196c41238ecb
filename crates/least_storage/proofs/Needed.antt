-- The answer of `storage` by the grammar, and the frames that it gives.
use mathlib.Core.Path.{◌≡◌, refl, sym, ap, ◌∙◌, subst}
use mathlib.Core.List.{List}
use Prim.Native.Nat.{ℕ, ◌+◌, ◌*◌, ◌/◌, ◌≤◌}
use native.Mathlib.Omega.{arith}
use lib.Dec.{leb}
use lib.ListN.{length}
use Rattle.terms.specs.Label.{Declaration}
use Rattle.terms.proofs.Widths.{total, total_surface}
use Rattle.surface.specs.Reader.{Position, start, Result, done, refused}
use Rattle.surface.specs.Tables.{Lengths, ample}
use Rattle.surface.specs.Sizes.{deepest, row_total}
use Rattle.surface.specs.Loading.{parsing, reading}
use Rattle.surface.specs.Statements.{Readable}
use Rattle.surface.proofs.Steps.{after_elim, require_elim, done_as}
use Rattle.surface.proofs.SoundModule.{sound}
use Rattle.surface.proofs.CompleteModule.{complete, unique}
use Rattle.surface.proofs.Acceptance.{is_parsed, reads}
use Rattle.std.specs.Prelude.{Ok}
use Rattle.least_storage.specs.declared.Needs.{Needs}
use Rattle.least_storage.specs.Answer.{Storage, needs}
use Rattle.least_storage.specs.Storage.{needed, storage}
use Rattle.least_storage.specs.Statements.{NeedsOfModule, FewerThanBytes, FramesNeeded}
use Rattle.least_storage.proofs.Parsed.{Roomy, parsing_roomy, parsed_alike}

-- What a source is of which the storage is known.
pub record Known (s : List ℕ) (work rows count frames : ℕ) : Type 0 where
  pub module_read : List Declaration
  pub position : Position
  pub parsed : parsing s (ample s work) start ≡ done module_read position
  pub rows_are : rows ≡ total 0 module_read
  pub count_is : count ≡ length module_read
  pub frames_are : frames ≡ deepest module_read
  pub readable : Readable s module_read
  pub area : 16384 ≤ work
  pub rows_read : position.rows ≡ rows

needs_inj : {m n : Needs} → ◌≡◌ {A = Storage} (Ok m) (Ok n) → m ≡ n
needs_inj e = cc

pub known : (s : List ℕ) (work rows count frames : ℕ) → storage s work ≡ needs rows count frames → Known s work rows count frames
unfolding storage
known s work rows count frames e = go (parsing s (ample s work) start) refl e
  where
    go : (x : Result (List Declaration)) → parsing s (ample s work) start ≡ x → needed x ≡ needs rows count frames → Known s work rows count frames
    go (done ds q) f g =
        let i = is_parsed s (ample s work) ds q f in
        let n = needs_inj g in
        let a : q.rows ≡ rows = ap (λ (n : Needs). n.rows) n in
        let b : length ds ≡ count = ap (λ (n : Needs). n.declarations) n in
        let c : deepest ds ≡ frames = ap (λ (n : Needs). n.frames) n in
        record {
          module_read = ds;
          position = q;
          parsed = f;
          rows_are = sym a ∙ i.rows;
          count_is = sym b;
          frames_are = sym c;
          readable = i.readable;
          area = i.work;
          rows_read = a;
        }
    go (refused b) f g = absurd (let z : ◌≡◌ {A = ℕ} 0 1 = cc in omega arith)

-- A readable source is parsed with the tables of `ample`: with some tables it is read, and tables that are larger change nothing.
parses : (s : List ℕ) (work : ℕ) (ds : List Declaration) → Readable s ds → 16384 ≤ work → (q : Position) × (parsing s (ample s work) start ≡ done ds q)
unfolding reading
parses s work ds r w =
    let n = row_total ds * 8 in
    let m : Lengths = record { surface = n + length s * 8; core = n; declarations = length ds * 5 + length s * 5; work = work } in
    let v = reads s m ds r (record { surface = omega arith; core = omega arith; declarations = omega arith; work = w }) in
    after_elim (parsing s m start) _ ds v.0 v.1 (λ es p f g.
    require_elim (leb p.rows (n / 8)) _ p _ ds v.0 g (λ a h.
    done_as (λ (x : List Declaration) (q : Position). (q : Position) × (parsing s (ample s work) start ≡ done x q)) h
    (p, parsed_alike s (ample s work) m (omega arith) (omega arith) (omega arith) (omega arith) refl ∙ f)))

pub needs_of_module : NeedsOfModule
unfolding storage
needs_of_module s work rows count frames = (
  λ e. let k = known s work rows count frames e in record {
    declarations = k.module_read;
    readable = k.readable;
    rows_are = omega (arith, k.rows_are, total_surface 0 k.module_read);
    count_is = k.count_is;
    frames_are = k.frames_are;
    area = k.area;
  },
  λ h. let ds = h.declarations in
      let w = parses s work ds h.readable h.area in
      let i : w.0.rows ≡ rows = omega (arith, (is_parsed s (ample s work) ds w.0 w.1).rows, total_surface 0 ds, h.rows_are) in
      ap needed w.1 ∙ (λ j. needs (i j) (sym h.count_is j) (sym h.frames_are j)),
)

pub fewer_than_bytes : FewerThanBytes
fewer_than_bytes s work rows count frames e =
    let k = known s work rows count frames e in
    let r : Roomy s (done k.module_read k.position) = subst (Roomy s) k.parsed (parsing_roomy s (ample s work) (omega arith) (omega arith)) in
    (omega (arith, r.0, k.rows_read), omega (arith, r.1, k.count_is))

-- The same of a source that is known to be readable.
pub readable_fits : (s : List ℕ) (ds : List Declaration) → Readable s ds → (row_total ds ≤ length s / 3) × (length ds ≤ length s / 17)
readable_fits s ds r =
    fewer_than_bytes s 16384 (row_total ds) (length ds) (deepest ds)
    ((needs_of_module s 16384 (row_total ds) (length ds) (deepest ds)).1
    (record { declarations = ds; readable = r; rows_are = refl; count_is = refl; frames_are = refl; area = omega arith }))

pub frames_needed : FramesNeeded
frames_needed s work rows count frames e l =
    let k = known s work rows count frames e in
    let ds = k.module_read in (
      λ h. let m = sound s rows count l h.0 h.1 h.2 in
          omega (arith, m.shallow, ap deepest (unique s h.0 ds m.derives k.readable.derives), k.frames_are),
      λ h. let g = complete s rows count l ds k.readable.derives (omega (arith, k.count_is)) (omega (arith, k.frames_are)) (omega (arith, k.rows_are)) in
          (ds, g.position, g.reads),
    )
