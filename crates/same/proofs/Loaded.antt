-- What loading a source leaves, refused or not, for the comparison.
use Rattle.std.specs.Prelude.{Err}
use Prim.Native.Nat.{ℕ, ◌*◌, ◌≤◌}
use mathlib.Core.Path.{◌≡◌, refl, sym, ap, subst}
use mathlib.Core.List.{List, [], map}
use native.Mathlib.Omega.{arith}
use lib.ListN.{length}
use Rattle.token.specs.declared.Refusal.{Refusal}
use Rattle.terms.specs.Label.{Declaration, named_declaration}
use Rattle.terms.specs.Rows.{pad}
use Rattle.terms.proofs.Widths.{total_surface}
use Rattle.surface.specs.Answer.{loaded}
use Rattle.surface.specs.Grammar.{Derives}
use Rattle.surface.specs.Reader.{start, Result, done, refused}
use Rattle.surface.specs.Loading.{Lengths, loading, Outcome, outcome, load}
use Rattle.surface.specs.SameCore.{row_count, declaration_count}
use Rattle.surface.proofs.Shaped.{shaped}
use Rattle.surface.proofs.Acceptance.{is_read, is_loaded}
use Rattle.surface.proofs.KeptLengths.{outcome_keeps}
use Rattle.surface.proofs.Demand.{Contents, contents}
use Rattle.loader.specs.Leaving.{leaving}
use Rattle.same.specs.Comparison.{blank}
use Rattle.same.proofs.ModuleTables.{count_is, hold}
use Rattle.same.proofs.SameModules.{Side}

-- The tables have room for what the answer counts.
pub record Room (o : Outcome) : Type 0 where
  pub rows : row_count o.answer * 8 ≤ length o.tables.core
  pub records : declaration_count o.answer * 5 ≤ length o.tables.declarations

load_room : (s : List ℕ) (z : Lengths) → Room (load s z)
unfolding load
load_room s z = go (loading s z start) refl
  where
    go : (r : Result (List Declaration)) → loading s z start ≡ r → Room (outcome s z r)
    go (refused x) e = record { rows = omega arith; records = omega arith }
    go (done ds q) e =
        let r = is_read s z ds q (is_loaded s z ds q e).read in
        let k = outcome_keeps s z (done ds q) in
        record {
          rows = omega (arith, k.core, r.rows, r.enough.core, total_surface 0 ds);
          records = omega (arith, k.declarations, r.enough.declarations);
        }

-- A call leaves the work area 0, and after a refusal the other tables too.
pub load_work : (s : List ℕ) (z : Lengths) → (load s z).tables.work ≡ pad z.work []
unfolding load
load_work s z = go (loading s z start)
  where
    go : (r : Result (List Declaration)) → (outcome s z r).tables.work ≡ pad z.work []
    go (refused x) = refl
    go (done ds q) = refl

pub load_refused : (s : List ℕ) (z : Lengths) (x : Refusal) → (load s z).answer ≡ Err x → (load s z).tables ≡ blank z
unfolding load
load_refused s z x = go (loading s z start)
  where
    go : (r : Result (List Declaration)) → (outcome s z r).answer ≡ Err x → (outcome s z r).tables ≡ blank z
    go (refused y) e = refl
    go (done ds q) e = absurd (let n : ◌≡◌ {A = ℕ} 0 1 = cc in omega arith)

-- A source that is loaded: its module, and the tables that hold it.
pub record Accepted (s core declarations : List ℕ) (n : ℕ) : Type 0 where
  pub module_read : List Declaration
  pub derives : Derives s module_read
  pub side : Side s core declarations (map (named_declaration s) module_read)
  pub count : length (map (named_declaration s) module_read) ≡ n
  pub room : n * 5 ≤ length declarations

pub accepted : (s : List ℕ) (z : Lengths) (rows n : ℕ) (surface core declarations work : List ℕ)
    → leaving (loaded rows n) surface core declarations work ≡ load s z → Accepted s core declarations n
accepted s z rows n surface core declarations work e =
    let c : Contents s (leaving (loaded rows n) surface core declarations work) =
    subst (Contents s) (sym e) (contents s z (rows, n, ap (λ (o : Outcome). o.answer) (sym e))) in
    let r : Room (leaving (loaded rows n) surface core declarations work) = subst Room (sym e) (load_room s z) in
    let l = map (named_declaration s) c.module_read in
    record {
      module_read = c.module_read;
      derives = c.derives;
      side = record {
        holds = hold s core declarations l rows n c.rows c.records r.rows r.records;
        shaped = shaped s c.module_read c.derives;
        resolves = c.resolves;
      };
      count = count_is s declarations l n c.records;
      room = r.records;
    }
