-- What is printed for a source that is loaded is read back, and leaves the same core.
use mathlib.Core.Path.{◌≡◌, refl, sym, ap, ◌∙◌, subst}
use mathlib.Core.List.{List, [], map}
use mathlib.Core.Bool.{not}
use Prim.Native.Nat.{ℕ, ◌/◌, ◌≤◌}
use native.Mathlib.Omega.{arith}
use borrow.Author.Tests.{le-leb, eq-eqb}
use lib.ListN.{length, length-map}
use Rattle.terms.specs.Label.{Declaration}
use Rattle.terms.specs.Resolution.{resolve_module}
use Rattle.terms.specs.Content.{record_content}
use Rattle.terms.proofs.Widths.{total}
use Rattle.surface.specs.Reader.{Position, start, done}
use Rattle.surface.specs.Tables.{Lengths}
use Rattle.surface.specs.Loading.{frame_limit, loading, outcome}
use Rattle.surface.proofs.Takes.{after_go, require_go}
use Rattle.surface.proofs.Acceptance.{is_read, is_loaded}
use Rattle.surface.proofs.Demand.{stands}
use Rattle.printing.specs.Printing.{Spelled, print_module, print_text, spelled_core}
use Rattle.printing.specs.PrintCall.{text_of}
use Rattle.core_module.specs.CoreText.{told, reading_text, spelled_text, reading_canonical, text_outcome}
use Rattle.core_module.specs.SameText.{source_meaning, text_meaning, SameText}
use Rattle.core_module.proofs.Printable.{PrintableModule}
use Rattle.core_module.proofs.Modules.{module_goes}
use Rattle.core_module.proofs.Source.{printable, within_module, same_total, same_length}
use Rattle.core_module.proofs.PlainText.{module_plain, plain_whole, no_mark}
use Rattle.core_module.proofs.Repeated.{not_repeated}
use Rattle.core_module.proofs.Short.{text_short}
use Rattle.core_module.proofs.Canonical.{canonical_reads}
use Rattle.core_module.proofs.TextRows.{text_stands}
use Rattle.core_module.proofs.Meanings.{spelled_rows, spelled_records, source_rows, text_meanings, source_records, text_records}

-- Enough storage for so many rows and declarations of a core text: no 9, 10 or 11.
pub record Room (y : Lengths) (rows declarations : ℕ) : Type 0 where
  pub core : rows ≤ y.core / 8
  pub list : declarations ≤ y.declarations / 5
  pub work : 16384 ≤ y.work

-- The spelled core of a source's declarations.
abbrev spelled_of : List ℕ → List Declaration → List Spelled
spelled_of s ds = map (spelled_core s) (resolve_module s [] ds)

-- What reading the text printed for a source's declarations gives.
pub record ReadBack (s : List ℕ) (ds : List Declaration) (y : Lengths) : Type 0 where
  pub given : List Declaration
  pub position : Position
  pub reads : reading_text (text_of s ds) y start ≡ done given position
  pub counted : position.rows ≡ total 0 ds
  pub spelled : map (spelled_text (text_of s ds)) given ≡ spelled_of s ds

-- Of a source that is loaded.
module _ (s : List ℕ) (z : Lengths) (ds : List Declaration) (q : Position) (e : loading s z start ≡ done ds q) where
  loaded_printable : PrintableModule (spelled_of s ds)
  loaded_printable = let l = is_loaded s z ds q e in printable s ds (is_read s z ds q l.read).readable.derives l.names

  pub read_back : (y : Lengths) → Room y (total 0 ds) (length ds) → ReadBack s ds y
  unfolding reading_text print_text
  read_back y r =
      let l = is_loaded s z ds q e in
      let w = (is_read s z ds q l.read).readable in
      let m = spelled_of s ds in
      let t = print_module m in
      let k = loaded_printable in
      let g = module_goes m k (y.core / 8) (y.declarations / 5) frame_limit (within_module s frame_limit [] ds (omega (arith, w.shallow)))
      (omega (arith, same_length s [] ds, r.list)) (omega (arith, same_total s [] 0 ds, r.core)) in
      record {
        given = g.given;
        position = g.position;
        reads =
            require_go _ _ start _ _ (le-leb 16384 y.work r.work)
            (require_go _ _ start _ _ (le-leb (length t) 4294967295 (text_short s ds w.derives w.short))
            (require_go _ _ start _ _ (eq-eqb _ _ (plain_whole t (module_plain m k)))
            (require_go _ _ start _ _ (ap not (no_mark m))
            (after_go _ _ g.given g.position _ (ap told g.reads)
            (require_go _ _ g.position _ _ (ap not (not_repeated s ds t g.given l.names g.spelled)) refl)))));
        counted = g.counted ∙ same_total s [] 0 ds;
        spelled = g.spelled;
      }

  -- The text is its own print.
  pub canonical_back : (y : Lengths) (b : ReadBack s ds y) → reading_canonical (text_of s ds) y start ≡ done b.given b.position
  unfolding print_text
  canonical_back y b = (canonical_reads (text_of s ds) y b.given b.position).1 (b.reads, ap print_module (sym b.spelled))

  pub same_back : (y : Lengths) (b : ReadBack s ds y) → SameText s (outcome s z (done ds q)) (text_of s ds) (text_outcome y (done b.given b.position))
  same_back y b =
      let t = text_of s ds in
      let m = resolve_module s [] ds in
      let g = b.given in
      let k = loaded_printable in
      let c = (is_read s z ds q (is_loaded s z ds q e).read).rows in
      let u = stands s z ds q e in
      let v = text_stands t y g b.position b.reads in
      let i : length ds ≡ length g = sym (same_length s [] ds) ∙ ap length (sym b.spelled) ∙ length-map g (spelled_text t) in
      record {
        row_counts = c ∙ sym b.counted;
        declaration_counts = i;
        same_rows =
            ap (map (source_meaning s)) u.core
            ∙ source_rows s 0 m k
            ∙ ap (spelled_rows 0) (sym b.spelled)
            ∙ sym (text_meanings t 0 g (subst PrintableModule (sym b.spelled) k))
            ∙ ap (map (text_meaning t)) (sym v.core);
        same_declarations =
            ap (map (record_content s)) u.declarations
            ∙ source_records s 0 m
            ∙ ap (spelled_records 0) (sym b.spelled)
            ∙ sym (text_records t 0 g)
            ∙ ap (map (record_content t)) (sym v.declarations);
      }
