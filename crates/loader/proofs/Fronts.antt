-- What parsing stores stands at the beginning of the tables.
use mathlib.Core.Path.{◌≡◌, sym, ap, ◌∙◌}
use mathlib.Core.List.{List, []}
use Prim.Native.Nat.{ℕ, ◌+◌, ◌*◌, ◌/◌, ◌≤◌}
use native.Mathlib.Omega.{arith}
use lib.ListN.{length, take, drop}
use lib.Seq.{take_at}
use Rattle.terms.specs.Label.{Declaration}
use Rattle.terms.specs.Resolution.{resolve_module}
use Rattle.terms.specs.Rows.{joined, surface_rows, declaration_records, read_records}
use Rattle.terms.proofs.Tables.{length_joined}
use Rattle.terms.proofs.Widths.{total_surface, wide_surface, wide_records, count_records}
use Rattle.surface.specs.Reader.{Position, start, done}
use Rattle.surface.specs.Loading.{parsing}
use Rattle.surface.proofs.Acceptance.{is_parsed}
use Rattle.tables.specs.Tables.{with_words}
use Rattle.reader.specs.Answers.{ModuleRead}
use Rattle.reader.specs.Reads.{ReadsModule}
use Rattle.elaborate.proofs.ResolvedTrees.{records_kept}
use Rattle.loader.specs.Leaving.{lengths_of}

-- Words that stand at the beginning of a table.
pub take_front : (t ws : List ℕ) (n : ℕ) → length ws ≡ n → take n (with_words t 0 ws) ≡ ws
take_front t ws n e = take_at ws (drop (0 + length ws) t) n e

pub length_records : (s : List ℕ) (ds : List Declaration) → length (joined (read_records 0 ds)) ≡ length ds * 5
length_records s ds =
    ap (λ (l : List (List ℕ)). length (joined l)) (sym (records_kept s [] 0 ds))
    ∙ length_joined 5 (declaration_records 0 (resolve_module s [] ds)) (wide_records 0 (resolve_module s [] ds))
    ∙ ap (λ (n : ℕ). n * 5) (count_records s [] 0 ds)

pub record Fronts (surface declarations surface₁ declarations₁ : List ℕ) (ds : List Declaration) (q : Position) : Type 0 where
  pub rows : q.rows ≤ length surface / 8
  pub count : length ds ≤ length declarations / 5
  pub all_rows : q.rows ≡ length (surface_rows 0 ds)
  pub surface_front : take (q.rows * 8) surface₁ ≡ joined (surface_rows 0 ds)
  pub list_front : take (length ds * 5) declarations₁ ≡ joined (read_records 0 ds)

pub fronts : (s surface declarations work surface₁ declarations₁ : List ℕ) (r : ModuleRead) (ds : List Declaration) (q : Position)
    → parsing s (lengths_of surface [] declarations work) start ≡ done ds q → ReadsModule (done ds q) surface declarations r surface₁ declarations₁
    → Fronts surface declarations surface₁ declarations₁ ds q
fronts s surface declarations work surface₁ declarations₁ r ds q e w =
    let p = is_parsed s (lengths_of surface [] declarations work) ds q e in
    let n : q.rows ≡ length (surface_rows 0 ds) = omega (arith, p.rows, total_surface 0 ds) in
    record {
      rows = omega (arith, p.rows, p.surface);
      count = p.declarations;
      all_rows = n;
      surface_front =
          ap (take (q.rows * 8)) w.1
          ∙ take_front surface (joined (surface_rows 0 ds)) (q.rows * 8) (length_joined 8 (surface_rows 0 ds) (wide_surface 0 ds) ∙ ap (λ (m : ℕ). m * 8) (sym n));
      list_front = ap (take (length ds * 5)) w.2 ∙ take_front declarations (joined (read_records 0 ds)) (length ds * 5) (length_records s ds);
    }
