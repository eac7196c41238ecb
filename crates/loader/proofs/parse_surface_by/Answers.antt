-- `loader::parse_surface_by` meets its contract.
use Prim.Native.Nat.{ℕ, ◌*◌}
use mathlib.Core.Path.{ap, ◌∙◌}
use native.Mathlib.Omega.{arith}
use Rattle.tables.specs.Tables.{cleared}
use Rattle.loader.specs.Parsed.{parsing_leaves}
use Rattle.loader.proofs.ParsedTables.{counted, left_by_parse}
use Rattle.loader.proofs.parse_surface_by.Goals as goal

pub overflow_mul-row_count : goal.overflow_mul-row_count
overflow_mul-row_count g c =
    let a = c.args in
    let k = c.parse-read in
    let n = counted a.s.now a.surface.now a.declarations.now a.work.now k.result k.new.surface k.new.declarations k.new.work k.ensures in
    record { fits = omega (arith, n.0, c.row_count.ensures) }

pub overflow_mul-declaration_count : goal.overflow_mul-declaration_count
overflow_mul-declaration_count g c =
    let a = c.args in
    let k = c.parse-read in
    let n = counted a.s.now a.surface.now a.declarations.now a.work.now k.result k.new.surface k.new.declarations k.new.work k.ensures in
    record { fits = omega (arith, n.1, c.declaration_count.ensures) }

pub returns : goal.returns
returns g c =
    let a = c.args in
    let k = c.parse-read in
    let w = left_by_parse a.s.now a.surface.now a.declarations.now a.work.now k.result k.new.surface k.new.declarations k.new.work k.ensures
    k.auto.surface k.auto.declarations k.auto.work in
    let t = c.clear_from.ensures ∙ ap (λ (j : ℕ). cleared k.new.surface (j * 8)) c.row_count.ensures in
    let v = c.clear_from-2.ensures ∙ ap (λ (j : ℕ). cleared k.new.declarations (j * 5)) c.declaration_count.ensures in
    let u = c.clear.ensures in
    (λ i. parsing_leaves k.result (t i) (v i) (u i)) ∙ w
