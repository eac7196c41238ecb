-- What parsing leaves, from what it stores: the tables are cleared behind it.
use Rattle.surface.specs.SameCore.{row_count, declaration_count}
use mathlib.Core.Path.{◌≡◌, refl, ap, ◌∙◌}
use mathlib.Core.List.{List, []}
use Prim.Native.Nat.{ℕ, ◌*◌, ◌/◌, ◌≤◌}
use native.Mathlib.Omega.{arith}
use lib.ListN.{length}
use Rattle.terms.specs.Label.{Declaration}
use Rattle.surface.specs.Reader.{start, Result, done, refused}
use Rattle.surface.specs.Loading.{Lengths, parsing}
use Rattle.tables.specs.Tables.{cleared}
use Rattle.reader.specs.Answers.{ModuleRead}
use Rattle.reader.specs.Reads.{ReadsModule}
use Rattle.loader.specs.Leaving.{lengths_of}
use Rattle.loader.specs.Parsed.{parsed, parse, parsing_leaves}
use Rattle.loader.proofs.Left.{front, whole}
use Rattle.loader.proofs.Fronts.{fronts}

module _ (s surface declarations work : List ℕ) (r : ModuleRead) (surface₁ declarations₁ work₁ : List ℕ)
    (h : ReadsModule (parsing s (lengths_of surface [] declarations work) start) surface declarations r surface₁ declarations₁) where
  abbrev z : Lengths
  z = lengths_of surface [] declarations work

  abbrev Read : Result (List Declaration) → Type 0
  Read o = ReadsModule o surface declarations r surface₁ declarations₁

  -- There is room for what the answer counts.
  pub counted : (row_count r ≤ length surface / 8) × (declaration_count r ≤ length declarations / 5)
  counted = by (parsing s z start) refl h
    where
      by : (o : Result (List Declaration)) → parsing s z start ≡ o → Read o → (row_count r ≤ length surface / 8) × (declaration_count r ≤ length declarations / 5)
      by (refused x) e w = (omega (arith, ap row_count w), omega (arith, ap declaration_count w))
      by (done ds q) e w =
          let f = fronts s surface declarations work surface₁ declarations₁ r ds q e w in
          (omega (arith, ap row_count w.0, f.rows), omega (arith, ap declaration_count w.0, f.count))

  module _ (a : length surface₁ ≡ length surface) (c : length declarations₁ ≡ length declarations) (d : length work₁ ≡ length work) where
    pub left_by_parse : parsing_leaves r (cleared surface₁ (row_count r * 8)) (cleared declarations₁ (declaration_count r * 5)) (cleared work₁ 0) ≡ parse s z
    unfolding parse
    left_by_parse = by (parsing s z start) refl h
      where
        by : (o : Result (List Declaration)) → parsing s z start ≡ o → Read o
            → parsing_leaves r (cleared surface₁ (row_count r * 8)) (cleared declarations₁ (declaration_count r * 5)) (cleared work₁ 0) ≡ parsed z o
        by (refused x) e w =
            let t = ap (λ (j : ℕ). cleared surface₁ (j * 8)) (ap row_count w) ∙ whole surface₁ (length surface) a in
            let v = ap (λ (j : ℕ). cleared declarations₁ (j * 5)) (ap declaration_count w) ∙ whole declarations₁ (length declarations) c in
            let u = whole work₁ (length work) d in
            λ i. parsing_leaves (w i) (t i) (v i) (u i)
        by (done ds q) e w =
            let f = fronts s surface declarations work surface₁ declarations₁ r ds q e w in
            let t = ap (λ (j : ℕ). cleared surface₁ (j * 8)) (ap row_count w.0) ∙ front surface₁ (length surface) (q.rows * 8) _ a (omega (arith, f.rows)) f.surface_front in
            let v = ap (λ (j : ℕ). cleared declarations₁ (j * 5)) (ap declaration_count w.0) ∙ front declarations₁ (length declarations) (length ds * 5) _ c (omega (arith, f.count)) f.list_front in
            let u = whole work₁ (length work) d in
            λ i. parsing_leaves (w.0 i) (t i) (v i) (u i)
