-- What reading a core text leaves, from what it stores: the tables are cleared behind it.
use mathlib.Core.Path.{◌≡◌, ap, ◌∙◌}
use mathlib.Core.List.{List, []}
use Prim.Native.Nat.{ℕ, ◌*◌}
use native.Mathlib.Omega.{arith}
use lib.ListN.{length}
use Rattle.terms.specs.Label.{Declaration}
use Rattle.surface.specs.Answer.{Answer}
use Rattle.surface.specs.Reader.{Result, done, refused}
use Rattle.surface.specs.Tables.{tables, lengths, leaves}
use Rattle.surface.specs.Loading.{Outcome}
use Rattle.surface.specs.SameCore.{row_count, declaration_count}
use Rattle.tables.specs.Tables.{cleared}
use Rattle.core_module.specs.CoreText.{text_outcome}
use Rattle.loader.proofs.Left.{front, whole}
use Rattle.core_loader.specs.inner.Stored.{StoresText, CountsText}

module _ (core list work : List ℕ) (r : Answer) (core₁ list₁ work₁ : List ℕ)
    (b : length core₁ ≡ length core) (c : length list₁ ≡ length list) (d : length work₁ ≡ length work) (n : CountsText r core list) where
  abbrev leaving : Answer → List ℕ → List ℕ → List ℕ → Outcome
  leaving a x y w = leaves a (tables [] x y w)

  pub left : (o : Result (List Declaration)) → StoresText o r core₁ list₁
      → leaving r (cleared core₁ (row_count r * 8)) (cleared list₁ (declaration_count r * 5)) (cleared work₁ 0) ≡ text_outcome (lengths (tables [] core list work)) o
  left (refused x) h =
      let u = ap (λ (j : ℕ). cleared core₁ (j * 8)) (ap row_count h) ∙ whole core₁ (length core) b in
      let v = ap (λ (j : ℕ). cleared list₁ (j * 5)) (ap declaration_count h) ∙ whole list₁ (length list) c in
      let w = whole work₁ (length work) d in
      λ i. leaving (h i) (u i) (v i) (w i)
  left (done ds q) h =
      let k : row_count r ≡ q.rows = ap row_count h.0 in
      let m : declaration_count r ≡ length ds = ap declaration_count h.0 in
      let u = ap (λ (j : ℕ). cleared core₁ (j * 8)) k ∙ front core₁ (length core) (q.rows * 8) _ b (omega (arith, n.rows, k)) h.1 in
      let v = ap (λ (j : ℕ). cleared list₁ (j * 5)) m ∙ front list₁ (length list) (length ds * 5) _ c (omega (arith, n.records, m)) h.2 in
      let w = whole work₁ (length work) d in
      λ i. leaving (h.0 i) (u i) (v i) (w i)
