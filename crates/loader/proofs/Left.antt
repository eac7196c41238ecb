-- What loading leaves, from what it stores: the tables are cleared behind it.
use mathlib.Core.Path.{◌≡◌, ap, ◌∙◌}
use mathlib.Core.List.{List, []}
use Prim.Native.Nat.{ℕ, ◌*◌, ◌≤◌}
use native.Mathlib.Omega.{arith}
use lib.ListN.{length, take}
use Rattle.terms.specs.Label.{Declaration}
use Rattle.terms.specs.Rows.{pad}
use Rattle.surface.specs.Answer.{Answer}
use Rattle.surface.specs.Reader.{start, Result, done, refused}
use Rattle.surface.specs.Loading.{Outcome, outcome, loading, load}
use Rattle.surface.specs.SameCore.{row_count, declaration_count}
use Rattle.tables.specs.Tables.{cleared}
use Rattle.loader.specs.Leaving.{lengths_of, leaving}
use Rattle.loader.specs.inner.Stored.{Stores, Counts}
use Rattle.loader.proofs.Cleared.{cleared_behind, cleared_whole}

-- A table of the length n whose first k words are ws.
pub front : (t : List ℕ) (n k : ℕ) (ws : List ℕ) → length t ≡ n → k ≤ n → take k t ≡ ws → cleared t k ≡ pad n ws
front t n k ws e h f = cleared_behind t k ws (omega arith) f ∙ ap (λ (m : ℕ). pad m ws) e

pub whole : (t : List ℕ) (n : ℕ) → length t ≡ n → cleared t 0 ≡ pad n []
whole t n e = cleared_whole t ∙ ap (λ (m : ℕ). pad m []) e

module _ (s surface core declarations work : List ℕ) (r : Answer) (surface₁ core₁ declarations₁ work₁ : List ℕ)
    (a : length surface₁ ≡ length surface) (b : length core₁ ≡ length core) (c : length declarations₁ ≡ length declarations) (d : length work₁ ≡ length work)
    (n : Counts r surface core declarations) where
  abbrev left : Outcome
  left = leaving r (cleared surface₁ (row_count r * 8)) (cleared core₁ (row_count r * 8)) (cleared declarations₁ (declaration_count r * 5)) (cleared work₁ 0)

  by : (o : Result (List Declaration)) → Stores s o r surface₁ core₁ declarations₁ → left ≡ outcome s (lengths_of surface core declarations work) o
  by (refused x) h =
      let k : row_count r ≡ 0 = ap row_count h in
      let m : declaration_count r ≡ 0 = ap declaration_count h in
      let t = ap (λ (j : ℕ). cleared surface₁ (j * 8)) k ∙ whole surface₁ (length surface) a in
      let u = ap (λ (j : ℕ). cleared core₁ (j * 8)) k ∙ whole core₁ (length core) b in
      let v = ap (λ (j : ℕ). cleared declarations₁ (j * 5)) m ∙ whole declarations₁ (length declarations) c in
      let w = whole work₁ (length work) d in
      λ i. leaving (h i) (t i) (u i) (v i) (w i)
  by (done ds q) h =
      let k : row_count r ≡ q.rows = ap row_count h.0 in
      let m : declaration_count r ≡ length ds = ap declaration_count h.0 in
      let t = ap (λ (j : ℕ). cleared surface₁ (j * 8)) k ∙ front surface₁ (length surface) (q.rows * 8) _ a (omega (arith, n.rows_read, k)) h.1 in
      let u = ap (λ (j : ℕ). cleared core₁ (j * 8)) k ∙ front core₁ (length core) (q.rows * 8) _ b (omega (arith, n.rows_resolved, k)) h.2 in
      let v = ap (λ (j : ℕ). cleared declarations₁ (j * 5)) m ∙ front declarations₁ (length declarations) (length ds * 5) _ c (omega (arith, n.records, m)) h.3 in
      let w = whole work₁ (length work) d in
      λ i. leaving (h.0 i) (t i) (u i) (v i) (w i)

  pub left_by_load : Stores s (loading s (lengths_of surface core declarations work) start) r surface₁ core₁ declarations₁ → left ≡ load s (lengths_of surface core declarations work)
  unfolding load
  left_by_load h = by (loading s (lengths_of surface core declarations work) start) h
