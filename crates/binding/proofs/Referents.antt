-- What each row refers to, row by row: at the row of a place it is what the lookup gives there.
use mathlib.Core.Path.{◌≡◌, refl, sym, ap, ◌∙◌, subst}
use mathlib.Core.List.{List, [], ◌∷◌, ◌++◌, append_assoc}
use mathlib.Core.Option.{Option, none, some}
use mathlib.Core.Bool.{true, false}
use Prim.Native.Nat.{ℕ, zero, suc, ◌+◌}
use native.Mathlib.Omega.{arith}
use lib.Dec.{eqb}
use lib.ListN.{length, length-append}
use Rattle.terms.specs.Forms.{ref}
use Rattle.terms.specs.Tree.{nil, node, then, maybe, Place, pick, at, next, roots, cells}
use Rattle.terms.specs.Label.{Name, Named, Term, Terms}
use Rattle.terms.specs.Resolution.{find}
use Rattle.terms.specs.RowAt.{entry, tree_row, row_at}
use Rattle.terms.specs.Lookup.{Local, lookup, Referent, refers}
use Rattle.terms.proofs.Names.{none_some, some_inj}
use Rattle.terms.proofs.Cells.{next_cells}
use Rattle.terms.proofs.Entries.{entry_front, entry_behind}
use Rattle.binding.proofs.Located.{own, located}

-- What a term refers to, with the locals, innermost first, and the names of the earlier declarations; none where it is no reference.
unfoldable pub referent_of : List Local → List Name → Named → Option Referent
referent_of l g t = elim (eqb t.kind ref) [ true ↦ some (refers (lookup t.name l) (find t.name g)) | false ↦ none ]

-- The same of each row of a list of terms, in the order of the rows, the first of which is n; `e i` are the locals at the term i.
abbrev pub referents : ℕ → (ℕ → List Local) → List Name → Terms → List (Option Referent)
referents n e g nil = []
referents n e g (node t a r) =
    referents n (λ i. own t (next n a) i ++ e zero) g a
    ++ (referent_of (e zero) g t ∷ referents (suc (next n a)) (λ i. e (suc i)) g r)

pub length_referents : (f : Terms) (n : ℕ) (e : ℕ → List Local) (g : List Name) → length (referents n e g f) ≡ length (cells n f)
length_referents nil n e g = refl
length_referents (node l x r) n e g =
    omega (
      arith,
      length-append (referents n (λ i. own l (next n x) i ++ e zero) g x) (referent_of (e zero) g l ∷ referents (suc (next n x)) (λ i. e (suc i)) g r),
      length-append (cells n x) (record { label = l; children = roots n x } ∷ cells (suc (next n x)) r),
      length_referents x n (λ i. own l (next n x) i ++ e zero) g,
      length_referents r (suc (next n x)) (λ i. e (suc i)) g,
    )

-- Row k refers to what a name's lookup among the locals l and the names g gives.
pub record Refers (n : ℕ) (e : ℕ → List Local) (g : List Name) (f : Terms) (k : ℕ) (l : List Local) (u : Named) : Type 0 where
  pub index : ℕ
  pub number : k ≡ n + index
  pub answer : entry (referents n e g f) index ≡ some (referent_of l g u)

pub place_refers : (f : Terms) (n : ℕ) (e : ℕ → List Local) (g : List Name) (i : ℕ) (p : Place) (t u : Term) (k : ℕ) → pick f i ≡ some t → at p t ≡ some u → row_at (tree_row n f i) p t ≡ some k
    → Refers n e g f k (located (tree_row n f i) p t ++ e i) u.label
place_refers nil n e g i p t u k a b c = none_some a
place_refers (node l x r) n e g zero [] t u k a b c = record {
  index = length (referents n (λ i. own l (next n x) i ++ e zero) g x) + 0;
  number = omega (arith, next_cells n x, length_referents x n (λ i. own l (next n x) i ++ e zero) g, sym (some_inj c) ∙ ap (λ (y : Term). next n y.args) (sym (some_inj a)));
  answer =
      entry_behind (referents n (λ i. own l (next n x) i ++ e zero) g x) (referent_of (e zero) g l ∷ referents (suc (next n x)) (λ i. e (suc i)) g r) 0
      ∙ ap (λ (y : Term). some (referent_of (e zero) g y.label)) (some_inj a ∙ some_inj b);
}
place_refers (node l x r) n e g zero (j ∷ p) t u k a b c =
    subst (λ (y : Term). Refers n e g (node l x r) k (located n (j ∷ p) y ++ e zero) u.label) (some_inj a)
    (go (λ v. place_refers x n (λ i. own l (next n x) i ++ e zero) g j p v u k) (pick x j) refl
    (subst (λ (y : Term). at (j ∷ p) y ≡ some u) (sym (some_inj a)) b)
    (subst (λ (y : Term). row_at n (j ∷ p) y ≡ some k) (sym (some_inj a)) c))
  where
    go : ((v : Term) → pick x j ≡ some v → at p v ≡ some u → row_at (tree_row n x j) p v ≡ some k
        → Refers n (λ i. own l (next n x) i ++ e zero) g x k (located (tree_row n x j) p v ++ (own l (next n x) j ++ e zero)) u.label) → (o : Option Term) → pick x j ≡ o
        → then o (at p) ≡ some u → then o (row_at (tree_row n x j) p) ≡ some k
        → Refers n e g (node l x r) k (maybe o [] (λ v. located (tree_row n x j) p v ++ own l (next n x) j) ++ e zero) u.label
    go ih none q b c = none_some b
    go ih (some v) q b c =
        let w = ih v q b c in
        record {
          index = w.index;
          number = w.number;
          answer =
              entry_front (referents n (λ i. own l (next n x) i ++ e zero) g x) _ w.index _ w.answer
              ∙ ap (λ (m : List Local). some (referent_of m g u.label)) (sym (append_assoc (located (tree_row n x j) p v) (own l (next n x) j) (e zero)));
        }
place_refers (node l x r) n e g (suc i) p t u k a b c =
    let w = place_refers r (suc (next n x)) (λ i. e (suc i)) g i p t u k a b c in
    record {
      index = length (referents n (λ i. own l (next n x) i ++ e zero) g x) + suc w.index;
      number = omega (arith, w.number, next_cells n x, length_referents x n (λ i. own l (next n x) i ++ e zero) g);
      answer = entry_behind (referents n (λ i. own l (next n x) i ++ e zero) g x) (referent_of (e zero) g l ∷ referents (suc (next n x)) (λ i. e (suc i)) g r) (suc w.index) ∙ w.answer;
    }
