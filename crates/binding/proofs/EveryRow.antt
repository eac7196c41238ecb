-- Every row that loading counts is the row of a term, and no other is.
use mathlib.Core.Path.{◌≡◌, refl}
use mathlib.Core.List.{List, [], ◌∷◌}
use mathlib.Core.Option.{some}
use Prim.Native.Nat.{ℕ, zero, suc, ◌≤◌, ◌<◌}
use native.Mathlib.Omega.{arith}
use native.Mathlib.Decide.{dec_lt}
use Rattle.terms.specs.Tree.{next}
use Rattle.terms.specs.Label.{Declaration, trees, named}
use Rattle.terms.specs.RowAt.{entry, declaration_row}
use Rattle.terms.proofs.Cells.{next_relabel}
use Rattle.terms.proofs.Entries.{entry_below}
use Rattle.terms.proofs.Widths.{total}
use Rattle.terms.proofs.Everywhere.{PlaceOf, place_of}
use Rattle.surface.proofs.Acceptance.{is_read, is_loaded}
use Rattle.binding.specs.Binds.{parts, Standing}
use Rattle.binding.specs.Statements.{EveryRow}
use Rattle.binding.proofs.Modules.{module_referents, standing_row, length_module}

-- A declaration of a list whose first row is n, and a place of its type or body.
record Somewhere (s : List ℕ) (n : ℕ) (ds : List Declaration) (k : ℕ) : Type 0 where
  number : ℕ
  declaration : Declaration
  declared : entry ds number ≡ some declaration
  place : PlaceOf (declaration_row n ds number) (parts s declaration) k

somewhere : (s : List ℕ) (ds : List Declaration) (n k : ℕ) → n ≤ k → k < total n ds → Somewhere s n ds k
somewhere s [] n k h l = absurd (omega arith)
somewhere s (d ∷ m) n k h l = elim (dec_lt k (next n (trees d))) [
  | yes q ↦ record { number = zero; declaration = d; declared = refl; place = place_of (parts s d) n k h (omega (arith, next_relabel (named s) n (trees d))) }
  | no q ↦ behind (somewhere s m (next n (trees d)) k (omega arith) l)
]
  where
    behind : Somewhere s (next n (trees d)) m k → Somewhere s n (d ∷ m) k
    behind w = record { number = suc w.number; declaration = w.declaration; declared = w.declared; place = w.place }

stands_somewhere : (s : List ℕ) (ds : List Declaration) (k : ℕ) → Somewhere s 0 ds k → Standing s ds k
stands_somewhere s ds k w =
    let p = w.place in
    record {
      number = w.number;
      declaration = w.declaration;
      declared = w.declared;
      part = p.number;
      whole = p.term;
      is_part = p.picked;
      first = _;
      starts = refl;
      place = p.place;
      here = p.here;
      stands = p.there;
      row = p.row;
    }

pub row_below : (s : List ℕ) (ds : List Declaration) (k : ℕ) → Standing s ds k → k < total 0 ds
row_below s ds k w = omega (arith, entry_below (module_referents s 0 [] ds) k _ (standing_row s ds k w), length_module s ds 0 [])

pub every_row : EveryRow
every_row s z ds q e k =
    let rows = (is_read s z ds q (is_loaded s z ds q e).read).rows in (
      λ h. stands_somewhere s ds k (somewhere s ds 0 k (omega arith) (omega arith)),
      λ w. omega (arith, row_below s ds k w),
    )
